pub mod Places
pub mod Over
pub mod Whole
pub mod PartKinds
pub mod Cases
pub mod Puts
