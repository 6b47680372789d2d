pub mod Objects
pub mod Parts
pub mod Held
pub mod Lending
pub mod Changes
pub mod Plans
