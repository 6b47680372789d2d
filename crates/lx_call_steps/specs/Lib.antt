pub mod Effects
pub mod Makes
pub mod Outcomes
