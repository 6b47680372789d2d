pub mod Families
pub mod Owing
pub mod Whole
pub mod Sound
pub mod Stands
pub mod Rows
pub mod Law
pub mod Step
