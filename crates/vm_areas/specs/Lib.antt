pub mod Kept
pub mod PageMap
pub mod Painted
pub mod Ranges
pub mod Steps
