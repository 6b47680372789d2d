pub mod Changes
pub mod Flags
pub mod Halves
pub mod Pairs
pub mod Scans
