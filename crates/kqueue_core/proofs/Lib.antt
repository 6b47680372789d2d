pub mod Keeping
pub mod Picking
pub mod Reporting
pub mod Sorting
pub mod Steps
pub mod Tallies
pub mod Watching
