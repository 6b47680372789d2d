pub mod Allowed
pub mod PageRanges
pub mod Places
