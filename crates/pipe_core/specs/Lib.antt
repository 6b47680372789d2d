pub mod Counters
pub mod Pipes
