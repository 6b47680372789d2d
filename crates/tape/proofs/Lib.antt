pub mod Tests
pub mod Places
pub mod Runs
pub mod Judged
pub mod Version1
pub mod Version2
pub mod Files
