pub mod Waiters
pub mod Places
pub mod Steps
pub mod ThreadTable
pub mod Differ
