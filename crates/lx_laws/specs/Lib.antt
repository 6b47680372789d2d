pub mod Kept
pub mod Callers
pub mod Clock
pub mod Consoles
pub mod Interests
pub mod Tids
pub mod Waiters
pub mod Locks
