pub mod Chains
pub mod Notes
pub mod Locks
pub mod Queues
pub mod Owed
pub mod Board
