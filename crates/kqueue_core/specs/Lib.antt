pub mod Changes
pub mod Kept
pub mod Knotes
pub mod Queues
pub mod Reports
pub mod Watched
pub mod Watches
