pub mod Causes
pub mod Adapters
pub mod Sources
pub mod Sinks
pub mod Shelves
pub mod Memory
