pub mod SignalPlaces
pub mod Counts
pub mod Lowest
pub mod Queues
