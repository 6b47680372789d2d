pub mod Signals
pub mod Sets
