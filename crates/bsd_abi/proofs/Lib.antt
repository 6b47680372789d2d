pub mod Bits
pub mod SignalTable
