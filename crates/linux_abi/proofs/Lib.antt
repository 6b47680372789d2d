pub mod CallTable
pub mod SignalTable
