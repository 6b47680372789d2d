pub mod Arming
pub mod Holds
pub mod Kept
pub mod Looking
pub mod LinuxMoves
pub mod Reporting
