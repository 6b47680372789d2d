pub mod Entry
pub mod Runs
pub mod Tape
pub mod TapeText
pub mod TapeFile
pub mod TapeFault
pub mod FaultText
pub mod TapeLaw
