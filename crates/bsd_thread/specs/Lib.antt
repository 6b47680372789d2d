pub mod Lending
pub mod Phases
pub mod Calls
pub mod Threads
