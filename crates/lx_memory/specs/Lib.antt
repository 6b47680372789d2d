pub mod Access
pub mod Bytes
pub mod Ranges
pub mod Gaps
pub mod Queries
pub mod Space
pub mod MemoryFields
pub mod Codes
