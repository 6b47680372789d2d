pub mod MarkRules
pub mod Held
pub mod MarkFields
pub mod ShardFields
