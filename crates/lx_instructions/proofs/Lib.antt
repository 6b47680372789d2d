pub mod Filled
pub mod Exchanged
pub mod Small
pub mod Answering
