pub mod MarkSpan
pub mod Swapped
