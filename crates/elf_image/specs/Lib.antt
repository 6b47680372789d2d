pub mod Faults
pub mod Spans
pub mod Headers
pub mod Rules
pub mod Images
pub mod Layout
