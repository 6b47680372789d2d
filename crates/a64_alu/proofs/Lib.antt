pub mod Widths
pub mod SumFlags
pub mod Fields
pub mod Highest
