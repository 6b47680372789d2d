pub mod Owned
pub mod Found
pub mod Changed
pub mod RowEdits
pub mod Whole
