pub mod Instructed
pub mod PutBack
pub mod WholeStepped
pub mod Staged
