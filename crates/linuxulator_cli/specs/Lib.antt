pub mod Words
pub mod Lines
pub mod Programs
pub mod Outcome
