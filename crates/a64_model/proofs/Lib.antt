pub mod ApartLemmas
pub mod Patterns
