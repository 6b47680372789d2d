pub mod Edits
pub mod Free
pub mod Fronts
pub mod Keeping
pub mod Pigeons
pub mod Places
