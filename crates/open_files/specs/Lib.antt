pub mod FileParts
pub mod Kinds
pub mod Making
pub mod Named
pub mod Plain
pub mod PlainParts
