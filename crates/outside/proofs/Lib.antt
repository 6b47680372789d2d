pub mod Parts
pub mod FilesOfAShelf
pub mod ReadsFromTheFront
pub mod Wholes
