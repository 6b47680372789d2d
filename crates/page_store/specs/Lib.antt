pub mod Pages
pub mod Frames
pub mod Row
pub mod Kept
