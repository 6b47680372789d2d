pub mod FirstStack
pub mod Parts
