pub mod FirstStack
pub mod Mapped
pub mod Nones
pub mod Pushed
pub mod Started
