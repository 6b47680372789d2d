pub mod Numbers
pub mod Image
pub mod Entering
pub mod Phases
pub mod Delivering
pub mod Slots
pub mod Stands
pub mod Boot
