pub mod Changes
pub mod FilesStand
pub mod Fluxes
pub mod Looks
pub mod Same
pub mod SoundFiles
pub mod Steps
