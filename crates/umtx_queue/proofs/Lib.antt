pub mod Picking
pub mod Tallies
pub mod NoteMaps
pub mod LineFacts
pub mod LineValues
pub mod LineLaws
pub mod PiFacts
pub mod PiLaws
