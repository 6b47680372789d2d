pub mod SetMaps
pub mod SetLoops
pub mod SignalMaps
pub mod SetLaws
