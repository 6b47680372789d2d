pub mod Ranges
pub mod RightsRules
