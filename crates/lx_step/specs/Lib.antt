pub mod CallSteps
pub mod Outcomes
pub mod Places
pub mod Steps
pub mod Wants
pub mod Wholes
