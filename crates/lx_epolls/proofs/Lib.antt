pub mod FirstAnswer
