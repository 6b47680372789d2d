pub mod Program
pub mod Plain
