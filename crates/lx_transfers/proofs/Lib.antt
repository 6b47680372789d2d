pub mod VectorSteps
