pub mod Halves
pub mod Outputs
