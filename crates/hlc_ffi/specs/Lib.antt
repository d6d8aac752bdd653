pub mod Handle
pub mod Outputs
