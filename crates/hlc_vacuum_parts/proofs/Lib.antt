pub mod Halves
pub mod Passes
mod Between
