pub mod Increments
