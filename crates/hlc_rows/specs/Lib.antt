pub mod Limits
pub mod Faults
pub mod Rows
pub mod Writes
pub mod Spelled
