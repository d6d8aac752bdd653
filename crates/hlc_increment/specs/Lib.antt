pub mod Increment
pub mod Faults
pub mod Bytes
