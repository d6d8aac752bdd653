pub mod Low
pub mod Heads
pub mod Groups
pub mod Faults
