pub mod Stamp
pub mod NextStamp
pub mod Points
pub mod Faults
