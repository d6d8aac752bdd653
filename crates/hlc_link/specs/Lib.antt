pub mod Ends
pub mod Link
pub mod Faults
