pub mod Counts
pub mod Opening
