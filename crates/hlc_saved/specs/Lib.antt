pub mod Saved
pub mod Writing
pub mod Saver
pub mod Blocks
pub mod Faults
