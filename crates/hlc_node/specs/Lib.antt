pub mod Items
pub mod Node
pub mod Seen
pub mod Faults
