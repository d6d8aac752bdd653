pub mod Beginning
pub mod Copies
pub mod Feeding
pub mod Joining
