pub mod Division
pub mod Ranges
pub mod Placing
pub mod All
pub mod Listing
pub mod Faults
pub mod Machine
pub mod Beginning
