pub mod Newest
pub mod Order
