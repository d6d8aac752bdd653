pub mod PlaceLemmas
pub mod Fresh
pub mod Looks
