pub mod Pass
pub mod Between
