pub mod Head
pub mod Entries
