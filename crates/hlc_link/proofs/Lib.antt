pub mod Streams
pub mod Keeps
