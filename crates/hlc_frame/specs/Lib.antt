pub mod Frame
pub mod Opening
pub mod Writing
pub mod Reading
