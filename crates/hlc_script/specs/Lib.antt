pub mod Reply
pub mod Run
pub mod Asked
