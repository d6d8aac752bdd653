pub mod Going
pub mod Taken
pub mod LineParts
