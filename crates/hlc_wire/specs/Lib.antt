pub mod Spelling
pub mod Placing
pub mod Reading
pub mod Refusal
pub mod Faults
