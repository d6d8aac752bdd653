pub mod Sentence
pub mod Kept
pub mod Lines
pub mod Look
pub mod Explained
