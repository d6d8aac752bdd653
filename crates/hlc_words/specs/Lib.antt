pub mod Plan
pub mod Words
