pub mod Best
pub mod PlaceLemmas
pub mod CountLemmas
