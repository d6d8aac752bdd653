pub mod BitLemmas
pub mod WordLemmas
pub mod RunLemmas
