pub mod LowLemmas
pub mod LeastGroups
