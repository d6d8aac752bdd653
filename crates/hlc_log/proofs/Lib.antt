pub mod RecordLemmas
pub mod LogLemmas
pub mod PlaceLemmas
