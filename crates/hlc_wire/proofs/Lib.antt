pub mod BatchLemmas
pub mod FieldLemmas
pub mod ItemLemmas
pub mod PlacingLemmas
mod KindLemmas
