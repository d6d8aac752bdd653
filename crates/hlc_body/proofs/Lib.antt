pub mod ListLemmas
pub mod PartLemmas
mod Preambles
