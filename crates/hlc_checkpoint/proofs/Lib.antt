pub mod AscendLemmas
pub mod CheckpointLemmas
mod Restored
mod Copied
pub mod LentLemmas
mod Grown
