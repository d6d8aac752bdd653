mod Stages
mod Sizes
mod Blocks
pub mod SaveLemmas
mod Pieces
mod StorePieces
mod Makes
mod Savers
mod GoesOn
