-- Lemmas for callers: the turns of a run by their numbers, and what a turn does to links, pasts and clocks.
pub use Rattle.hlc_ranges.proofs.Turns.{turn-cases, turn-inside, turn-keeps, raised-same, raised-other, past-same}
pub use Rattle.hlc_ranges.proofs.Turns.{past-other, issued-same, issued-other_node}
pub use Rattle.hlc_ranges.proofs.Turns.{can-begin}
pub use Rattle.hlc_ranges.proofs.Begins.{new-begin}
