-- Lemmas for callers: a part of a checkpoint is one, and so is what two are joined into.
pub use Rattle.hlc_split.proofs.Restorable.{part-is_checkpoint}
pub use Rattle.hlc_split.proofs.Sides.{joined-is_checkpoint}
