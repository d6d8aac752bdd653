-- Lemmas for callers: what is true of every legal schedule, and of its entries by their turns.
pub use Rattle.hlc_world.proofs.Lists.{push-cases}
pub use Rattle.hlc_world.proofs.Orderly.{orderly, on_link-none, on_node-none, issue-ok, no-core, stamp-rises}
pub use Rattle.hlc_world.proofs.Orderly.{sight-rises}
pub use Rattle.hlc_world.proofs.Times.{entry-cases, entry-inside, opening, opening-later, open-opening, opened-found}
pub use Rattle.hlc_world.proofs.Times.{received-below, observed-below}
pub use Rattle.hlc_world.proofs.Histories.{legal-past}
