-- The parts and the table are those of a copy of a checkpoint, so they are the state of a store.
use Rattle.std.proofs.Common.{◌≡◌, sym, subst, arith}
use Rattle.hlc_checkpoint.specs.{StoreView.StoreView, Checkpoint.IsCheckpoint, Checkpoint.IsCopyOf, Checkpoint.IsStore}
use Rattle.hlc_checkpoint.proofs.CheckpointLemmas.{store-copy}
use Rattle.hlc_core.proofs.store.Core.resuming.Goals as goal

is_store : (made checked : StoreView) → made ≡ checked → (kept : StoreView) × IsCheckpoint kept × IsCopyOf kept checked
    → IsStore made
is_store made checked same of =
    subst IsStore {x = checked} (sym same) (store-copy of.0 checked of.1.store of.2)

pub resuming-requires : goal.resuming-requires
resuming-requires c =
    let nodes = (is_store _ _ c.into_parts-head.ensures.same c.into_parts-head.ensures.sound).sound.nodes in
    rw c.into_lists-links.ensures.links
    (record { some = omega (arith, nodes.some, nodes.linked); few = nodes.bounded })

pub resuming-requires-2 : goal.resuming-requires-2
resuming-requires-2 c =
    rw (c.into_lists-links.ensures.snapshots, c.last_id-last_id.ensures)
    (is_store _ _ c.into_parts-head.ensures.same c.into_parts-head.ensures.sound).register

pub invariant_of-result : goal.invariant_of-result
invariant_of-result c =
    let is = is_store _ _ c.into_parts-head.ensures.same c.into_parts-head.ensures.sound in
    rw (
      c.resuming.ensures,
      c.top-top.ensures.value,
      c.resuming-2.ensures,
      c.into_lists-links.ensures.links,
      c.into_lists-links.ensures.snapshots,
      c.horizon-horizon.ensures,
      c.initial_nodes-initial_nodes.ensures,
    )
    (is.consistent, is.sound)

pub returns : goal.returns
returns c =
    rw (
      c.resuming.ensures,
      c.top-top.ensures.value,
      c.resuming-2.ensures,
      c.into_lists-links.ensures.links,
      c.into_lists-links.ensures.snapshots,
      c.last_id-last_id.ensures,
      c.horizon-horizon.ensures,
      c.initial_nodes-initial_nodes.ensures,
    ) c.into_parts-head.ensures.same
