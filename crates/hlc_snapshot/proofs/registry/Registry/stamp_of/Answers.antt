-- The first snapshot that is not lower has the id, or none has.
use Rattle.std.proofs.Common.{◌∙◌, sym, ap, true≢false, AllPairs, lt-ltb, ltb-true}
use Rattle.std.proofs.lemmas.List.{get_or_default}
use Rattle.hlc_snapshot.specs.declared.snapshot.Snapshot.{Snapshot}
use Rattle.hlc_snapshot.proofs.{Rising.IsOlder, Found.stamp_in-found, Found.stamp_in-missing}
use Rattle.hlc_snapshot.proofs.registry.Registry.stamp_of.Goals.{in_default-via-in-Some+else-snapshot-id}
use Rattle.hlc_snapshot.proofs.registry.Registry.stamp_of.Goals.{in_default-via-in_default}
use Rattle.hlc_snapshot.proofs.registry.Registry.stamp_of.Goals as goal

pub returns-in-Some-clause-value : goal.returns-in-Some-clause-value
returns-in-Some-clause-value c =
    let pairs : AllPairs IsOlder c.as_slice-snapshots.result.now = rw (c.as_slice-snapshots.ensures.value)
    c.self.invariant.rising in
    rw (← c.self.view_is, ← c.as_slice-snapshots.ensures.value)
    (sym (stamp_in-found c.as_slice-snapshots.result.now c.args.id c.count_below.result c.in-Some.snapshot.now
    pairs (ltb-true _ _ (sym c.in-Some.ensures.lookup.0)) c.in-Some.ensures.lookup.1 c.if-snapshot-id.true))

pub returns-in_default-clause-value : goal.returns-in_default-clause-value
returns-in_default-clause-value c =
    let xs = c.as_slice-snapshots.result.now in
    let pairs : AllPairs IsOlder c.as_slice-snapshots.result.now = rw (c.as_slice-snapshots.ensures.value)
    c.self.invariant.rising in
    rw (← c.self.view_is, ← c.as_slice-snapshots.ensures.value)
    (sym (stamp_in-missing xs c.args.id c.count_below.result pairs c.count_below.ensures
    (λ d inside. elim c.in_default.branch [
      | in_default-via-in-Some+else-snapshot-id w ↦ λ same.
          w.if-snapshot-id.false (ap (λ (x : Snapshot). x.id)
          (w.in-Some.ensures.lookup.1 ∙ get_or_default xs c.count_below.result w.in-Some.snapshot.now d inside) ∙ same)
      | in_default-via-in_default w ↦ absurd (true≢false (sym (w.in_default.ensures.lookup.0 ∙ lt-ltb _ _ inside)))
    ])))
