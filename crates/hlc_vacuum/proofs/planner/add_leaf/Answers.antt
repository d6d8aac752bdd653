-- Each column adds its plan and its changes to those before it.
use Rattle.std.proofs.{Common.subst, Common.arith, Common.None, Common.take, lemmas.List.take_all}
use Rattle.hlc_table_column.specs.Rows.{rows_in_one}
use Rattle.hlc_witness.specs.AllChanges.{key_changes}
use Rattle.hlc_vacuum_draft.specs.KeyPlan.{own_changes}
use Rattle.hlc_vacuum.specs.Leaves.{JoinsMore}
use Rattle.hlc_vacuum.proofs.Pieces.{more_none, more_on, column_on, own-more}
use Rattle.hlc_vacuum.proofs.planner.add_leaf.Goals as goal

pub loop-place-init : goal.loop-place-init
loop-place-init g c = record {
  draft = more_none c.args.points.now c.args.draft.now c.make_room.new.self c.in_ok-make_room.ensures.keep
      c.in_ok-make_room.ensures.changes c.in_ok-make_room.ensures.bytes;
  changes = g.met.C.Changes.none_added c.args.changes.now;
}

pub loop-place-preserved : goal.loop-place-preserved
loop-place-preserved g c =
    let lt = c.loop-place-test.true in
    let long = c.len-place-end.ensures in
    let points = c.args.points.now in
    let leaf = c.args.leaf.now in
    let i = c.loop-place.place in
    let one = c.at.result in
    let inv = c.loop-place.invariant in
    record {
      draft = more_on points leaf i one c.args.draft.now c.loop-place.draft c.add_column.new.draft c.at.ensures
          (omega (arith, lt, long)) inv.draft c.in_ok-add_column.ensures.plan;
      changes = subst (λ found. g.C.Changes.adds c.args.changes.now found c.add_column.new.changes)
          (own-more points leaf i one (column_on leaf i one c.at.ensures (omega (arith, lt, long))))
          (g.met.C.Changes.both_added c.args.changes.now c.loop-place.changes c.add_column.new.changes
          (own_changes points (take i leaf)) (key_changes (rows_in_one one) one.key None points)
          inv.changes c.in_ok-add_column.ensures.changes);
    }

pub returns-clause-draft : goal.returns-clause-draft
returns-clause-draft g c =
    let past = c.loop-place-test.false in
    let long = c.len-place-end.ensures in
    subst (λ leaf. JoinsMore c.args.points.now leaf c.args.draft.now c.loop-place.draft)
    (take_all c.loop-place.place c.args.leaf.now (omega (arith, past, long))) c.loop-place.invariant.draft

pub returns-clause-changes : goal.returns-clause-changes
returns-clause-changes g c =
    let past = c.loop-place-test.false in
    let long = c.len-place-end.ensures in
    subst (λ leaf. g.C.Changes.adds c.args.changes.now (own_changes c.args.points.now leaf) c.loop-place.changes)
    (take_all c.loop-place.place c.args.leaf.now (omega (arith, past, long))) c.loop-place.invariant.changes
