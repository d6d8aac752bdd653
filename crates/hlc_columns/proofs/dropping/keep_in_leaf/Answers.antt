-- One more column.
use Rattle.std.proofs.Common.{take_all, ◌<◌, ◌∙◌, ap, sym, arith, drop, set, length, get_or, []}
use Rattle.std.proofs.lemmas.List.{set-get_or}
use Rattle.hlc_columns.proofs.Kept.{run_none, total_none, total, kept_one, many, leaf_inside, slot_inside, many_inside}
use Rattle.hlc_columns.proofs.Kept.{next_columns, next_flags, run_all, kept_run, many_rows}
use Rattle.hlc_columns.proofs.dropping.keep_in_leaf.Goals as goal
use Rattle.hlc_columns.proofs.dropping.keep_in_leaf.Goals.{In-loop-slot}

below : (c : In-loop-slot) → c.loop-slot.slot < length (get_or c.args.columns.now c.args.at [])
below c = let lt = c.loop-slot-test.true in let e = ap length c.leaf-slot-end.ensures in omega (arith, lt, e)

pub loop-slot-init : goal.loop-slot-init
loop-slot-init c = record {
  columns = sym (set-get_or c.args.columns.now c.args.at []) ∙ ap (set c.args.columns.now c.args.at)
      (run_none kept_one many c.args.flags (get_or c.args.columns.now c.args.at []));
  left = total_none kept_one many c.args.flags (get_or c.args.columns.now c.args.at []);
  sizes = c.requires.sizes;
  fit = c.requires.fit;
}

pub keep_at-left-requires-clause-leaf : goal.keep_at-left-requires-clause-leaf
keep_at-left-requires-clause-leaf c =
    let at = (goal.at.keep_at-left-requires-clause-leaf c).In-loop-slot in
    leaf_inside c.args.columns.now c.loop-slot.columns c.args.at c.loop-slot.slot c.args.flags c.loop-slot.left
    c.requires.leaf (below at) c.loop-slot.invariant.columns c.loop-slot.invariant.left

pub keep_at-left-requires-clause-inside : goal.keep_at-left-requires-clause-inside
keep_at-left-requires-clause-inside c =
    let at = (goal.at.keep_at-left-requires-clause-inside c).In-loop-slot in
    slot_inside c.args.columns.now c.loop-slot.columns c.args.at c.loop-slot.slot c.args.flags c.loop-slot.left
    c.requires.leaf (below at) c.loop-slot.invariant.columns c.loop-slot.invariant.left

pub keep_at-left-requires-clause-many : goal.keep_at-left-requires-clause-many
keep_at-left-requires-clause-many c =
    let at = (goal.at.keep_at-left-requires-clause-many c).In-loop-slot in
    many_inside c.args.columns.now c.loop-slot.columns c.args.at c.loop-slot.slot c.args.flags c.loop-slot.left
    c.requires.leaf (below at) c.loop-slot.invariant.columns c.loop-slot.invariant.left c.requires.many

pub loop-slot-preserved : goal.loop-slot-preserved
loop-slot-preserved c =
    let at = (goal.at.loop-slot-preserved c).In-loop-slot in
    record {
      columns = next_columns c.args.columns.now c.loop-slot.columns c.args.at c.loop-slot.slot c.args.flags
          c.loop-slot.left
          c.requires.leaf (below at) c.loop-slot.invariant.columns c.loop-slot.invariant.left c.keep_at-left.new.columns
          c.keep_at-left.ensures.kept;
      left = next_flags c.args.columns.now c.loop-slot.columns c.args.at c.loop-slot.slot c.args.flags
          c.loop-slot.left
          c.requires.leaf (below at) c.loop-slot.invariant.columns c.loop-slot.invariant.left c.keep_at-left.result
          c.keep_at-left.ensures.left;
      sizes = c.keep_at-left.ensures.sizes;
      fit = c.keep_at-left.ensures.fit;
    }

pub returns-clause-kept : goal.returns-clause-kept
returns-clause-kept c =
    let over = c.loop-slot-test.false in
    let e = ap length c.leaf-slot-end.ensures in
    c.loop-slot.invariant.columns ∙ ap (set c.args.columns.now c.args.at)
    (run_all kept_one many c.args.flags (get_or c.args.columns.now c.args.at []) c.loop-slot.slot (omega (
      arith,
      over,
      e,
    )) ∙ sym (kept_run c.args.flags (get_or c.args.columns.now c.args.at [])))

pub returns-clause-left : goal.returns-clause-left
returns-clause-left c =
    let over = c.loop-slot-test.false in
    let e = ap length c.leaf-slot-end.ensures in
    c.loop-slot.invariant.left ∙ ap (λ n. drop n c.args.flags)
    (ap (total kept_one many)
    (take_all c.loop-slot.slot (get_or c.args.columns.now c.args.at []) (omega (arith, over, e)))
    ∙ many_rows (get_or c.args.columns.now c.args.at []))
