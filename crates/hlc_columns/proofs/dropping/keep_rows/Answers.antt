-- One more leaf; and then the columns without rows are removed.
use Rattle.std.proofs.Common.{◌<◌, ◌∙◌, ap, sym, subst, arith, length, All}
use Rattle.hlc_table_index.specs.Entries.{entries_in}
use Rattle.hlc_columns.specs.{Table.kept_in, Table.table_rows, Sizes.sizes_of}
use Rattle.hlc_columns.proofs.Kept.{run_none, total_none, leaf_rows, column_inside, leaf_enough, next_leaves, next_left}
use Rattle.hlc_columns.proofs.Kept.{run_all, kept_leaves, kept_rows, filled_rows, all_filled}
use Rattle.hlc_columns.proofs.dropping.keep_rows.Goals.{In-loop-at}
use Rattle.hlc_columns.proofs.dropping.keep_rows.Goals as goal

below : (c : In-loop-at) → c.loop-at.at < length c.args.columns.now
below c = let lt = c.loop-at-test.true in let e = c.leaves-at-end.ensures.count in omega (arith, lt, e)

pub loop-at-init : goal.loop-at-init
loop-at-init c = record {
  columns = run_none kept_in leaf_rows c.args.flags c.args.columns.now;
  left = total_none kept_in leaf_rows c.args.flags c.args.columns.now;
  sizes = c.requires.sizes;
  fit = c.requires.fit;
}

pub keep_in_leaf-left-requires-clause-leaf : goal.keep_in_leaf-left-requires-clause-leaf
keep_in_leaf-left-requires-clause-leaf c =
    let at = (goal.at.keep_in_leaf-left-requires-clause-leaf c).In-loop-at in
    column_inside c.args.columns.now c.loop-at.columns c.loop-at.at c.args.flags c.loop-at.left (below at)
    c.loop-at.invariant.columns c.loop-at.invariant.left

pub keep_in_leaf-left-requires-clause-many : goal.keep_in_leaf-left-requires-clause-many
keep_in_leaf-left-requires-clause-many c =
    let at = (goal.at.keep_in_leaf-left-requires-clause-many c).In-loop-at in
    leaf_enough c.args.columns.now c.loop-at.columns c.loop-at.at c.args.flags c.loop-at.left (below at)
    c.loop-at.invariant.columns c.loop-at.invariant.left c.requires.many

pub loop-at-preserved : goal.loop-at-preserved
loop-at-preserved c =
    let at = (goal.at.loop-at-preserved c).In-loop-at in
    record {
      columns = next_leaves c.args.columns.now c.loop-at.columns c.loop-at.at c.args.flags c.loop-at.left (below
          at)
          c.loop-at.invariant.columns c.loop-at.invariant.left c.keep_in_leaf-left.new.columns
          c.keep_in_leaf-left.ensures.kept;
      left = next_left c.args.columns.now c.loop-at.columns c.loop-at.at c.args.flags c.loop-at.left (below at)
          c.loop-at.invariant.columns c.loop-at.invariant.left c.keep_in_leaf-left.result
          c.keep_in_leaf-left.ensures.left;
      sizes = c.keep_in_leaf-left.ensures.sizes;
      fit = c.keep_in_leaf-left.ensures.fit;
    }

pub returns-clause-rows : goal.returns-clause-rows
returns-clause-rows c =
    let over = c.loop-at-test.false in
    let e = c.leaves-at-end.ensures.count in
    ap table_rows c.keep_filled.ensures ∙ filled_rows (entries_in c.loop-at.columns)
    ∙ ap (λ ls. table_rows (entries_in ls)) (c.loop-at.invariant.columns
    ∙ run_all kept_in leaf_rows c.args.flags c.args.columns.now c.loop-at.at (omega (arith, over, e)))
    ∙ ap table_rows (kept_leaves c.args.flags c.args.columns.now)
    ∙ kept_rows (entries_in c.args.columns.now) c.args.flags c.requires.many

pub returns-clause-filled : goal.returns-clause-filled
returns-clause-filled c =
    subst (All (λ e. 0 < length e.1)) (sym c.keep_filled.ensures) (all_filled (entries_in c.loop-at.columns))

pub returns-clause-sizes : goal.returns-clause-sizes
returns-clause-sizes c = c.loop-at.invariant.sizes ∙ ap sizes_of (sym c.keep_filled.ensures)
