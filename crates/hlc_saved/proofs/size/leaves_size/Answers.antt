-- One more leaf.
use Rattle.std.proofs.Common.{subst, sym, take, ◌+◌}
use Rattle.hlc_table_column.specs.Rows.{rows_in}
use Rattle.hlc_columns.specs.Table.{columns_in}
use Rattle.hlc_body.specs.Spelling.{AreOfSize}
use Rattle.hlc_saved.proofs.Sizes.{sized_leaf}
use Rattle.hlc_saved.proofs.size.leaves_size.Goals as goal

pub loop-place-preserved : goal.loop-place-preserved
loop-place-preserved c =
    subst (AreOfSize (rows_in (columns_in (take (c.loop-place.place + 1) c.args.leaves.now))))
    (sym c.in_ok-size.ensures.1)
    (sized_leaf c.args.leaves.now c.loop-place.place c.at.result.now c.loop-place.size c.in_ok-leaf_size.field-0
    c.at.ensures.leaf c.loop-place.invariant c.in_ok-leaf_size.ensures)
