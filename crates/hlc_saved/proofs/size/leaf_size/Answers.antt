-- One more column.
use Rattle.std.proofs.Common.{subst, sym, take, ◌+◌}
use Rattle.hlc_table_column.specs.Rows.{rows_in}
use Rattle.hlc_body.specs.Spelling.{AreOfSize}
use Rattle.hlc_saved.proofs.Sizes.{sized_column}
use Rattle.hlc_saved.proofs.size.leaf_size.Goals as goal

pub loop-place-preserved : goal.loop-place-preserved
loop-place-preserved c =
    subst (AreOfSize (rows_in (take (c.loop-place.place + 1) c.args.leaf.now))) (sym c.in_ok-size.ensures.1)
    (sized_column c.args.leaf.now c.loop-place.place c.at.result c.loop-place.size c.in_ok-column_size.field-0
    c.at.ensures c.loop-place.invariant c.in_ok-column_size.ensures)
