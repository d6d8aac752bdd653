-- One more row.
use Rattle.std.proofs.Common.{subst, sym, take, ◌+◌}
use Rattle.hlc_table_column.specs.Rows.{rows_of}
use Rattle.hlc_body.specs.Spelling.{AreOfSize}
use Rattle.hlc_saved.proofs.Sizes.{sized_row}
use Rattle.hlc_saved.proofs.size.column_size.Goals as goal

pub loop-place-preserved : goal.loop-place-preserved
loop-place-preserved c =
    let rows = rows_of c.key-key.result.now c.column-column.result in
    subst (AreOfSize (take (c.loop-place.place + 1) rows)) (sym c.in_ok-size.ensures.1)
    (sized_row rows c.loop-place.place c.at.result c.loop-place.size c.row_size.result c.at.ensures
    c.loop-place.invariant c.row_size.ensures.size c.row_size.ensures.fits)
