-- The row of the cell at the position.
use Rattle.hlc_checkpoint.proofs.LentLemmas.{row-lent}
use Rattle.hlc_checkpoint.proofs.row_ref.RowRef.at.Goals as goal

pub returns : goal.returns
returns c =
    row-lent c.args.key.now c.args.column.now c.args.place c.version_at-stamp.result _ c.requires
    c.version_at-stamp.ensures c.value_at.ensures.value
