-- The columns of the first leaves have only their flagged rows, and the flags of the others are left.
use Rattle.std.proofs.Common.{◌≡◌, ◌++◌, take, drop}
use Rattle.hlc_columns.specs.{Table.kept_in, Sizes.filled_sizes, Sizes.Fit}
use Rattle.hlc_columns.proofs.Kept.{run, total, leaf_rows}
use Rattle.hlc_columns.proofs.dropping.keep_rows.Given as goal

abbrev pub invariant-loop-at : goal.invariant-loop-at
invariant-loop-at l = record {
  columns : l.columns ≡ run kept_in leaf_rows l.fn.flags (take l.at l.initial.columns) ++ drop l.at l.initial.columns;
  left : l.left ≡ drop (total kept_in leaf_rows (take l.at l.initial.columns)) l.fn.flags;
  sizes : l.sizes ≡ filled_sizes l.columns;
  fit : Fit l.sizes;
}
