-- The first columns of the leaf have only their flagged rows, and the flags of the others are left.
use Rattle.std.proofs.Common.{◌≡◌, ◌++◌, take, drop, set, get_or, []}
use Rattle.hlc_columns.specs.Sizes.{filled_sizes, Fit}
use Rattle.hlc_columns.proofs.Kept.{run, total, kept_one, many}
use Rattle.hlc_columns.proofs.dropping.keep_in_leaf.Given as goal

abbrev pub invariant-loop-slot : goal.invariant-loop-slot
invariant-loop-slot l = record {
  columns : l.columns ≡ set l.initial.columns l.at
      (run kept_one many l.fn.flags (take l.slot (get_or l.initial.columns l.at []))
      ++ drop l.slot (get_or l.initial.columns l.at []));
  left : l.left ≡ drop (total kept_one many (take l.slot (get_or l.initial.columns l.at []))) l.fn.flags;
  sizes : l.sizes ≡ filled_sizes l.columns;
  fit : Fit l.sizes;
}
