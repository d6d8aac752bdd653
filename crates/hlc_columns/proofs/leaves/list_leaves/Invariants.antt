-- The first leaves are listed.
use Rattle.std.proofs.Common.{◌≡◌, map, take}
use Rattle.hlc_columns.specs.Table.{keyed}
use Rattle.hlc_columns.proofs.leaves.list_leaves.Given as goal

abbrev pub invariant-loop-at : goal.invariant-loop-at
invariant-loop-at l = l.list.items ≡ map keyed (take l.at l.columns)
