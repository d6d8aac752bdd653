-- The columns so far are written.
use Rattle.std.proofs.Common.{take}
use Rattle.hlc_saved.specs.Writing.{HasColumns}
use Rattle.hlc_saved.proofs.leaf.append_columns.Given as goal

abbrev pub invariant-loop-one : goal.invariant-loop-one
invariant-loop-one l = HasColumns (take l.one-index l.columns) l.fn.out.items l.out.items
