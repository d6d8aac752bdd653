-- The columns so far are written.
use Rattle.std.proofs.Common.{take}
use Rattle.hlc_saved.specs.Writing.{HasColumns}
use Rattle.hlc_saved.proofs.leaf.append_leaf.Given as goal

abbrev pub invariant-loop-place : goal.invariant-loop-place
invariant-loop-place l = HasColumns (take l.place l.leaf) l.fn.out.items l.out.items
