-- The head of the bytes so far.
use Rattle.std.proofs.Common.{◌≡◌}
use Rattle.hlc_table_index.specs.Head.{head_upto}
use Rattle.hlc_table_index.proofs.head.short_head.Given as goal

abbrev pub invariant-loop-i : goal.invariant-loop-i
invariant-loop-i l = l.head ≡ head_upto l.i l.key
