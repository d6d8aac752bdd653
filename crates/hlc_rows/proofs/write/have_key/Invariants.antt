-- Whether a write is of the key is decided by the writes that are left.
use Rattle.std.proofs.Common.{◌≡◌, length}
use Rattle.hlc_rows.specs.Writes.{writes_key}
use Rattle.hlc_rows.proofs.write.have_key.Given as goal

abbrev pub invariant-loop-first : goal.invariant-loop-first
invariant-loop-first l = writes_key l.fn.key l.fn.writes ≡ writes_key l.fn.key l.rest

abbrev pub decreases-loop-first : goal.decreases-loop-first
decreases-loop-first l = length l.rest
