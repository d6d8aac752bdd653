-- Whether one of the first writes is of the key is decided by those of them that are left.
use Rattle.std.proofs.Common.{◌≡◌, length, take}
use Rattle.hlc_rows.specs.Writes.{writes_key}
use Rattle.hlc_rows.proofs.write.first_have_key.Given as goal

abbrev pub invariant-loop-first : goal.invariant-loop-first
invariant-loop-first l = writes_key l.fn.key (take l.fn.count l.fn.writes) ≡ writes_key l.fn.key (take l.left l.rest)

abbrev pub decreases-loop-first : goal.decreases-loop-first
decreases-loop-first l = length l.rest
