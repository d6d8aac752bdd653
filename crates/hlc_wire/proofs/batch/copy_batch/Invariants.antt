-- The writes that are copied, and then those that are left, are all of them.
use Rattle.std.specs.Prelude.{◌≡◌, ◌++◌, length}
use Rattle.hlc_wire.proofs.batch.copy_batch.Given as goal

abbrev pub invariant-loop-first : goal.invariant-loop-first
invariant-loop-first l = l.copy.items ++ l.rest ≡ l.fn.writes

abbrev pub decreases-loop-first : goal.decreases-loop-first
decreases-loop-first l = length l.rest
