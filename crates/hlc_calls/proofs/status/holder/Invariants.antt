-- No node before this place holds the floor back.
use Rattle.std.proofs.Common.{◌<◌, ℕ}
use Rattle.hlc_calls.specs.Status.{IsHolder}
use Rattle.hlc_calls.proofs.status.holder.Given as goal

abbrev pub invariant-loop-place : goal.invariant-loop-place
invariant-loop-place l = (other : ℕ) → other < l.place → IsHolder l.links l.floor other → ⊥
