-- No byte so far is the one that is searched for.
use Rattle.std.proofs.Common.{◌≡◌, ℕ, ◌<◌, ◌≤◌, ◌-◌, get_or, length}
use Rattle.hlc_text.proofs.place.near_place.Given as goal

abbrev pub invariant-loop-from : goal.invariant-loop-from
invariant-loop-from l = (l.from ≤ length l.text) × ((k : ℕ) → k < l.from → get_or l.text k 0 ≡ l.byte → ⊥)

abbrev pub decreases-loop-from : goal.decreases-loop-from
decreases-loop-from l = length l.initial.text - l.from
