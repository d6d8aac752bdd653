-- Each stamp so far is below the gap or at or above its end.
use Rattle.std.proofs.Common.{ℕ, ◌<◌, ◌≤◌, ◌⊎◌, get_or}
use Rattle.hlc_vacuum_draft.proofs.gaps.least_from.Given as goal

abbrev pub invariant-loop-stamp : goal.invariant-loop-stamp
invariant-loop-stamp l =
    (k : ℕ) → k < l.stamp-index → (get_or l.stamps k 0 < l.from) ⊎ (l.least ≤ get_or l.stamps k 0)
