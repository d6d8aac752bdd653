-- No stamp so far is above the greatest.
use Rattle.std.proofs.Common.{ℕ, ◌<◌, ◌≤◌, get_or}
use Rattle.hlc_vacuum_draft.proofs.gaps.greatest_of.Given as goal

abbrev pub invariant-loop-stamp : goal.invariant-loop-stamp
invariant-loop-stamp l = (k : ℕ) → k < l.stamp-index → get_or l.stamps k 0 ≤ l.greatest
