-- The answers of the keys that are skipped are the same, so the remaining differences do not change.
use Rattle.std.proofs.Common.{◌≡◌, length}
use Rattle.hlc_columns.specs.{Answers.entries_left, Differences.differences_in}
use Rattle.hlc_columns.proofs.changes.next_change.Given as goal

abbrev pub invariant-loop-entry : goal.invariant-loop-entry
invariant-loop-entry l =
    differences_in (entries_left l.walk) l.from l.to ≡ differences_in (entries_left l.initial.walk) l.from l.to

abbrev pub decreases-loop-entry : goal.decreases-loop-entry
decreases-loop-entry l = length (entries_left l.walk)
