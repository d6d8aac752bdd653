-- The keys that are skipped have no value, so the remaining answers do not change.
use Rattle.std.proofs.Common.{◌≡◌, length}
use Rattle.hlc_columns.specs.Answers.{answers_in, entries_left_back}
use Rattle.hlc_columns.proofs.answers.next_answer_back.Given as goal

abbrev pub invariant-loop-entry : goal.invariant-loop-entry
invariant-loop-entry l =
    answers_in (entries_left_back l.walk) l.bound ≡ answers_in (entries_left_back l.initial.walk) l.bound

abbrev pub decreases-loop-entry : goal.decreases-loop-entry
decreases-loop-entry l = length (entries_left_back l.walk)
