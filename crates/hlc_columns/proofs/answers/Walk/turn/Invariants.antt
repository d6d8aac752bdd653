-- The remaining entries do not change, and each turn leaves one leaf fewer.
use Rattle.std.proofs.Common.{◌≡◌, ◌-◌, length}
use Rattle.hlc_columns.specs.Answers.{entries_left}
use Rattle.hlc_columns.proofs.answers.Walk.turn.Given as goal

abbrev pub invariant-loop-self : goal.invariant-loop-self
invariant-loop-self l = entries_left l.self ≡ entries_left l.initial.self

abbrev pub decreases-loop-self : goal.decreases-loop-self
decreases-loop-self l = length l.self.columns.now - l.self.next
