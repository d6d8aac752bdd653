-- The remaining entries do not change, and each turn leaves one leaf fewer.
use Rattle.std.proofs.Common.{◌≡◌, ◌≤◌, length}
use Rattle.hlc_columns.specs.Answers.{entries_left_back}
use Rattle.hlc_columns.proofs.answers.WalkBack.turn.Given as goal

abbrev pub invariant-loop-self : goal.invariant-loop-self
invariant-loop-self l = record {
  left : entries_left_back l.self ≡ entries_left_back l.fn.self;
  inside : l.self.before ≤ length l.self.columns.now;
}

abbrev pub decreases-loop-self : goal.decreases-loop-self
decreases-loop-self l = l.self.before
