-- The answer is that of the function, which meets the rule.
use Rattle.std.proofs.Common.{[], ◌∷◌}
use Rattle.hlc_clock.proofs.Rule.{expected_is_answer}
use Rattle.hlc_clock.proofs.clock.Clock.receive.Goals as goal

pub returns-in_default-clause-rule : goal.returns-in_default-clause-rule
returns-in_default-clause-rule c =
    rw (c.stamp_after_both-answer.ensures, c.self.view_is)
    (expected_is_answer c.args.self.now (c.args.seen ∷ []) c.args.reading)
