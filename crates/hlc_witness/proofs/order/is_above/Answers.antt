-- What is above the last of ascending witnesses is above them all.
use Rattle.std.proofs.Common.{sym, ap, ◌∙◌, is_lt}
use Rattle.hlc_witness.proofs.Ascending.{above_all, above_last, is_lt-true}
use Rattle.hlc_witness.proofs.order.is_above.Goals as goal

pub returns-in-Some : goal.returns-in-Some
returns-in-Some c = (
  λ h. above_all c.args.front.now c.in-Some.previous.now c.args.witness.now c.requires (sym c.in-Some.ensures.value)
      (is_lt-true _ (sym c.is_witness_before.ensures ∙ h)),
  λ all. c.is_witness_before.ensures ∙ ap is_lt
      (above_last c.args.front.now c.in-Some.previous.now c.args.witness.now (sym c.in-Some.ensures.value) all),
)
