-- The item at the front was read, and came before or was accepted.
use Rattle.std.proofs.Common.{◌∙◌, ℕ, sym, subst, arith}
use Rattle.hlc_calls.specs.{Log.IsStopped, Outcome.answer_code}
use Rattle.hlc_calls.proofs.Logs.{front_is, front_fits, front_shortens, passed_over, taken, refused_here}
use Rattle.hlc_calls.proofs.log.take_front.Goals as goal

pub returns-then-came-clause-answer : goal.returns-then-came-clause-answer
returns-then-came-clause-answer c = λ past h. (
  c.in-Ok.found.0,
  front_fits c.args.bytes.now c.in-Ok.found.0 c.in-Ok.found.1.now
      (λ i. omega (arith, c.type_inv.bytes i)) c.in-Ok.ensures,
  front_is c.args.bytes.now c.in-Ok.found.0 c.in-Ok.found.1.now
      (λ i. omega (arith, c.type_inv.bytes i)) c.in-Ok.ensures,
  passed_over c.args.core.now past c.in-Ok.found.0 (sym (c.came.ensures past h) ∙ c.if-came.true) h,
)

pub returns-then-came-clause-shorter : goal.returns-then-came-clause-shorter
returns-then-came-clause-shorter c =
    front_shortens c.args.bytes.now c.in-Ok.found.0 c.in-Ok.found.1.now
    (λ i. omega (arith, c.type_inv.bytes i)) c.in-Ok.ensures

pub returns-in-Ok-accept_ref-clause-answer : goal.returns-in-Ok-accept_ref-clause-answer
returns-in-Ok-accept_ref-clause-answer c = λ past h. (
  c.in-Ok.found.0,
  front_fits c.args.bytes.now c.in-Ok.found.0 c.in-Ok.found.1.now
      (λ i. omega (arith, c.type_inv.bytes i)) c.in-Ok.ensures,
  front_is c.args.bytes.now c.in-Ok.found.0 c.in-Ok.found.1.now
      (λ i. omega (arith, c.type_inv.bytes i)) c.in-Ok.ensures,
  taken c.accept_ref.new.self past c.in-Ok.found.0 (sym (c.came.ensures past h) ∙ c.if-came.false)
      (c.in-Ok-accept_ref.ensures.represents past h).1,
)

pub returns-in-Ok-accept_ref-clause-shorter : goal.returns-in-Ok-accept_ref-clause-shorter
returns-in-Ok-accept_ref-clause-shorter c =
    front_shortens c.args.bytes.now c.in-Ok.found.0 c.in-Ok.found.1.now
    (λ i. omega (arith, c.type_inv.bytes i)) c.in-Ok.ensures

pub returns-in-Err-accept_ref-clause-answer : goal.returns-in-Err-accept_ref-clause-answer
returns-in-Err-accept_ref-clause-answer c = λ past h.
    let here = refused_here c.args.bytes.now c.in-Ok.found.1.now past c.in-Ok.found.0
    c.in-Err-accept_ref.fault c.in-Ok.ensures
    (sym (c.came.ensures past h) ∙ c.if-came.false) (c.in-Err-accept_ref.ensures.represents past h) in
    subst (λ (code : ℕ). IsStopped c.args.bytes.now past code c.refuse.new.word)
    (sym c.refuse.ensures.0)
    (subst (λ (word : ℕ). IsStopped c.args.bytes.now past (answer_code c.in-Err-accept_ref.fault) word)
    (sym c.refuse.ensures.1) here)
