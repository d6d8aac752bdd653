-- A key is among those before only if its mark is set.
use Rattle.std.proofs.Common.{◌≡◌, refl, inl, inr, sym, ◌∙◌, ◌-◌}
use Rattle.hlc_rows.specs.{Spelled.write_seen, Writes.first_of, Limits.write_refusal}
use Rattle.hlc_rows.proofs.TwiceLemmas.{one-more, passed-found, passed-more, refused-twice}
use Rattle.hlc_rows.proofs.write.many_fault.Goals.{else-marks-one-via-then-marks-one+then-marks-two+else-first_have_key}
use Rattle.hlc_rows.proofs.write.many_fault.Goals.{else-marks-one-via-then-marks-one+else-marks-two}
use Rattle.hlc_rows.proofs.write.many_fault.Goals.{else-marks-one-via-else-marks-one}
use Rattle.hlc_rows.proofs.write.many_fault.Goals as goal

pub returns-then-first_have_key : goal.returns-then-first_have_key
returns-then-first_have_key c =
    sym (refused-twice c.args.writes
    (passed-found c.args.writes c.loop-first.marks c.loop-first.rest (write_seen c.in-Some.first) c.in-Some.others
    (c.len.result - 1 - c.len-in-Some.result) c.loop-first.invariant.passed c.in-Some.ensures
    (rw (c.len.ensures, c.len-in-Some.ensures) refl)
    (sym (rw c.lend.ensures at c.first_have_key.ensures) ∙ c.if-first_have_key.true)))

pub loop-first-preserved : goal.loop-first-preserved
loop-first-preserved c =
    let writes = c.args.writes in
    let rest = c.loop-first.rest in
    let write = write_seen c.in-Some.first in
    let others = c.in-Some.others in
    let found : c.first_of-fault.result ≡ first_of c.loop-first.fault (write_refusal write.key write.value) =
    c.first_of-fault.ensures in record {
      passed = passed-more writes c.loop-first.marks rest write others (c.len.result - 1 - c.len-in-Some.result)
          c.marks_of-one.result c.loop-first.invariant.passed c.in-Some.ensures
          (rw (c.len.ensures, c.len-in-Some.ensures) refl) c.marks_of-one.ensures.is c.marks_of-one.ensures.one
          c.marks_of-one.ensures.two
          (elim c.else-marks-one.branch [
            | else-marks-one-via-then-marks-one+then-marks-two+else-first_have_key w ↦
                inr (inr (sym (rw w.lend.ensures at w.first_have_key.ensures) ∙ w.if-first_have_key.false))
            | else-marks-one-via-then-marks-one+else-marks-two w ↦ inr (inl w.if-marks-two.false)
            | else-marks-one-via-else-marks-one w ↦ inl w.if-marks-one.false
          ]);
      fault = rw found
          (one-more c.loop-first.fault writes rest write others c.loop-first.invariant.fault c.in-Some.ensures);
    }
