-- One more byte is a digit, and ten times the value plus that digit is the value of both. A value of eighteen digits
-- and one more digit fit.
use Rattle.std.proofs.{Common.arith, Common.inl, Common.inr, Common.◌≡◌, lemmas.Bool.cases_lt}
use Rattle.hlc_text.proofs.Numbers.{front_smaller, value_more}
use Rattle.hlc_text.proofs.number.front_digits.Goals as goal

pub overflow_mul-value : goal.overflow_mul-value
overflow_mul-value c =
    let small = front_smaller c.args.text.now c.loop-at.at c.loop-at.invariant.within c.loop-at.invariant.digits
    (omega (arith, c.if-at-lt19.true)) in
    omega (arith, c.loop-at.invariant.value, small)

pub overflow_add-value : goal.overflow_add-value
overflow_add-value c =
    let small = front_smaller c.args.text.now c.loop-at.at c.loop-at.invariant.within c.loop-at.invariant.digits
    (omega (arith, c.if-at-lt19.true)) in
    omega (
      arith,
      c.loop-at.invariant.value,
      small,
      c.if-not-is_ascii_digit.ensures.cases.0,
      c.if-not-is_ascii_digit.ensures.cases.1,
    )

pub loop-at-preserved : goal.loop-at-preserved
loop-at-preserved c = record {
  within = omega (arith, c.loop-at-test.true);
  few = omega (arith, c.if-at-lt19.true);
  digits = λ k below. elim (cases_lt k c.loop-at.at) [
    | inl before ↦ c.loop-at.invariant.digits k before
    | inr last ↦ let here : c.loop-at.at ≡ k = omega (arith, below, last) in
        rw (← here) c.if-not-is_ascii_digit.ensures.cases
  ];
  value = omega (
    arith,
    c.loop-at.invariant.value,
    value_more c.args.text.now c.loop-at.at c.loop-at-test.true c.if-not-is_ascii_digit.ensures.cases,
  );
}
