-- One more byte is a digit, and ten times the value plus that digit is the value of both. What is too large so far
-- stays so.
use Rattle.std.proofs.{Common.◌≡◌, Common.arith, Common.inl, Common.inr, lemmas.Bool.cases_lt, lemmas.List.take_all}
use Rattle.hlc_text.proofs.Numbers.{all_digits, is_digit_at, value_more, too_large}
use Rattle.hlc_text.proofs.number.long_value_of.Goals as goal

pub returns-then-not-is_ascii_digit : goal.returns-then-not-is_ascii_digit
returns-then-not-is_ascii_digit c digits =
    let digit = is_digit_at c.args.digits.now c.loop-at.at digits c.loop-at-test.true in
    elim c.if-not-is_ascii_digit.ensures.cases [
      | inl low ↦ absurd (omega (arith, digit.0, low))
      | inr high ↦ absurd (omega (arith, digit.1, high))
    ]

pub returns-then-value-digit : goal.returns-then-value-digit
returns-then-value-digit c digits =
    too_large c.args.digits.now c.loop-at.at c.loop-at-test.true c.if-not-is_ascii_digit.ensures.cases
    (omega (
      arith,
      c.if-value-digit.true,
      c.loop-at.invariant.1,
      c.if-not-is_ascii_digit.ensures.cases.0,
      c.if-not-is_ascii_digit.ensures.cases.1,
    ))

pub loop-at-preserved : goal.loop-at-preserved
loop-at-preserved c = (
  λ k below. elim (cases_lt k c.loop-at.at) [
    | inl before ↦ c.loop-at.invariant.0 k before
    | inr last ↦ let here : c.loop-at.at ≡ k = omega (arith, below, last) in
        rw (← here) c.if-not-is_ascii_digit.ensures.cases
  ],
  omega (
    arith,
    c.loop-at.invariant.1,
    value_more c.args.digits.now c.loop-at.at c.loop-at-test.true c.if-not-is_ascii_digit.ensures.cases,
  ),
)

pub returns : goal.returns
returns c =
    let all = take_all c.loop-at.at c.args.digits.now (omega (arith, c.loop-at-test.false)) in (
      omega (arith, c.loop-at.auto.value-fits),
      all_digits c.args.digits.now (λ k within. c.loop-at.invariant.0 k (omega (arith, within, c.loop-at-test.false))),
      rw (← all) c.loop-at.invariant.1,
    )
