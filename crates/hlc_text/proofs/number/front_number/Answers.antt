-- The digits spell their value where no zero comes before others.
use Rattle.std.proofs.Common.{◌≡◌, ◌<◌, ◌^◌, ◌∙◌, sym, ap, get_or, take, arith, inl, inr}
use Rattle.std.specs.{Prelude.decimal, Str.Parse.digits_value}
use Rattle.hlc_text.proofs.Numbers.{front_spelled}
use Rattle.hlc_text.proofs.number.front_number.Goals as goal

pub returns : goal.returns
returns c =
    let text = c.args.text.now in
    let front = c.front_digits-value.ensures in
    let count = c.front_digits-value.result.1 in
    let small : digits_value 10 (take count text) < 2 ^ 64 = omega (arith, front.fits, front.value) in (
      front.fits,
      front.within,
      front_spelled text count front.within front.digits (omega (arith, c.if-count-eq0.false))
          (λ (zero : get_or text 0 0 ≡ 48). elim c.else-text-eq48.either [ inl w ↦ w.1 | inr w ↦ absurd (w zero) ])
          small
          ∙ ap decimal (sym front.value),
      front.digits,
    )
