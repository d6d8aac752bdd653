-- Where all bytes are digits at the front, the value is theirs; where fewer than nineteen are, the next byte is no
-- digit.
use Rattle.std.proofs.Common.{◌≡◌, ◌<◌, ◌∙◌, ap, subst, length, take, List, ℕ, arith}
use Rattle.std.{specs.Str.Parse.AllDigits, specs.Str.Parse.digits_value, proofs.lemmas.List.take_all}
use Rattle.hlc_text.proofs.Numbers.{front_all, is_digit_at}
use Rattle.hlc_text.proofs.number.value_of.Goals as goal

pub returns-then-count-digits : goal.returns-then-count-digits
returns-then-count-digits c =
    let front = c.front_digits-value.ensures in
    let count = c.front_digits-value.result.1 in
    let all : take count c.args.digits.now ≡ c.args.digits.now =
    take_all count c.args.digits.now (omega (arith, c.if-count-digits.true)) in (
      front.fits,
      subst (λ (l : List ℕ). AllDigits 10 l) all (front_all c.args.digits.now count front.within front.digits),
      front.value ∙ ap (digits_value 10) all,
    )

pub returns-then-count-lt19 : goal.returns-then-count-lt19
returns-then-count-lt19 c digits =
    let front = c.front_digits-value.ensures in
    let count = c.front_digits-value.result.1 in
    let within : count < length c.args.digits.now = omega (arith, front.within, c.if-count-digits.false) in
    absurd (front.more within c.if-count-lt19.true (is_digit_at c.args.digits.now count digits within))
