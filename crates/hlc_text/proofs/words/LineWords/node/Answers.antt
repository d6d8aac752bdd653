-- A number that is too large is spelled as no number that fits, since numbers of one spelling are equal.
use Rattle.std.proofs.{Common.◌≡◌, Common.sym, Common.◌∙◌, Common.arith, Common.decimal, lemmas.Fmt.decimal_injective}
use Rattle.hlc_text.proofs.words.LineWords.node.Goals as goal

pub returns-in_default : goal.returns-in_default
returns-in_default c x words small e =
    let digits : decimal c.in-Some.value ≡ decimal x = let is = sym c.in-Some.ensures.1 ∙ e in cc in
    let same : c.in-Some.value ≡ x = decimal_injective _ _ c.in-Some.ensures.0 (omega arith) digits in
    absurd (omega (arith, same, c.if-value-lt65536.false))
