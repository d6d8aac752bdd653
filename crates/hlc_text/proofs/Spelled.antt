-- Bytes are spelled as percent-encoding spells them: for each of 256 bytes, one escapes it exactly where the other
-- does, which is checked by trying all; and a byte below 256 has the same two digits in both.
use Rattle.std.proofs.Common.{◌≡◌, ℕ, suc, ◌<◌, ◌/◌, ◌%◌, true, not, List, [], ◌∷◌, get_or, refl, ap, ◌∙◌, inl, inr}
use Rattle.std.proofs.Common.{arith}
use Rattle.std.specs.{Fmt.digit_glyph, List.flat_map}
use Rattle.std.proofs.lemmas.Bool.{agree_below, agree_below_at, cases_Bool}
use Rattle.percent_encoding.specs.{AsciiSet.should_percent_encode, Percent.percent_encode, Percent.percent_encode_byte}
use Rattle.percent_encoding.proofs.PercentLemmas.{percent_encode-nil, percent_encode_escaped, percent_encode_kept}
use Rattle.hlc_text.specs.{declared.printer.TheConstants.ESCAPED, Text.is_literal, Text.byte_token}

tried : agree_below (should_percent_encode ESCAPED) (λ b. not (is_literal b)) 256 ≡ true
unfolding should_percent_encode
tried = refl

escaped_where : (b : ℕ) → b < 256 → should_percent_encode ESCAPED b ≡ not (is_literal b)
escaped_where b small = agree_below_at (should_percent_encode ESCAPED) (λ b. not (is_literal b)) 256 b tried small

-- the high digit of a byte
high_digit : (b : ℕ) → b < 256 → percent_encode_byte b ≡ 37 ∷ digit_glyph true (b / 16) ∷ digit_glyph true (b % 16) ∷ []
unfolding percent_encode_byte
high_digit b small =
    let same : b / 16 % 16 ≡ b / 16 = omega arith in
    ap (λ d. 37 ∷ digit_glyph true d ∷ digit_glyph true (b % 16) ∷ []) same

pub spelled : (bytes : List ℕ) → ((i : ℕ) → get_or bytes i 0 < 256)
    → percent_encode ESCAPED bytes ≡ flat_map byte_token bytes
spelled [] small = percent_encode-nil ESCAPED
spelled (b ∷ bytes) small =
    let rest = spelled bytes (λ i. small (suc i)) in
    elim (cases_Bool (is_literal b)) [
      | inl plain ↦ percent_encode_kept ESCAPED b bytes (escaped_where b (small 0) ∙ ap not plain)
          ∙ rw plain (ap (λ l. b ∷ l) rest)
      | inr other ↦ percent_encode_escaped ESCAPED b bytes (escaped_where b (small 0) ∙ ap not other)
          ∙ rw (high_digit b (small 0), other)
          (ap (λ l. 37 ∷ digit_glyph true (b / 16) ∷ digit_glyph true (b % 16) ∷ l) rest)
    ]
