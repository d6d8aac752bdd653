-- Lemmas on the spelling of bytes, for proofs about lines: it is read as the bytes that were spelled, so it represents
-- no others.
use Rattle.std.proofs.Common.{◌≡◌, ℕ, ◌+◌, ◌*◌, ◌/◌, ◌%◌, ◌<◌, ◌∙◌, sym, ap, refl, length, get_or, List, [], ◌∷◌, ◌++◌}
use Rattle.std.proofs.Common.{Some, true, false, arith, inl, inr}
use Rattle.std.specs.{Fmt.digit_glyph, List.flat_map}
use Rattle.std.proofs.lemmas.{Grind.common_steps, Option.same_Some, Bool.cases_Bool, Bool.cases_eq, Bool.ne_eqb}
use Rattle.hlc_text.specs.Text.{is_literal, byte_token, bytes_token, AreBytes}
use Rattle.hlc_text.specs.Spelling.{is_hex, hex_value, is_escaped, with_byte, spelled_bytes, token_bytes}

-- the digit of a value below 16 is a digit, of that value
glyph_is_hex : (d : ℕ) → d < 16 → is_hex (digit_glyph true d) ≡ true
glyph_is_hex d small = grind (arith, common_steps)

value_of_glyph : (d : ℕ) → d < 16 → hex_value (digit_glyph true d) ≡ d
value_of_glyph d small = grind (arith, common_steps)

-- a byte that is its own spelling goes in front
plain_front : (b : ℕ) (text : List ℕ) → is_literal b ≡ true
    → spelled_bytes (b ∷ text) ≡ with_byte b (spelled_bytes text)
plain_front b [] plain = rw plain refl
plain_front b (c ∷ []) plain = rw plain refl
plain_front b (c ∷ d ∷ rest) plain = rw plain refl

-- the two digits of a byte that is not its own spelling
digits_are_escaped : (b : ℕ) → is_literal b ≡ false → b < 256
    → (is_escaped (digit_glyph true (b / 16)) (digit_glyph true (b % 16)) ≡ true)
    × (16 * hex_value (digit_glyph true (b / 16)) + hex_value (digit_glyph true (b % 16)) ≡ b)
digits_are_escaped b plain small =
    let high : b / 16 < 16 = omega arith in
    let low : b % 16 < 16 = omega arith in
    let whole : 16 * (b / 16) + b % 16 ≡ b = omega arith in (
      simp (
        glyph_is_hex (b / 16) high,
        glyph_is_hex (b % 16) low,
        value_of_glyph (b / 16) high,
        value_of_glyph (b % 16) low,
        whole,
        plain,
      ) refl,
      simp (value_of_glyph (b / 16) high, value_of_glyph (b % 16) low) whole,
    )

escaped_front : (b : ℕ) (rest : List ℕ) → is_literal b ≡ false → b < 256
    → spelled_bytes (37 ∷ digit_glyph true (b / 16) ∷ digit_glyph true (b % 16) ∷ rest)
    ≡ with_byte b (spelled_bytes rest)
escaped_front b rest plain small =
    let digits = digits_are_escaped b plain small in
    rw (digits.0, digits.1) refl

-- the spelling of a byte is read as that byte, whatever follows
byte_front : (b : ℕ) (rest : List ℕ) → b < 256 → spelled_bytes (byte_token b ++ rest) ≡ with_byte b (spelled_bytes rest)
byte_front b rest small =
    elim (cases_Bool (is_literal b)) [
      | inl plain ↦ rw plain (plain_front b rest plain)
      | inr plain ↦ rw plain (escaped_front b rest plain small)
    ]

pub spelled_again : (bs : List ℕ) → AreBytes bs → spelled_bytes (flat_map byte_token bs) ≡ Some bs
spelled_again [] fit = refl
spelled_again (b ∷ bs) fit = byte_front b (flat_map byte_token bs) fit.0 ∙ ap (with_byte b) (spelled_again bs fit.1)

-- what is longer than a single percent sign is read byte by byte
pub read_by_byte : (text : List ℕ) → 0 < length text → (length text ≡ 1 → get_or text 0 0 ≡ 37 → ⊥)
    → token_bytes text ≡ spelled_bytes text
read_by_byte [] some long = absurd (omega arith)
read_by_byte (b ∷ []) some long =
    elim (cases_eq b 37) [ inl percent ↦ absurd (long refl percent) | inr other ↦ rw (ne_eqb b 37 other) refl ]
read_by_byte (b ∷ c ∷ rest) some long = refl

-- the spelling of a byte is that byte, which is no percent sign, or three bytes
length_byte_token : (b : ℕ) (rest : List ℕ) → (0 < length (byte_token b ++ rest))
    × (length (byte_token b ++ rest) ≡ 1 → get_or (byte_token b ++ rest) 0 0 ≡ 37 → ⊥)
length_byte_token b rest =
    elim (cases_Bool (is_literal b)) [
      | inl plain ↦ rw plain (omega arith, λ one percent. grind arith)
      | inr other ↦ rw other (omega arith, λ one percent. omega arith)
    ]

pub token_again : (bs : List ℕ) → AreBytes bs → token_bytes (bytes_token bs) ≡ Some bs
token_again [] fit = refl
token_again (b ∷ bs) fit =
    let parts = length_byte_token b (flat_map byte_token bs) in
    read_by_byte (bytes_token (b ∷ bs)) parts.0 parts.1 ∙ spelled_again (b ∷ bs) fit

-- a token spells one list of bytes
pub one_token : (bs cs : List ℕ) → AreBytes bs → AreBytes cs → bytes_token bs ≡ bytes_token cs → bs ≡ cs
one_token bs cs fit_bs fit_cs e =
    same_Some bs cs (sym (token_again bs fit_bs) ∙ ap token_bytes e ∙ token_again cs fit_cs)
