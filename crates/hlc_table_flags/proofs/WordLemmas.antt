-- A bit that is set in its word, and a word without bits at the end.
use Rattle.std.proofs.Common.{◌≡◌, ◌≢◌, ◌<◌, ◌+◌, ◌*◌, ◌^◌, ◌/◌, ◌%◌, ◌∙◌, ◌∷◌, ◌++◌, [], ℕ, zero, suc, Bool, true}
use Rattle.std.proofs.Common.{nat_eq, bit_or, get_or-set_same, get_or-set_other, false, List, refl, sym, ap, arith}
use Rattle.std.proofs.Common.{length, get_or, set, inl, inr, w64}
use Rattle.std.{specs.Int.bit_at, proofs.lemmas.Bool.cases_order, proofs.lemmas.List.get_or_default}
use Rattle.std.proofs.lemmas.Nat.Bits.{bit_at_set_same, bit_at_set_other, bit_at-zero}
use Rattle.hlc_table_flags.{specs.Bits.bit_in, specs.Bits.bits_in, specs.Bits.NoneFrom, proofs.BitLemmas.bits_set}

-- the words with one bit set
abbrev pub with_bit : List ℕ → ℕ → List ℕ
with_bit words at =
    set words (at / 64) (bit_or (get_or words (at / 64) 0) (1 * 2 ^ (at % 64) % 2 ^ 64))

pub with_bit-same : (words : List ℕ) (at : ℕ) → at / 64 < length words → bit_in (with_bit words at) at ≡ true
with_bit-same words at lt =
    let within : at % 64 < 64 = omega arith in
    let word = get_or words (at / 64) 0 in
    ap (λ w. nat_eq (bit_at w (at % 64)) 1)
    (get_or-set_same words (at / 64) (bit_or word (1 * 2 ^ (at % 64) % 2 ^ 64)) 0 lt)
    ∙ ap (λ bit. nat_eq bit 1) (bit_at_set_same w64 word (at % 64) within)

pub with_bit-other : (words : List ℕ) (at place : ℕ) → at / 64 < length words → place ≢ at
    → bit_in (with_bit words at) place ≡ bit_in words place
with_bit-other words at place lt other =
    let within : at % 64 < 64 = omega arith in
    let word = get_or words (at / 64) 0 in
    let new = bit_or word (1 * 2 ^ (at % 64) % 2 ^ 64) in
    let apart : place / 64 ≢ at / 64 → bit_in (with_bit words at) place ≡ bit_in words place =
    λ ne. ap (λ w. nat_eq (bit_at w (place % 64)) 1) (get_or-set_other words (at / 64) (place / 64) new 0 ne) in
    elim (cases_order (place / 64) (at / 64)) [
      | inl e ↦
          ap (λ w. nat_eq (bit_at w (place % 64)) 1)
          (ap (λ k. get_or (with_bit words at) k 0) e ∙ get_or-set_same words (at / 64) new 0 lt)
          ∙ ap (λ bit. nat_eq bit 1)
          (bit_at_set_other w64 word (at % 64) within (place % 64)
          (λ same. other (omega (arith, e, same))))
          ∙ ap (λ k. nat_eq (bit_at (get_or words k 0) (place % 64)) 1) (sym e)
      | inr (inl less) ↦ apart (λ e. omega (arith, e, less))
      | inr (inr more) ↦ apart (λ e. omega (arith, e, more))
    ]

-- the words after a bit of one of them was set, which was read first
pub set_word : (words : List ℕ) (word at : ℕ) → word ≡ get_or words (at / 64) word → at / 64 < length words
    → set words (at / 64) (bit_or word (1 * 2 ^ (at % 64) % 2 ^ 64)) ≡ with_bit words at
set_word words word at is lt =
    ap (λ w. set words (at / 64) (bit_or w (1 * 2 ^ (at % 64) % 2 ^ 64)))
    (is ∙ get_or_default words (at / 64) word 0 lt)

-- no bit is set from a position on, if the new one is before it
pub set_none : (words new : List ℕ) (at len : ℕ) → new ≡ with_bit words at → at / 64 < length words → at < len
    → NoneFrom words len → NoneFrom new len
set_none words new at len is lt below none = λ place le.
    ap (λ ws. bit_in ws place) is ∙ with_bit-other words at place lt (λ e. omega (arith, e, le, below)) ∙ none place le

-- the flag of that bit is set
pub set_flag : (words new : List ℕ) (at len : ℕ) (flags : List Bool) → new ≡ with_bit words at
    → at / 64 < length words → at < len → bits_in words 0 len ≡ flags → bits_in new 0 len ≡ set flags at true
set_flag words new at len flags is lt below are =
    let here : at ≡ 0 + at = omega arith in
    ap (λ ws. bits_in ws 0 len) is ∙ bits_set words (with_bit words at) 0 len at below
    (ap (bit_in (with_bit words at)) (sym here) ∙ with_bit-same words at lt)
    (λ place other. with_bit-other words at place lt (λ e. other (e ∙ here))) ∙ ap (λ fs. set fs at true) are

-- words with another of zero after them
pub get_zero : (words : List ℕ) (k : ℕ) → get_or (words ++ 0 ∷ []) k 0 ≡ get_or words k 0
get_zero [] zero = refl
get_zero [] (suc k) = refl
get_zero (word ∷ words) zero = refl
get_zero (word ∷ words) (suc k) = get_zero words k

pub with_zero : (words : List ℕ) (place : ℕ) → bit_in (words ++ 0 ∷ []) place ≡ bit_in words place
with_zero words place = ap (λ w. nat_eq (bit_at w (place % 64)) 1) (get_zero words (place / 64))

-- no words
pub no_bits : (place : ℕ) → bit_in [] place ≡ false
no_bits place =
    ap (λ w. nat_eq (bit_at w (place % 64)) 1) (none (place / 64)) ∙ ap (λ bit. nat_eq bit 1) (bit_at-zero (place % 64))
  where
    none : (k : ℕ) → get_or {A = ℕ} [] k 0 ≡ 0
    none zero = refl
    none (suc k) = refl
