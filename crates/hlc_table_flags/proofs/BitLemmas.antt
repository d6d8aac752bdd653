-- Bits of some words, one after another: their number, the first and the others, one of them, and one that is set. Each
-- is shown by going through the bits.
use Rattle.std.proofs.Common.{◌≡◌, ◌≢◌, ◌≤◌, ◌<◌, ◌+◌, ◌-◌, ◌∙◌, ◌∷◌, ◌++◌, [], ℕ, zero, suc, Bool, true, false, List}
use Rattle.std.proofs.Common.{refl, sym, ap, ap₂, arith, length, take, drop, get_or, set}
use Rattle.hlc_table_flags.specs.Bits.{bit_in, bits_in}

pub bits_length : (words : List ℕ) (from count : ℕ) → length (bits_in words from count) ≡ count
bits_length words from zero = refl
bits_length words from (suc count) = ap suc (bits_length words (suc from) count)

-- the bits up to a position, and those from there on
pub bits_append : (words : List ℕ) (from count more : ℕ)
    → bits_in words from (count + more) ≡ bits_in words from count ++ bits_in words (from + count) more
bits_append words from zero more =
    let all : 0 + more ≡ more = omega arith in
    let at : from ≡ from + 0 = omega arith in
    ap (bits_in words from) all ∙ ap (λ f. bits_in words f more) at
bits_append words from (suc count) more =
    let all : suc count + more ≡ suc (count + more) = omega arith in
    let at : suc from + count ≡ from + suc count = omega arith in
    ap (bits_in words from) all ∙ ap (λ bits. bit_in words from ∷ bits) (bits_append words (suc from) count more
    ∙ ap (λ f. bits_in words (suc from) count ++ bits_in words f more) at)

pub bits_take : (words : List ℕ) (from count first : ℕ) → first ≤ count
    → take first (bits_in words from count) ≡ bits_in words from first
bits_take words from count zero le = refl
bits_take words from zero (suc first) le = absurd (omega (arith, le))
bits_take words from (suc count) (suc first) le =
    ap (λ bits. bit_in words from ∷ bits) (bits_take words (suc from) count first (omega (arith, le)))

pub bits_drop : (words : List ℕ) (from count first : ℕ) → first ≤ count
    → drop first (bits_in words from count) ≡ bits_in words (from + first) (count - first)
bits_drop words from count zero le =
    let at : from ≡ from + 0 = omega arith in
    let all : count ≡ count - 0 = omega arith in
    ap₂ (λ f n. bits_in words f n) at all
bits_drop words from zero (suc first) le = absurd (omega (arith, le))
bits_drop words from (suc count) (suc first) le =
    let at : suc from + first ≡ from + suc first = omega arith in
    let all : count - first ≡ suc count - suc first = omega arith in
    bits_drop words (suc from) count first (omega (arith, le)) ∙ ap₂ (λ f n. bits_in words f n) at all

pub bits_get : (words : List ℕ) (from count at : ℕ) → at < count
    → get_or (bits_in words from count) at false ≡ bit_in words (from + at)
bits_get words from zero at lt = absurd (omega (arith, lt))
bits_get words from (suc count) zero lt = let at : from ≡ from + 0 = omega arith in ap (bit_in words) at
bits_get words from (suc count) (suc at) lt =
    let there : suc from + at ≡ from + suc at = omega arith in
    bits_get words (suc from) count at (omega (arith, lt)) ∙ ap (bit_in words) there

-- the bits of other words that have the same there
pub bits_same : (words others : List ℕ) (from count : ℕ)
    → ((at : ℕ) → from ≤ at → at < from + count → bit_in words at ≡ bit_in others at)
    → bits_in words from count ≡ bits_in others from count
bits_same words others from zero same = refl
bits_same words others from (suc count) same =
    ap₂ (λ bit bits. bit ∷ bits) (same from (omega arith) (omega arith))
    (bits_same words others (suc from) count (λ at le lt. same at (omega (arith, le)) (omega (arith, lt))))

-- the bits of other words that differ in one that is set
pub bits_set : (words others : List ℕ) (from count at : ℕ) → at < count → bit_in others (from + at) ≡ true
    → ((place : ℕ) → place ≢ from + at → bit_in others place ≡ bit_in words place)
    → bits_in others from count ≡ set (bits_in words from count) at true
bits_set words others from zero at lt is same = absurd (omega (arith, lt))
bits_set words others from (suc count) zero lt is same =
    let here : from ≡ from + 0 = omega arith in
    ap₂ (λ bit bits. bit ∷ bits) (ap (bit_in others) here ∙ is)
    (bits_same others words (suc from) count (λ place le _. same place (λ e. omega (arith, e, le))))
bits_set words others from (suc count) (suc at) lt is same =
    let there : suc from + at ≡ from + suc at = omega arith in
    ap₂ (λ bit bits. bit ∷ bits) (same from (λ e. omega (arith, e)))
    (bits_set words others (suc from) count at (omega (arith, lt)) (ap (bit_in others) there ∙ is)
    (λ place other. same place (λ e. other (e ∙ sym there))))

-- one more bit, which is not set
pub bits_more : (words more : List ℕ) (len : ℕ) (flags : List Bool) → bit_in words len ≡ false
    → ((at : ℕ) → bit_in more at ≡ bit_in words at) → bits_in words 0 len ≡ flags
    → bits_in more 0 (len + 1) ≡ flags ++ false ∷ []
bits_more words more len flags unset same are =
    let last : 0 + len ≡ len = omega arith in
    bits_append more 0 len 1 ∙ ap₂ (λ front back. front ++ back) (bits_same more words 0 len (λ at _ _. same at) ∙ are)
    (ap (λ bit. bit ∷ []) (ap (bit_in more) last ∙ same len ∙ unset))

pub set_last : (flags : List Bool) (n : ℕ) → length flags ≡ n → set (flags ++ false ∷ []) n true ≡ flags ++ true ∷ []
set_last [] zero e = refl
set_last [] (suc n) e = absurd (omega (arith, e))
set_last (flag ∷ flags) zero e = absurd (omega (arith, e))
set_last (flag ∷ flags) (suc n) e = ap (λ rest. flag ∷ rest) (set_last flags n (omega (arith, e)))
