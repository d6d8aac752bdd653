-- The digits at the front of a text are its first word where a space follows them, and its only word where nothing
-- follows.
use Rattle.std.proofs.Common.{◌≡◌, ℕ, ◌+◌, ◌-◌, ◌<◌, ◌∙◌, sym, ap, List, [], ◌∷◌, length, get_or, take, drop, arith}
use Rattle.std.proofs.Common.{eqb}
use Rattle.std.{specs.Prelude.decimal, specs.Int.IsInRange, specs.List.slice_split, proofs.lemmas.List.take_all}
use Rattle.hlc_text.proofs.Cuts.{at_none, at_first_range}

no_space : (text : List ℕ) (at : ℕ) → ((k : ℕ) → k < at → IsInRange 48 57 (get_or text k 0)) → (k : ℕ) → k < at
    → get_or text k 0 ≡ 32 → ⊥
no_space text at digits k below space = let digit = digits k below in absurd (omega (arith, digit.0, space))

pub only_word : (text : List ℕ) (n at : ℕ) → take at text ≡ decimal n
    → ((k : ℕ) → k < at → IsInRange 48 57 (get_or text k 0)) → at ≡ length text
    → slice_split (λ b. eqb b 32) text ≡ decimal n ∷ []
only_word text n at spelled digits all =
    at_none text 32 (λ k below. no_space text at digits k (omega (arith, below, all)))
    ∙ ap (λ (word : List ℕ). word ∷ []) (sym (take_all at text (omega (arith, all))) ∙ spelled)

pub first_word : (text : List ℕ) (n at : ℕ) → take at text ≡ decimal n
    → ((k : ℕ) → k < at → IsInRange 48 57 (get_or text k 0)) → at < length text → get_or text at 0 ≡ 32
    → slice_split (λ b. eqb b 32) text
    ≡ decimal n ∷ slice_split (λ b. eqb b 32) (take (length text - (at + 1)) (drop (at + 1) text))
first_word text n at spelled digits within space =
    at_first_range text 32 at within (no_space text at digits) space
    ∙ ap (λ word. word ∷ slice_split (λ b. eqb b 32) (take (length text - (at + 1)) (drop (at + 1) text))) spelled
