-- The first byte of some value among the next ones, found by counting those before it, is the first one in the text.
use Rattle.std.proofs.Common.{◌≡◌, ℕ, ◌+◌, ◌<◌, ◌≤◌, ◌∙◌, sym, List, length, get_or, arith, eqb, eq-eqb, inl, inr, not}
use Rattle.std.{specs.List.prefix_len, proofs.lemmas.Simd.run_in_chunk_fails, proofs.lemmas.Simd.run_in_chunk_stops}
use lib.Lanes.{chunk}
use Rattle.std.proofs.lemmas.Bool.{cases_lt, eqb-true, false≢true}

-- none of the counted bytes is it
none_counted : (text : List ℕ) (byte from n r : ℕ) → from + n ≤ length text
    → r ≡ prefix_len (λ x. not (eqb x byte)) (chunk from n text)
    → ((k : ℕ) → k < from → get_or text k 0 ≡ byte → ⊥) → (k : ℕ) → k < from + r → get_or text k 0 ≡ byte → ⊥
none_counted text byte from n r room counted before k below is =
    elim (cases_lt k from) [
      | inl front ↦ before k front is
      | inr beyond ↦ false≢true
          (sym (run_in_chunk_fails (λ x. eqb x byte) text from n r 0 room counted k beyond below)
          ∙ eq-eqb (get_or text k 0) byte is)
    ]

pub place_found : (text : List ℕ) (byte from n r : ℕ) → from + n ≤ length text
    → r ≡ prefix_len (λ x. not (eqb x byte)) (chunk from n text)
    → ((k : ℕ) → k < from → get_or text k 0 ≡ byte → ⊥) → r < n → (from + r < length text)
    × (get_or text (from + r) 0 ≡ byte)
    × ((k : ℕ) → k < from + r → get_or text k 0 ≡ byte → ⊥)
place_found text byte from n r room counted before within = (
  omega (arith, room, within),
  eqb-true (get_or text (from + r) 0) byte (run_in_chunk_stops (λ x. eqb x byte) text from n r 0 room counted within),
  none_counted text byte from n r room counted before,
)

pub none_found : (text : List ℕ) (byte from n r : ℕ) → from + n ≤ length text
    → r ≡ prefix_len (λ x. not (eqb x byte)) (chunk from n text)
    → ((k : ℕ) → k < from → get_or text k 0 ≡ byte → ⊥) → n ≤ r → (k : ℕ) → k < from + n
    → get_or text k 0 ≡ byte → ⊥
none_found text byte from n r room counted before all k below =
    none_counted text byte from n r room counted before k (omega (arith, below, all))
