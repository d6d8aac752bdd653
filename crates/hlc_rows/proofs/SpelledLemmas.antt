-- Writes that are read from their bytes, one after another.
use Rattle.std.proofs.Common.{◌≡◌, ◌∙◌, ℕ, zero, suc, ◌-◌, List, [], ◌∷◌, length, refl, sym, ap, arith, Option}
use Rattle.hlc_rows.specs.Spelled.{a_write, key_in, value_in, writes_in}

pub writes_count : (count : ℕ) (bytes : List ℕ) → length (writes_in count bytes) ≡ count
unfolding writes_in
writes_count zero bytes = refl
writes_count (suc count) bytes = ap suc (writes_count count (value_in (key_in bytes).1).1)

-- the first of them, and the others
pub writes_first : (count : ℕ) (bytes : List ℕ) → (count ≡ 0 → ⊥) → writes_in count bytes
    ≡ a_write (key_in bytes).0 (value_in (key_in bytes).1).0 ∷ writes_in (count - 1) (value_in (key_in bytes).1).1
unfolding writes_in
writes_first zero bytes some = absurd (some refl)
writes_first (suc count) bytes some =
    let less : suc count - 1 ≡ count = omega arith in
    rw less refl

pub writes_none : (count : ℕ) (bytes : List ℕ) → count ≡ 0 → writes_in count bytes ≡ []
unfolding writes_in
writes_none zero bytes none = refl
writes_none (suc count) bytes none = absurd cc

-- the same with what the readers of a key and of a value return
pub front : (count : ℕ) (bytes key after : List ℕ) (value : Option (List ℕ)) (rest : List ℕ) → (count ≡ 0 → ⊥)
    → (key, after) ≡ key_in bytes → (value, rest) ≡ value_in after
    → writes_in count bytes ≡ a_write key value ∷ writes_in (count - 1) rest
front count bytes key after value rest some at_key at_value =
    writes_first count bytes some
    ∙ ap (λ (k : List ℕ × List ℕ). a_write k.0 (value_in k.1).0 ∷ writes_in (count - 1) (value_in k.1).1) (sym at_key)
    ∙ ap (λ (v : Option (List ℕ) × List ℕ). a_write key v.0 ∷ writes_in (count - 1) v.1) (sym at_value)
