-- The writes of some keys of a batch are a batch, or none.
use Rattle.std.proofs.Common.{◌≡◌, ℕ, Bool, true, false, ◌≤◌, cond, eqb, ltb, bytes_eq, List, [], ◌∷◌, length, None}
use Rattle.std.proofs.Common.{refl, arith}
use Rattle.std.proofs.lemmas.Bool.{or_parts, le-ltb, ne_eqb}
use Rattle.hlc_rows.specs.{declared.limits.TheConstants.MAX_WRITES, declared.write.Write.Write, Limits.write_refusal}
use Rattle.hlc_rows.specs.Writes.{writes_key, writes_twice, writes_refusal, batch_refusal}
use Rattle.hlc_rows.proofs.WritesLemmas.{first-none, good}
use Rattle.hlc_node.specs.Items.{body_refusal}
use Rattle.hlc_split.specs.Split.{batch_of, writes_of}

fewer : (is_of : List ℕ → Bool) (writes : List Write) → length (writes_of is_of writes) ≤ length writes
fewer is_of [] = omega arith
fewer is_of (write ∷ writes) =
    let rest = fewer is_of writes in
    elim (is_of write.key)
    as (λ b. length (cond b (write ∷ writes_of is_of writes) (writes_of is_of writes)) ≤ length (write ∷ writes)) [
      | true ↦ omega (arith, rest)
      | false ↦ omega (arith, rest)
    ]

-- a key that none of the writes has, none of fewer has
no-key : (is_of : List ℕ → Bool) (key : List ℕ) (writes : List Write) → writes_key key writes ≡ false
    → writes_key key (writes_of is_of writes) ≡ false
no-key is_of key [] h = refl
no-key is_of key (write ∷ writes) h =
    let parts = or_parts (bytes_eq write.key key) (writes_key key writes) h in
    let rest = no-key is_of key writes parts.1 in
    elim (is_of write.key)
    as (λ b. writes_key key (cond b (write ∷ writes_of is_of writes) (writes_of is_of writes)) ≡ false) [
      | true ↦ rw (parts.0, rest) refl
      | false ↦ rest
    ]

once : (is_of : List ℕ → Bool) (writes : List Write) → writes_twice writes ≡ false
    → writes_twice (writes_of is_of writes) ≡ false
once is_of [] h = refl
once is_of (write ∷ writes) h =
    let parts = or_parts (writes_key write.key writes) (writes_twice writes) h in
    let rest = once is_of writes parts.1 in
    let here = no-key is_of write.key writes parts.0 in
    elim (is_of write.key)
    as (λ b. writes_twice (cond b (write ∷ writes_of is_of writes) (writes_of is_of writes)) ≡ false) [
      | true ↦ rw (here, rest) refl
      | false ↦ rest
    ]

none-refused : (is_of : List ℕ → Bool) (writes : List Write) → writes_refusal writes ≡ None
    → writes_refusal (writes_of is_of writes) ≡ None
none-refused is_of [] h = refl
none-refused is_of (write ∷ writes) h =
    let parts = first-none (write_refusal write.key write.value) (writes_refusal writes) h in
    let rest = none-refused is_of writes parts.1 in
    elim (is_of write.key)
    as (λ b. writes_refusal (cond b (write ∷ writes_of is_of writes) (writes_of is_of writes)) ≡ None) [
      | true ↦ rw (parts.0, rest) refl
      | false ↦ rest
    ]

of-none : (writes : List Write) → ltb MAX_WRITES (length writes) ≡ false → writes_twice writes ≡ false
    → writes_refusal writes ≡ None → body_refusal (batch_of writes) ≡ None
of-none [] few apart good = refl
of-none (write ∷ writes) few apart good =
    let some : eqb (length (write ∷ writes)) 0 ≡ false = ne_eqb _ _ (λ none. omega (arith, none)) in
    rw (some, few, apart, good) refl

pub batch-allowed : (is_of : List ℕ → Bool) (writes : List Write) → batch_refusal writes ≡ None
    → body_refusal (batch_of (writes_of is_of writes)) ≡ None
batch-allowed is_of writes h =
    let are = good writes h in
    let least = are.few in
    of-none (writes_of is_of writes) (le-ltb _ _ (omega (arith, fewer is_of writes, least)))
    (once is_of writes are.once) (none-refused is_of writes are.none)
