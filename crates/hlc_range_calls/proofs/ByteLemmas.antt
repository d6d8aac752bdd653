-- The bytes of a listing, pair by pair, and where they lie in a buffer.
use Rattle.std.proofs.Common.{◌≡◌, ℕ, ◌+◌, ◌<◌, ◌≤◌, ◌∙◌, sym, ap, List, ◌∷◌, ◌++◌, length, Some, None, flat_map, leb}
use Rattle.std.proofs.Common.{false, true≢false, inl, inr, arith, length-append}
use Rattle.std.proofs.lemmas.{List.append_assoc, Bool.cases_Bool, Bool.le-leb, Bool.leb-true}
use Rattle.hlc_wire.specs.Placing.{with_bytes}
use Rattle.hlc_wire.proofs.PlacingLemmas.{put_both}
use Rattle.hlc_range_calls.specs.Listing.{sized, answer_bytes, pair_bytes, listing_bytes}
use Rattle.hlc_range_calls.specs.Changes.{change_bytes}

-- a key and a value take their bytes, and 16
pub pair_length : (pair : List ℕ × List ℕ) → length (pair_bytes pair) ≡ 16 + (length pair.0 + length pair.1)
pair_length pair =
    let both : length (pair_bytes pair) ≡ length (sized pair.0) + length (sized pair.1) =
    length-append (sized pair.0) (sized pair.1) in
    omega (arith, both)

-- a listing takes its first pair's bytes, and those of the others
pub listing_length : (pair : List ℕ × List ℕ) (pairs : List (List ℕ × List ℕ))
    → length (listing_bytes (pair ∷ pairs)) ≡ length (pair_bytes pair) + length (listing_bytes pairs)
listing_length pair pairs = length-append (pair_bytes pair) (listing_bytes pairs)

-- a key and an answer take their bytes, and 9, or 17 where there is a value
pub none_length : (key : List ℕ) → length (change_bytes (key, None)) ≡ 9 + length key
none_length key =
    let both : length (change_bytes (key, None)) ≡ length (sized key) + length (answer_bytes None) =
    length-append (sized key) (answer_bytes None) in
    omega (arith, both)

pub some_length : (key value : List ℕ) → length (change_bytes (key, Some value)) ≡ 17 + (length key + length value)
some_length key value =
    let both : length (change_bytes (key, Some value)) ≡ length (sized key) + length (answer_bytes (Some value)) =
    length-append (sized key) (answer_bytes (Some value)) in
    omega (arith, both)

-- two tests of numbers have one outcome
pub same_le : (a b x y : ℕ) → (a ≤ b → x ≤ y) → (x ≤ y → a ≤ b) → leb a b ≡ leb x y
same_le a b x y into back =
    elim (cases_Bool (leb a b)) [
      | inl t ↦ t ∙ sym (le-leb x y (into (leb-true a b t)))
      | inr f ↦ elim (cases_Bool (leb x y)) [
        | inl u ↦ absurd (true≢false (sym (le-leb a b (back (leb-true x y u))) ∙ f))
        | inr g ↦ f ∙ sym g
      ]
    ]

pub no_le : (x y : ℕ) → y < x → false ≡ leb x y
no_le x y lt =
    elim (cases_Bool (leb x y)) [
      | inl u ↦ absurd (let le = leb-true x y u in omega (arith, le, lt))
      | inr g ↦ sym g
    ]

-- one item more is put
pub put_next : {X : Type 0} (part : X → List ℕ) (all left next : List X) (item : X) (before old out new : List ℕ)
    (at end : ℕ) → left ≡ item ∷ next → flat_map part all ≡ before ++ flat_map part left → at ≡ length before
    → out ≡ with_bytes 0 before old → end ≡ at + length (part item) → new ≡ with_bytes at (part item) out
    → length (flat_map part all) ≤ length old
    → (after : List ℕ) × (flat_map part all ≡ after ++ flat_map part next) × (end ≡ length after)
    × (new ≡ with_bytes 0 after old)
put_next {X} part all left next item before old out new at end is whole here so_far ends put fits =
    let now : flat_map part all ≡ (before ++ part item) ++ flat_map part next =
    whole ∙ ap (λ (items : List X). before ++ flat_map part items) is
    ∙ sym (append_assoc before (part item) (flat_map part next)) in
    let long : length (flat_map part all) ≡ length (before ++ part item) + length (flat_map part next) =
    ap length now ∙ length-append (before ++ part item) (flat_map part next) in (
      before ++ part item,
      now,
      ends ∙ ap (λ (n : ℕ). n + length (part item)) here ∙ sym (length-append before (part item)),
      put_both 0 at before (part item) old out new so_far (omega (arith, here)) put (omega (arith, long, fits)),
    )
