-- A listing is not longer than the sizes of the table allow: each of its pairs has a key of its own, and the value of a
-- row of its own.
use Rattle.std.proofs.Common.{◌≡◌, ◌≤◌, ◌+◌, ◌*◌, ◌∙◌, ℕ, List, [], ◌∷◌, Some, None, refl, sym, ap, Contains, sum_by}
use Rattle.std.proofs.Common.{length, arith}
use Rattle.std.proofs.lemmas.List.Sums.{sum_by-cons}
use Rattle.hlc_values.proofs.PigeonLemmas.{served}
use Rattle.hlc_rows.specs.{declared.row.Row.Row, Rows.newest, Rows.answer}
use Rattle.hlc_rows.proofs.NewestLemmas.{newest_is_greatest, answer_none, answer_some}
use Rattle.hlc_table_column.specs.Cells.{value_bytes}
use Rattle.hlc_columns.specs.{Answers.AreAnswers, Sizes.Sizes, Sizes.AreSizes, Sizes.row_bytes}
use Rattle.hlc_core.proofs.DifferenceLemmas.{HaveOtherKeys, keys_apart}
use Rattle.hlc_range_calls.specs.Listing.{listing_bytes}
use Rattle.hlc_range_calls.proofs.ByteLemmas.{listing_length, pair_length}

abbrev Pair : Type 0
Pair = List ℕ × List ℕ

-- what a pair takes for its key, and for its value
abbrev key_part : Pair → ℕ
key_part pair = 16 + length pair.0

abbrev value_part : Pair → ℕ
value_part pair = length pair.1

in_parts : (pairs : List Pair) → length (listing_bytes pairs) ≡ sum_by key_part pairs + sum_by value_part pairs
in_parts [] = refl
in_parts (pair ∷ pairs) =
    let rest = in_parts pairs in
    let whole = listing_length pair pairs in
    let first = pair_length pair in
    let keys = sum_by-cons key_part pair pairs in
    let values = sum_by-cons value_part pair pairs in
    omega (arith, rest, whole, first, keys, values)

-- an answer is the value of a row of the key
abbrev HasRow : List Row → Pair → Type 0
HasRow rows pair = (row : Row) × Contains rows row × (row.key ≡ pair.0) × (row.value ≡ Some pair.1)

row_of_answer : (rows : List Row) (bound : ℕ) (pair : Pair) → answer rows pair.0 bound ≡ Some pair.1 → HasRow rows pair
row_of_answer rows bound pair is =
    elim (newest rows pair.0 bound) as (λ o. newest rows pair.0 bound ≡ o → HasRow rows pair) [
      | None ↦ λ none.
          let no : None ≡ Some pair.1 = sym (answer_none rows pair.0 bound none) ∙ is in absurd (cc)
      | Some row ↦ λ some.
          let greatest = newest_is_greatest rows pair.0 bound row some in
          (row, greatest.member, greatest.of_key, sym (answer_some rows pair.0 bound row some) ∙ is)
    ] refl

-- the pair's key, and its row
abbrev IsKeyOf : Pair → List ℕ → Type 0
IsKeyOf pair key = key ≡ pair.0

abbrev IsRowOf : Pair → Row → Type 0
IsRowOf pair row = (row.key ≡ pair.0) × (row.value ≡ Some pair.1)

with_lengths : (keys : List (List ℕ)) → sum_by (λ key. 16 + length key) keys ≡ 16 * length keys + sum_by length keys
with_lengths [] = refl
with_lengths (key ∷ keys) =
    let rest = with_lengths keys in
    let one = sum_by-cons (λ (k : List ℕ). 16 + length k) key keys in
    let bytes = sum_by-cons length key keys in
    omega (arith, rest, one, bytes)

pub listing_room : (rows : List Row) (bound : ℕ) (IsWanted : List ℕ → Type 0) (pairs : List Pair) (sizes : Sizes)
    → AreAnswers rows bound IsWanted pairs → AreSizes rows sizes
    → length (listing_bytes pairs) ≤ 16 * sizes.keys + (sizes.key_bytes + sizes.value_bytes)
listing_room rows bound IsWanted pairs sizes are is =
    let row : (pair : Pair) → Contains pairs pair → HasRow rows pair =
    λ pair m. row_of_answer rows bound pair ((are.exact pair.0 pair.1).0 m).1 in
    let apart = keys_apart pairs are.ascending in
    let keys : sum_by key_part pairs ≤ sum_by (λ key. 16 + length key) is.keys =
    served HaveOtherKeys IsKeyOf key_part (λ (key : List ℕ). 16 + length key)
    (λ pair key same. let lengths = ap length same in omega (arith, lengths))
    (λ pair other key apart first second. apart (sym first ∙ second)) pairs is.keys apart
    (λ pair m. let at = row pair m in (pair.0, (is.are.exact pair.0).1 (at.0, at.1, at.2), refl)) in
    let values : sum_by value_part pairs ≤ sum_by row_bytes rows =
    served HaveOtherKeys IsRowOf value_part row_bytes
    (λ pair row same. let bytes = ap value_bytes same.1 in omega (arith, bytes))
    (λ pair other row apart first second. apart (sym first.0 ∙ second.0)) pairs rows apart
    (λ pair m. let at = row pair m in (at.0, at.1, (at.2, at.3))) in
    let total = in_parts pairs in
    let lengths = with_lengths is.keys in
    let many = is.key_count in
    let key_sum = is.key_bytes in
    let value_sum = is.value_bytes in
    omega (arith, keys, values, total, lengths, many, key_sum, value_sum)
