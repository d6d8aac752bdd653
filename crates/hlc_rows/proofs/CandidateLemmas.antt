-- A row passes the test of a candidate exactly if it is of the key, and at or below the stamp.
use Rattle.std.proofs.Common.{◌≡◌, ◌≢◌, ℕ, ◌≤◌, List, true, false, inl, inr, nat_le, leb-true, le-leb, bytes_eq}
use Rattle.std.proofs.lemmas.{Bool.cases_Bool, Bool.and_parts, Bool.and_from, Slice.Eq.bytes_eq-Decides}
use Rattle.hlc_rows.specs.{declared.row.Row.Row, Rows.is_candidate}

pub candidate_true : (key : List ℕ) (bound : ℕ) (row : Row) → is_candidate key bound row ≡ true
    → (row.key ≡ key) × (row.stamp ≤ bound)
candidate_true key bound row h =
    let both : (bytes_eq row.key key ≡ true) × (nat_le row.stamp bound ≡ true) = and_parts _ _ h in
    ((bytes_eq-Decides row.key key).0 both.0, leb-true _ _ both.1)

pub candidate_from : (key : List ℕ) (bound : ℕ) (row : Row) → row.key ≡ key → row.stamp ≤ bound
    → is_candidate key bound row ≡ true
candidate_from key bound row k s = and_from _ _ ((bytes_eq-Decides row.key key).1 k) (le-leb _ _ s)

-- a row of another key does not pass it
pub other-misses : (key : List ℕ) (bound : ℕ) (row : Row) → row.key ≢ key → is_candidate key bound row ≡ false
other-misses key bound row apart =
    elim (cases_Bool (is_candidate key bound row)) [
      | inl hit ↦ absurd (apart (candidate_true key bound row hit).0)
      | inr miss ↦ miss
    ]
