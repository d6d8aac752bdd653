-- What a read finds, and where that lies.
use Rattle.std.specs.Prelude.{◌≡◌, ℕ, List, [], length, Option, Some, None}
use Rattle.hlc_rows.specs.{declared.row.Row.Row, Rows.answer}

-- 0, and the value; or 102, and no bytes, where there is none
abbrev pub FindsAnswer : Option (List ℕ) → ℕ → List ℕ → Type 0
FindsAnswer None code found = (code ≡ 102) × (found ≡ [])
FindsAnswer (Some value) code found = (code ≡ 0) × (found ≡ value)

-- the answer at the stamp of the snapshot; or 10, and no bytes, where there is none
abbrev pub Finds : Option ℕ → List Row → List ℕ → ℕ → List ℕ → Type 0
Finds None rows key code found = (code ≡ 10) × (found ≡ [])
Finds (Some stamp) rows key code found = FindsAnswer (answer rows key stamp) code found

-- the same, as bytes that are lent for the lifetime of a loan, and how many they are
abbrev pub FindsLent : Option ℕ → List Row → List ℕ → ℕ → ℕ → ℕ → Option (ℕ × List ℕ) → Type 0
FindsLent stamp rows key loan code len lent =
    (found : List ℕ) × Finds stamp rows key code found × (len ≡ length found) × (lent ≡ Some (loan, found))
