-- The newest of some stamps and nodes, which are side by side.
use Rattle.std.specs.Prelude.{◌≡◌, ◌≤◌, ◌<◌, ℕ, List, Option, Some, None, length, slice_index}

-- the row at p is not above the row at q: by stamp, then by node, and of rows alike in both the later one is below
abbrev pub NotAbove : List ℕ → List ℕ → ℕ → ℕ → Type 0
NotAbove stamps nodes p q =
    (slice_index stamps p ≤ slice_index stamps q)
    × (slice_index stamps p ≡ slice_index stamps q → slice_index nodes p ≤ slice_index nodes q)
    × (slice_index stamps p ≡ slice_index stamps q → slice_index nodes p ≡ slice_index nodes q → q ≤ p)

-- the position of the greatest row at or below the bound, among the positions below n; or each row there is above the
-- bound
abbrev pub IsNewestBelow : List ℕ → List ℕ → ℕ → ℕ → Option ℕ → Type 0
IsNewestBelow stamps nodes bound n None = (p : ℕ) → p < n → bound < slice_index stamps p
IsNewestBelow stamps nodes bound n (Some place) =
    (place < n) × (slice_index stamps place ≤ bound)
    × ((p : ℕ) → p < n → slice_index stamps p ≤ bound → NotAbove stamps nodes p place)

-- the first position of the greatest node with the stamp; or no position has the stamp
abbrev pub IsGreatestAt : List ℕ → List ℕ → ℕ → Option ℕ → Type 0
IsGreatestAt stamps nodes stamp None = (p : ℕ) → p < length stamps → slice_index stamps p ≡ stamp → ⊥
IsGreatestAt stamps nodes stamp (Some place) =
    (place < length stamps) × (slice_index stamps place ≡ stamp)
    × ((p : ℕ) → p < length stamps → slice_index stamps p ≡ stamp
    → (slice_index nodes p ≤ slice_index nodes place)
    × (slice_index nodes p ≡ slice_index nodes place → place ≤ p))
