-- The newest of some stamps at a bound.
use Rattle.std.specs.Prelude.{◌≤◌, ◌<◌, ℕ, List, Option, Some, None, All, Contains}

-- the greatest member at or below the bound, or none if no member is
abbrev pub IsNewest : List ℕ → ℕ → Option ℕ → Type 0
IsNewest stamps bound (Some x) = Contains stamps x × (x ≤ bound) × All (λ y. y ≤ bound → y ≤ x) stamps
IsNewest stamps bound None = All (λ y. bound < y) stamps
