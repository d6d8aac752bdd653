-- Points: the stamps at which rows are read.
use Rattle.std.specs.Prelude.{◌≡◌, ℕ, ◌<◌, ◌≤◌, ◌⊎◌, ◌↔◌, List, [], ◌∷◌, ◌++◌, length, Option, Some, None, All}
use Rattle.std.specs.Prelude.{Contains}
use Rattle.std.specs.List.Sorted.{IsStrictlyIncreasing}

-- there is a point, and each is above the one before it
abbrev pub PointsAscend : List ℕ → Type 0
PointsAscend points = (0 < length points) × IsStrictlyIncreasing points

-- the point before `at`: the greatest of those below it, and none before the first
abbrev pub IsPointBefore : List ℕ → Option ℕ → ℕ → Type 0
IsPointBefore points None at = All (λ point. at ≤ point) points
IsPointBefore points (Some before) at =
    Contains points before × (before < at) × All (λ point. point < at → point ≤ before) points

-- the last point, 0 if there is none
abbrev pub last_point : List ℕ → ℕ
last_point [] = 0
last_point (point ∷ []) = point
last_point (_ ∷ next ∷ points) = last_point (next ∷ points)

-- the points of a vacuum: these stamps and the floor, each once, ascending, the floor last
pub record ArePoints (stamps : List ℕ) (floor : ℕ) (points : List ℕ) : Type 0 where
  pub ascending : IsStrictlyIncreasing points
  pub members : (point : ℕ) → Contains points point ↔ (Contains stamps point ⊎ (point ≡ floor))
  pub last : (earlier : List ℕ) × (points ≡ earlier ++ floor ∷ [])
