-- The greatest of some numbers, for the kernels' own steps.
use Rattle.std.specs.Prelude.{ℕ, List, [], ◌∷◌, max, nat_le, if◌then◌else◌}

-- the stamp if it is at or below the bound, and 0 otherwise
abbrev pub within : ℕ → ℕ → ℕ
within bound stamp = if nat_le stamp bound then stamp else 0

-- the greatest number of a list, 0 for none
abbrev pub greatest : List ℕ → ℕ
greatest [] = 0
greatest (x ∷ xs) = max x (greatest xs)
