-- How a piece of bytes is returned.
use Rattle.std.specs.Prelude.{◌≡◌, ◌<◌, ◌≤◌, ℕ, List, ◌++◌, length, drop, take, min}

-- The bytes from a place on are at the start of the buffer, as many as it has room for, with how many these are; and
-- 0 where they are the last, or 104 where bytes are left.
abbrev pub ReturnsPiece : List ℕ → ℕ → ℕ → ℕ → List ℕ → List ℕ → Type 0
ReturnsPiece bytes from code len old new =
    (len ≡ min (length (drop from bytes)) (length old))
    × (new ≡ take len (drop from bytes) ++ drop len old)
    × (length (drop from bytes) ≤ length old → code ≡ 0)
    × (length old < length (drop from bytes) → code ≡ 104)
