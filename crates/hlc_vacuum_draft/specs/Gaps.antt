-- Gaps between stamps.
use Rattle.std.specs.Prelude.{ℕ, ◌<◌, ◌≤◌, ◌⊎◌, List, All}

-- none of the stamps is in the gap, which begins at `from` and ends below `next`
abbrev pub NoneBetween : List ℕ → ℕ → ℕ → Type 0
NoneBetween stamps from next = All (λ stamp. (stamp < from) ⊎ (next ≤ stamp)) stamps
