-- Stamps and nodes side by side: the positions of a stamp.
use Rattle.std.specs.Prelude.{◌≡◌, ◌≤◌, ◌<◌, ℕ, List, Option, Some, None, length, slice_index}

-- the greatest node at the positions below n with the stamp, or none if no position has it
abbrev pub IsGreatestNodeBelow : List ℕ → List ℕ → ℕ → ℕ → Option ℕ → Type 0
IsGreatestNodeBelow stamps nodes stamp n (Some node) =
    ((i : ℕ) × (i < n) × (slice_index stamps i ≡ stamp) × (slice_index nodes i ≡ node))
    × ((i : ℕ) → i < n → slice_index stamps i ≡ stamp → slice_index nodes i ≤ node)
IsGreatestNodeBelow stamps nodes stamp n None = (i : ℕ) → i < n → slice_index stamps i ≡ stamp → ⊥

-- the greatest node at the positions with the stamp, or none if no position has it
abbrev pub IsGreatestNode : List ℕ → List ℕ → ℕ → Option ℕ → Type 0
IsGreatestNode stamps nodes stamp answer = IsGreatestNodeBelow stamps nodes stamp (length stamps) answer

-- no position from `from` on and below `to` has the stamp and the node
abbrev pub IsNowhere : List ℕ → List ℕ → ℕ → ℕ → ℕ → ℕ → Type 0
IsNowhere stamps nodes stamp node from to =
    (k : ℕ) → from ≤ k → k < to → slice_index stamps k ≡ stamp → slice_index nodes k ≡ node → ⊥

-- the least position from `from` on and below `to` with the stamp and the node, or none
abbrev pub IsPlaceIn : List ℕ → List ℕ → ℕ → ℕ → ℕ → ℕ → Option ℕ → Type 0
IsPlaceIn stamps nodes stamp node from to (Some i) =
    (from ≤ i) × (i < to) × (slice_index stamps i ≡ stamp) × (slice_index nodes i ≡ node)
    × IsNowhere stamps nodes stamp node from i
IsPlaceIn stamps nodes stamp node from to None = IsNowhere stamps nodes stamp node from to

-- the least position with the stamp and the node, or none
abbrev pub IsPlace : List ℕ → List ℕ → ℕ → ℕ → Option ℕ → Type 0
IsPlace stamps nodes stamp node answer = IsPlaceIn stamps nodes stamp node 0 (length stamps) answer
