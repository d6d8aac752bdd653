-- Rows, and the newest row of a key at or below a stamp.
use Rattle.std.specs.Prelude.{◌≡◌, ℕ, ◌<◌, ◌≤◌, ◌⊎◌, List, [], ◌∷◌, Contains, Bool, ◌&&◌, ◌||◌, ◌==◌, nat_lt, nat_le}
use Rattle.std.specs.Prelude.{Option, Some, None, option_and_then, if◌then◌else◌, ⊤, bytes_eq}
use Rattle.hlc_rows.specs.declared.row.Row.{Row}

-- no later than the other, by stamp and then by node
abbrev pub IsNoLater : Row → Row → Type 0
IsNoLater a b = (a.stamp < b.stamp) ⊎ ((a.stamp ≡ b.stamp) × (a.node ≤ b.node))

-- the row is the newest of its key at or below a stamp: the greatest of those rows by stamp and node
pub record IsNewest (rows : List Row) (key : List ℕ) (bound : ℕ) (row : Row) : Type 0 where
  pub member : Contains rows row
  pub of_key : row.key ≡ key
  pub in_bound : row.stamp ≤ bound
  pub greatest : (other : Row) → Contains rows other → other.key ≡ key → other.stamp ≤ bound → IsNoLater other row

-- the two rows are one version of one key
pub record IsSameVersion (a b : Row) : Type 0 where
  pub key : a.key ≡ b.key
  pub stamp : a.stamp ≡ b.stamp
  pub node : a.node ≡ b.node

-- no two rows are alike in key, stamp and node
abbrev pub IsRowSet : List Row → Type 0
IsRowSet [] = ⊤
IsRowSet (row ∷ rows) = ((other : Row) → Contains rows other → IsSameVersion row other → ⊥) × IsRowSet rows

-- The newest row as a function, for definitions that compute with answers.

-- the row is of this key, at or below this stamp
abbrev pub is_candidate : List ℕ → ℕ → Row → Bool
is_candidate key bound row = bytes_eq row.key key && nat_le row.stamp bound

-- one row comes before the other by stamp, and then by node
abbrev pub is_before : Row → Row → Bool
is_before a b = nat_lt a.stamp b.stamp || (a.stamp == b.stamp && nat_lt a.node b.node)

-- the later of the two
abbrev pub later : Row → Option Row → Row
later row None = row
later row (Some other) = if is_before row other then other else row

-- the newest row of a key at or below a stamp
unfoldable pub newest : List Row → List ℕ → ℕ → Option Row
newest [] key bound = None
newest (row ∷ rows) key bound =
    if is_candidate key bound row then Some (later row (newest rows key bound)) else newest rows key bound

-- its value, or none for a deletion mark or if there is no such row
abbrev pub answer : List Row → List ℕ → ℕ → Option (List ℕ)
answer rows key bound = option_and_then (λ row. row.value) (newest rows key bound)
