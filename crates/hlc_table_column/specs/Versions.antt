-- The versions of a key: its rows without the key, the newest first.
use Rattle.std.specs.Prelude.{◌≡◌, ◌↔◌, ◌⊎◌, ℕ, ◌<◌, ◌≤◌, List, [], ◌∷◌, Bool, true, Option, Some, None, Contains}
use Rattle.std.specs.Prelude.{filter, nat_lt, nat_le, ◌&&◌, ◌||◌, ◌==◌, if◌then◌else◌, option_copied, slice_get, ⊤}
use Rattle.std.specs.{Borrow.Bor, List.AllPairs}
use Rattle.hlc_rows.specs.declared.row.Row.{Row}
use Rattle.hlc_table_column.specs.{Cells.Cell, Rows.row_of}

-- newer than another: later by stamp, and then by node
abbrev pub IsNewer : Cell → Cell → Type 0
IsNewer a b = (b.stamp < a.stamp) ⊎ ((b.stamp ≡ a.stamp) × (b.node < a.node))

-- the rows of a key above one stamp and at or below another, each once, the newest first
pub record AreVersions (rows : List Row) (key : List ℕ) (from to : ℕ) (versions : List Cell) : Type 0 where
  pub newest_first : AllPairs IsNewer versions
  pub exact : (version : Cell) → Contains versions version
      ↔ (Contains rows (row_of key version) × (from < version.stamp) × (version.stamp ≤ to))

-- no two are alike in stamp and node
abbrev pub AreApart : List Cell → Type 0
AreApart [] = ⊤
AreApart (cell ∷ cells) =
    ((other : Cell) → Contains cells other → cell.stamp ≡ other.stamp → cell.node ≡ other.node → ⊥) × AreApart cells

-- one stamp and node is before another: by stamp, and then by node
abbrev pub is_before : ℕ → ℕ → ℕ → ℕ → Bool
is_before stamp node other_stamp other_node =
    nat_lt stamp other_stamp || (stamp == other_stamp && nat_lt node other_node)

-- it comes after the last one, if there was one: it is before that by stamp and node
abbrev pub is_after : Option (ℕ × ℕ) → ℕ → ℕ → Bool
is_after None stamp node = true
is_after (Some last) stamp node = is_before stamp node last.0 last.1

-- it is still to come: above one stamp, at or below another, and after the last one
abbrev pub is_left : ℕ → ℕ → Option (ℕ × ℕ) → Cell → Bool
is_left from to last cell = nat_lt from cell.stamp && nat_le cell.stamp to && is_after last cell.stamp cell.node

-- one more cell in its place
abbrev pub placed : Cell → List Cell → List Cell
placed cell [] = cell ∷ []
placed cell (other ∷ cells) =
    if is_before other.stamp other.node cell.stamp cell.node then cell ∷ other ∷ cells else other ∷ placed cell cells

-- the newest first
abbrev pub newest_first : List Cell → List Cell
newest_first [] = []
newest_first (cell ∷ cells) = placed cell (newest_first cells)

-- the cells that are still to come
abbrev pub versions_left : List Cell → ℕ → ℕ → Option (ℕ × ℕ) → List Cell
versions_left cells from to last = newest_first (filter (is_left from to last) cells)

-- no newer than another
abbrev pub IsNoNewer : Cell → Cell → Type 0
IsNoNewer a b = (a.stamp < b.stamp) ⊎ ((a.stamp ≡ b.stamp) × (a.node ≤ b.node))

-- of the first `count` cells, the newest that is still to come
abbrev pub IsNewestLeft : ℕ → ℕ → Option (ℕ × ℕ) → List Cell → ℕ → Option ℕ → Type 0
IsNewestLeft from to last cells count None =
    (i : ℕ) (cell : Cell) → i < count → slice_get cells i ≡ Some cell → is_left from to last cell ≡ true → ⊥
IsNewestLeft from to last cells count (Some place) =
    (newest : Cell) × (slice_get cells place ≡ Some newest) × (is_left from to last newest ≡ true)
    × ((i : ℕ) (cell : Cell) → i < count → slice_get cells i ≡ Some cell → is_left from to last cell ≡ true
    → IsNoNewer cell newest)

-- a stamp, a node, and a value behind a reference
abbrev pub version_read : ℕ × ℕ × Option (Bor (List ℕ)) → Cell
version_read version = record { stamp = version.0; node = version.1; value = option_copied version.2 }
