-- The rows of one key, without the key.
use Rattle.std.specs.Prelude.{◌≡◌, ℕ, List, [], ◌∷◌, Option, Some, None, length}
pub use Rattle.hlc_table_sizes.specs.Sizes.{value_bytes}

-- a stamp, the node that wrote it, and the value, or None for a deletion mark
pub record Cell : Type 0 where
  pub stamp : ℕ
  pub node : ℕ
  pub value : Option (List ℕ)

-- stamps, nodes and values side by side
abbrev pub cells_of : List ℕ → List ℕ → List (Option (List ℕ)) → List Cell
cells_of [] nodes values = []
cells_of (stamp ∷ stamps) [] values = []
cells_of (stamp ∷ stamps) (node ∷ nodes) [] = []
cells_of (stamp ∷ stamps) (node ∷ nodes) (value ∷ values) =
    record { stamp = stamp; node = node; value = value } ∷ cells_of stamps nodes values

abbrev pub AreBeside : List ℕ → List ℕ → List (Option (List ℕ)) → Type 0
AreBeside stamps nodes values = (length nodes ≡ length stamps) × (length values ≡ length stamps)

-- the bytes of the value of a row
abbrev pub cell_bytes : Cell → ℕ
cell_bytes cell = value_bytes cell.value

-- the cells of a column, if there is one
abbrev pub cells_in : Option (List Cell) → List Cell
cells_in None = []
cells_in (Some cells) = cells

-- the rows of lists, and how many fit without more memory
pub record CellsWithRoom : Type 0 where
  pub cells : List Cell
  pub room : ℕ
