-- Whether stores have only the keys that a division gives them.
use Rattle.std.specs.Prelude.{◌≡◌, ◌≢◌, ℕ, ◌<◌, List, ◌∷◌, ◌++◌, length, take, Some, slice_get, All}
use Rattle.hlc_rows.specs.declared.row.Row.{Row}
use Rattle.hlc_table_column.specs.Rows.{KeyCells, rows_in}
use Rattle.hlc_columns.specs.Table.{columns_in}
use Rattle.hlc_core.specs.StoreView.{StoreView}
use Rattle.hlc_routing.specs.Division.{DivisionView, stores_of, store_of}
use Rattle.hlc_routing.specs.declared.placing.PlacingFault.{PlacingFault}
use Rattle.hlc_routing.specs.declared.placing.PlacingFault.TheVariants.{Number, Key, NoMemory}

-- each row has a key of this store
abbrev pub ArePlaced : DivisionView → ℕ → List Row → Type 0
ArePlaced division s rows = All (λ row. store_of division row.key ≡ s) rows

-- each store has only rows of its keys
abbrev pub AreAllPlaced : DivisionView → List StoreView → Type 0
AreAllPlaced division stores =
    (s : ℕ) (store : StoreView) → slice_get stores s ≡ Some store → ArePlaced division s store.rows

-- the column has rows, and the key of another store
abbrev pub IsOther : DivisionView → ℕ → KeyCells → Type 0
IsOther division s column = (0 < length column.cells) × (store_of division column.key ≢ s)

-- the column at this place is the first of a leaf that is so
pub record IsOtherAt (division : DivisionView) (s : ℕ) (leaf : List KeyCells) (place : ℕ) : Type 0 where
  pub column : KeyCells
  pub at : slice_get leaf place ≡ Some column
  pub other : IsOther division s column
  pub placed : ArePlaced division s (rows_in (take place leaf))

-- the leaf at the first place of these is the first that has such a column, and its first one is at the second place
pub record IsOtherOf (division : DivisionView) (s : ℕ) (leaves : List (List KeyCells)) (places : ℕ × ℕ) : Type 0 where
  pub leaf : List KeyCells
  pub at : slice_get leaves places.0 ≡ Some leaf
  pub other : IsOtherAt division s leaf places.1
  pub placed : ArePlaced division s (rows_in (columns_in (take places.0 leaves)))

-- the first row that has a key of another store has this key
pub record IsFirstOther (division : DivisionView) (s : ℕ) (rows : List Row) (key : List ℕ) : Type 0 where
  pub before : List Row
  pub row : Row
  pub after : List Row
  pub rows_are : rows ≡ before ++ row ∷ after
  pub placed : ArePlaced division s before
  pub key_is : row.key ≡ key
  pub other : store_of division key ≢ s

-- the first store that has a row of another one's key has this number, and this is its first such key
pub record IsMisplaced (division : DivisionView) (stores : List StoreView) (s : ℕ) (key : List ℕ) : Type 0 where
  pub store : StoreView
  pub at : slice_get stores s ≡ Some store
  pub first : IsFirstOther division s store.rows key
  pub before : (t : ℕ) (other : StoreView) → t < s → slice_get stores t ≡ Some other
      → ArePlaced division t other.rows

-- why stores are refused: they are more or fewer than the division has; one has a key of another; out of memory
abbrev pub IsRefusedPlacing : DivisionView → List StoreView → PlacingFault → Type 0
IsRefusedPlacing division stores Number = length stores ≢ stores_of division
IsRefusedPlacing division stores (Key s key) = (length stores ≡ stores_of division) × IsMisplaced division stores s key
IsRefusedPlacing division stores NoMemory = length stores ≡ stores_of division
