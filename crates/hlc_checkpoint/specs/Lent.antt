-- The rows of a store, column by column, each in order.
use Rattle.std.specs.{Prelude.◌≡◌, Prelude.List, Prelude.[], Prelude.◌∷◌, Prelude.◌++◌, List.Sorted.IsPermutation}
use Rattle.hlc_rows.specs.{declared.row.Row.Row, Rows.IsRowSet}
use Rattle.hlc_table_column.specs.Rows.{KeyCells, rows_in_one}
use Rattle.hlc_witness.specs.{Certificate.RowsAscend, Cost.AreInLimits}

-- the rows of the column are a row set, and an item may write each
abbrev pub IsWritable : KeyCells → Type 0
IsWritable one = IsRowSet (rows_in_one one) × AreInLimits (rows_in_one one)

-- the list has the rows of the column, by stamp and node
pub record IsListOf (one : KeyCells) (rows : List Row) : Type 0 where
  pub same : IsPermutation (rows_in_one one) rows
  pub ascend : RowsAscend rows

-- the list has the rows of the columns, one column after another, each by stamp and node
abbrev pub AreListOf : List KeyCells → List Row → Type 0
AreListOf [] rows = rows ≡ []
AreListOf (one ∷ columns) rows =
    (first : List Row) × (others : List Row) × (rows ≡ first ++ others) × IsListOf one first × AreListOf columns others
