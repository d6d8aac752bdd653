-- Rows in the order in which certificates list them.
use Rattle.std.specs.Prelude.{ℕ, List, Bool, true, filter, nat_le, nat_lt, IsPermutation}
use Rattle.hlc_rows.specs.declared.row.Row.{Row}
use Rattle.hlc_table_column.specs.Rows.{rows_to}
use Rattle.hlc_witness.specs.Certificate.{RowsAscend}
use Rattle.hlc_checkpoint.specs.declared.sorted.Side.{Side, TheVariants.All, TheVariants.UpTo, TheVariants.Above}

-- the rows at or below a stamp, by key, stamp and node
pub record AreRowsTo (rows : List Row) (bound : ℕ) (listed : List Row) : Type 0 where
  pub same : IsPermutation (rows_to bound rows) listed
  pub ascend : RowsAscend listed

-- among some rows, those above a stamp
abbrev pub rows_above : ℕ → List Row → List Row
rows_above bound rows = filter (λ row. nat_lt bound row.stamp) rows

-- the rows above a stamp, by key, stamp and node
pub record AreRowsAbove (rows : List Row) (bound : ℕ) (listed : List Row) : Type 0 where
  pub same : IsPermutation (rows_above bound rows) listed
  pub ascend : RowsAscend listed

-- a stamp is on this side
abbrev pub is_on : Side → ℕ → Bool
is_on All stamp = true
is_on (UpTo bound) stamp = nat_le stamp bound
is_on (Above bound) stamp = nat_lt bound stamp

-- among some rows, those on this side
abbrev pub rows_on : Side → List Row → List Row
rows_on All rows = rows
rows_on (UpTo bound) rows = rows_to bound rows
rows_on (Above bound) rows = rows_above bound rows
