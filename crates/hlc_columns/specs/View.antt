-- A table at a stamp.
use Rattle.std.specs.Prelude.{ℕ, List}
use Rattle.hlc_rows.specs.declared.row.Row.{Row}

-- the rows, and the stamp at which they are read
pub record Seen : Type 0 where
  pub rows : List Row
  pub stamp : ℕ
