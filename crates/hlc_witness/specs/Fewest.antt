-- Rows that answer alike, and the fewest of them.
use Rattle.std.specs.Prelude.{◌≡◌, ℕ, ◌≤◌, List, length, Contains}
use Rattle.hlc_rows.specs.{declared.row.Row.Row, Rows.answer, Rows.IsRowSet}

-- the same answer for each key at each point
abbrev pub Alike : List Row → List Row → List ℕ → Type 0
Alike rows others points = (key : List ℕ) (point : ℕ) → Contains points point
    → answer rows key point ≡ answer others key point

-- the rows are alike to all, and every row set that is alike to all, even of rows that nobody wrote, has at least as
-- many
pub record Fewest (rows all : List Row) (points : List ℕ) : Type 0 where
  pub alike : Alike rows all points
  pub least : (others : List Row) → IsRowSet others → Alike others all points → length rows ≤ length others
