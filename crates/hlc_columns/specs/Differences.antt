-- The differences between the answers at two bounds.
use Rattle.std.specs.Prelude.{◌≡◌, ◌≢◌, ◌↔◌, ℕ, List, Bool, true, false, Option, Some, None, map, Contains}
use Rattle.std.specs.Prelude.{if◌then◌else◌, option_copied, bytes_eq}
use Rattle.std.specs.{Borrow.Bor, Ordering.nat_cmp, Cmp.Lexicographic.slice_cmp, List.Sorted.IsStrictlySortedBy}
use Rattle.hlc_rows.specs.{declared.row.Row.Row, Rows.answer}
use Rattle.hlc_table_column.specs.{Cells.Cell, Rows.rows_of}
use Rattle.hlc_columns.specs.Answers.{pairs_in}

-- a key with its value at the second bound, or none if it has none there
abbrev pub Difference : Type 0
Difference = List ℕ × Option (List ℕ)

-- the keys of a kind whose answers at two bounds differ, each once, in byte order, with the answer at the second
pub record AreDifferences (rows : List Row) (from to : ℕ) (IsWanted : List ℕ → Type 0)
    (differences : List Difference) : Type 0 where
  pub ascending : IsStrictlySortedBy (slice_cmp nat_cmp) (map (λ one. one.0) differences)
  pub exact : (key : List ℕ) (value : Option (List ℕ)) → Contains differences (key, value)
      ↔ (IsWanted key × (answer rows key to ≡ value) × (answer rows key from ≢ value))

-- the two answers are the same
abbrev pub is_same : Option (List ℕ) → Option (List ℕ) → Bool
is_same None None = true
is_same None (Some b) = false
is_same (Some a) None = false
is_same (Some a) (Some b) = bytes_eq a b

-- the second answer, if the first is another
abbrev pub difference_of : Option (List ℕ) → Option (List ℕ) → Option (Option (List ℕ))
difference_of before after = if is_same before after then None else Some after

-- for some columns in turn, the keys whose answers at two bounds differ
abbrev pub differences_in : List (List ℕ × List Cell) → ℕ → ℕ → List Difference
differences_in es from to =
    pairs_in (λ e. difference_of (answer (rows_of e.0 e.1) e.0 from) (answer (rows_of e.0 e.1) e.0 to)) es

-- a key and a value behind references
abbrev pub difference_read : Bor (List ℕ) × Option (Bor (List ℕ)) → Difference
difference_read one = (one.0.now, option_copied one.1)
