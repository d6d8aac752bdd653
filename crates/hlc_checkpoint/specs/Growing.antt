-- A checkpoint whose rows are added one by one, each checked as it comes.
use Rattle.std.specs.Prelude.{◌≡◌, List, [], ◌∷◌, ◌++◌, Bool, true, false, Option, Some, None, All, IsTrue, ◌↔◌}
use Rattle.std.specs.{List.Sorted.IsPermutation, declared.cmp.Ordering.TheVariants.Less}
use Rattle.hlc_rows.specs.declared.row.Row.{Row}
use Rattle.hlc_witness.specs.{Certificate.RowsAscend, Certificate.row_cmp, Cost.AreInLimits}
use Rattle.hlc_checkpoint.specs.declared.checkpoint.RestoreFault.{RestoreFault, TheVariants.RowsNotAscending}
use Rattle.hlc_checkpoint.specs.declared.checkpoint.RestoreFault.{TheVariants.RowAboveHead, TheVariants.RowOutOfLimits}
use Rattle.hlc_checkpoint.specs.StoreView.{StoreView, IsUnderHead, with_rows}

-- the state with one more row
abbrev pub with_row : StoreView → Row → StoreView
with_row kept row = with_rows kept (kept.rows ++ row ∷ [])

-- what was made of the rows so far: the parts, with the rows that are stored; the last row without its value; whether
-- the rows ascend, whether each is under the head of its node, and whether an item may write each
pub record GrowingView : Type 0 where
  pub parts : StoreView
  pub last : Option Row
  pub ascend : Bool
  pub under : Bool
  pub limits : Bool

abbrev pub growing_of : StoreView → List Row → Option Row → Bool → Bool → Bool → GrowingView
growing_of head stored last ascend under limits = record {
  parts = with_rows head stored;
  last = last;
  ascend = ascend;
  under = under;
  limits = limits;
}

-- a row without its value
abbrev pub without_value : Row → Row
without_value row = record row { value = None }

-- the last of the rows, without its value; or there are none
abbrev pub IsLast : List Row → Option Row → Type 0
IsLast rows None = rows ≡ []
IsLast rows (Some last) = (front : List Row) × (row : Row) × (rows ≡ front ++ row ∷ []) × (last ≡ without_value row)

-- the row is above the last one, by key, stamp and node
abbrev pub IsAfter : Option Row → Row → Type 0
IsAfter None row = Unit {0}
IsAfter (Some last) row = row_cmp last row ≡ Less

-- These are the parts and all rows that were added. Each flag is true of exactly such rows, and if all are true, the
-- rows are stored.
pub record HasGrown (growing : GrowingView) (kept : StoreView) : Type 0 where
  pub same : growing.parts ≡ with_rows kept growing.parts.rows
  pub last : IsLast kept.rows growing.last
  pub ascend : IsTrue growing.ascend ↔ RowsAscend kept.rows
  pub under : IsTrue growing.under ↔ All (IsUnderHead kept.links) kept.rows
  pub limits : IsTrue growing.limits ↔ AreInLimits kept.rows
  pub stored : IsTrue growing.ascend → IsTrue growing.under → IsTrue growing.limits
      → IsPermutation kept.rows growing.parts.rows

-- the first of the flags that is false
abbrev pub first_fault : Bool → Bool → Bool → Option RestoreFault
first_fault false under limits = Some RowsNotAscending
first_fault true false limits = Some RowAboveHead
first_fault true true false = Some RowOutOfLimits
first_fault true true true = None
