-- A certificate: the evidence that rows are the fewest.
use Rattle.std.specs.Prelude.{◌≡◌, ℕ, ◌≤◌, List, length, All}
use Rattle.std.specs.{Ordering.nat_cmp, Ordering.ordering_then, declared.cmp.Ordering.Ordering}
use Rattle.std.specs.{Cmp.Lexicographic.slice_cmp, List.Sorted.IsStrictlySortedBy}
use Rattle.hlc_rows.specs.declared.row.Row.{Row}
use Rattle.hlc_witness.specs.{declared.witness.Witness.Witness, Cost.AreInLimits}
use Rattle.hlc_clock.specs.Points.{PointsAscend, last_point}
use Rattle.hlc_witness.specs.Changes.{IsChange, ChangesAscend}

-- by key, byte by byte, then by stamp, and then by node
abbrev pub row_cmp : Row → Row → Ordering
row_cmp a b =
    ordering_then (slice_cmp nat_cmp a.key b.key) (ordering_then (nat_cmp a.stamp b.stamp) (nat_cmp a.node b.node))

-- each row is above the one before it
abbrev pub RowsAscend : List Row → Type 0
RowsAscend rows = IsStrictlySortedBy row_cmp rows

-- no row is above the last point
abbrev pub NoneAbove : List ℕ → List Row → Type 0
NoneAbove points rows = All (λ row. row.stamp ≤ last_point points) rows

-- as many changes as rows, each of which an item may write
pub record IsCertificate (rows : List Row) (points : List ℕ) (witnesses : List Witness) : Type 0 where
  pub points_ascend : PointsAscend points
  pub rows_ascend : RowsAscend rows
  pub none_above : NoneAbove points rows
  pub witnesses_ascend : ChangesAscend witnesses
  pub each : All (IsChange rows points) witnesses
  pub count : length witnesses ≡ length rows
  pub limits : AreInLimits rows
