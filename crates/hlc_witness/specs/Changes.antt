-- Changes: a key and a point at which its answer differs from that at the point before.
use Rattle.std.specs.Prelude.{◌≢◌, ℕ, List, Option, Some, None, All, Contains}
use Rattle.std.specs.{Ordering.nat_cmp, Ordering.ordering_then, declared.cmp.Ordering.Ordering}
use Rattle.std.specs.{Cmp.Lexicographic.slice_cmp, List.Sorted.IsStrictlySortedBy}
use Rattle.hlc_rows.specs.{declared.row.Row.Row, Rows.answer}
use Rattle.hlc_witness.specs.declared.witness.Witness.{Witness}
use Rattle.hlc_clock.specs.Points.{IsPointBefore}

-- the answer at a point, or none if there is no point
abbrev pub answer_at : List Row → List ℕ → Option ℕ → Option (List ℕ)
answer_at rows key None = None
answer_at rows key (Some point) = answer rows key point

-- `at` is a point, and `before` is the point before it
pub record IsAtPoint (points : List ℕ) (change : Witness) : Type 0 where
  pub point : Contains points change.at
  pub neighbour : IsPointBefore points change.before change.at

-- the key's answer at the point differs from that at the point before
pub record IsChange (rows : List Row) (points : List ℕ) (change : Witness) : Type 0 where
  pub place : IsAtPoint points change
  pub differs : answer rows change.key change.at ≢ answer_at rows change.key change.before

-- by key, byte by byte, and then by point
abbrev pub change_cmp : Witness → Witness → Ordering
change_cmp a b = ordering_then (slice_cmp nat_cmp a.key b.key) (nat_cmp a.at b.at)

-- each is above the one before it
abbrev pub ChangesAscend : List Witness → Type 0
ChangesAscend changes = IsStrictlySortedBy change_cmp changes

-- these are the changes, each once, ascending by key and point
pub record AreChanges (rows : List Row) (points : List ℕ) (changes : List Witness) : Type 0 where
  pub ascend : ChangesAscend changes
  pub each : All (IsChange rows points) changes
  pub every : (change : Witness) → IsChange rows points change → Contains changes change
