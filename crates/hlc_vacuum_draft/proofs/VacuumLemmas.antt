-- Keeping the newest row at each change, and the rows above the last point, is a vacuum; and the rows that a vacuum
-- keeps at or below the last point are the fewest and the cheapest: they answer alike there, and are as many as the
-- changes.
use Rattle.std.proofs.Common.{◌∙◌, arith, ◌≡◌, ℕ, List}
use Rattle.hlc_clock.specs.Points.{PointsAscend, last_point}
use Rattle.hlc_rows.specs.declared.row.Row.{Row}
use Rattle.hlc_witness.specs.{Changes.AreChanges, Fewest.Alike, Fewest.Fewest, declared.witness.Witness.Witness}
use Rattle.hlc_witness.specs.Cost.{rows_cost, Cheapest, changes_cost}
use Rattle.hlc_vacuum_draft.specs.Vacuumed.{IsVacuumOf, rows_to, KeepsNewest}
use Rattle.hlc_witness.proofs.ChangeLemmas.{changes_force_rows}
use Rattle.hlc_witness.proofs.CostLemmas.{fewest_rows_cost, fewest_rows_are_cheapest}
use Rattle.hlc_vacuum_draft.proofs.{Kept.kept_alike, Kept.low_count, PartLemmas.answer-rows_to}
use Rattle.hlc_witness.proofs.PlaceLemmas.{last_upper}

-- the newest row at each change, all above the last point, and no other
pub newest_rows_suffice : (rows kept : List Row) (points : List ℕ) (changes : List Witness) → PointsAscend points
    → AreChanges rows points changes → KeepsNewest rows points changes kept → IsVacuumOf rows points changes kept
newest_rows_suffice rows kept points changes ascend are keeps = record {
  listed = are;
  row_set = keeps.row_set;
  within = keeps.within;
  above = keeps.above;
  alike = kept_alike rows points changes kept ascend are keeps;
  count = low_count rows points changes kept ascend are keeps;
}

-- the rows that a vacuum keeps are alike at the points without those above them
left_alike : (rows kept : List Row) (points : List ℕ) (changes : List Witness)
    → PointsAscend points → IsVacuumOf rows points changes kept → Alike (rows_to (last_point points) kept) rows points
left_alike rows kept points changes rise v key point i =
    answer-rows_to kept (last_point points) key point v.row_set (last_upper points rise point i)
    ∙ v.alike key point i

pub vacuums_keep_fewest : (rows kept : List Row) (points : List ℕ) (changes : List Witness)
    → PointsAscend points → IsVacuumOf rows points changes kept → Fewest (rows_to (last_point points) kept) rows points
vacuums_keep_fewest rows kept points changes rise v = record {
  alike = left_alike rows kept points changes rise v;
  least = λ others set' alike.
      let h = changes_force_rows rows others points changes v.listed.ascend v.listed.each alike in
      let e = v.count in omega arith;
}

pub vacuums_keep_cheapest : (rows kept : List Row) (points : List ℕ) (changes : List Witness)
    → PointsAscend points → IsVacuumOf rows points changes kept
    → Cheapest (rows_to (last_point points) kept) rows points
vacuums_keep_cheapest rows kept points changes rise v =
    fewest_rows_are_cheapest rows (rows_to (last_point points) kept) points changes v.listed.ascend v.listed.each
    (left_alike rows kept points changes rise v) v.count

pub vacuums_cost_changes : (rows kept : List Row) (points : List ℕ) (changes : List Witness)
    → PointsAscend points → IsVacuumOf rows points changes kept
    → rows_cost (rows_to (last_point points) kept) ≡ changes_cost rows changes
vacuums_cost_changes rows kept points changes rise v =
    fewest_rows_cost rows (rows_to (last_point points) kept) points changes v.listed.ascend v.listed.each
    (left_alike rows kept points changes rise v) v.count
