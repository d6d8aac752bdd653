-- A vacuum to a stamp: the remaining rows represent the past with it, its report is the expected one, and the remaining
-- rows at or below the stamp are the fewest. The answers of the open snapshots above the stamp do not change, since all
-- rows above it stay.
use Rattle.std.proofs.Common.{◌≡◌, ℕ, ◌+◌, ◌≤◌, List, ◌∷◌, length, leb, None, Contains, refl, ap, sym, ◌∙◌, subst, inl}
use Rattle.std.proofs.Common.{inr, arith, IsPermutation, le-leb}
use Rattle.hlc_rows.specs.declared.row.Row.{Row}
use Rattle.std.proofs.lemmas.{Bool.cases_lt, List.Elements.All-contains}
use Rattle.hlc_values.proofs.MemberLemmas.{Contains-from_filter, Contains-filter}
use Rattle.hlc_snapshot.specs.{declared.snapshot.Snapshot.Snapshot, RegistryView.stamps, RegistryView.stamps_to}
use Rattle.hlc_snapshot.proofs.RegisterLemmas.{stamps_to-low}
use Rattle.hlc_clock.specs.Points.{PointsAscend}
use Rattle.hlc_witness.specs.{Fewest.Fewest, Cost.Cheapest, Cost.rows_cost}
use Rattle.hlc_vacuum_draft.specs.{Vacuumed.IsVacuumOf, Vacuumed.rows_to, declared.report.Report.Report}
use Rattle.hlc_vacuum.specs.Representing.{RowsRepresent, RepresentsAfterVacuum, count_above, count_between}
use Rattle.hlc_witness.proofs.CostLemmas.{fewest_rows_are_cheapest, fewest_rows_cost}
use Rattle.hlc_vacuum.proofs.RepresentingLemmas.{vacuums_compose, representing_rows_are_fewest, vacuums_are_certified}
use Rattle.hlc_vacuum.proofs.RepresentingLemmas.{rows_above_are_counted}
use Rattle.hlc_core.specs.Past.{Step, Vacuumed, horizon, vacuumed, part_dropped, open_snapshots, writes, vacuum_refusal}
use Rattle.hlc_core.specs.{Stored.AreVacuumPoints, Stored.IsReport, Stored.LeavesFewest, Calls.Vacuums}
use Rattle.hlc_core.specs.StoreView.{StoreView, with_rows_left, Represents}
use Rattle.hlc_core.proofs.PastLemmas.{vacuum-above, vacuumed-low, writes-limits}
use Rattle.hlc_table_column.proofs.FlagLemmas.{filter-IsRowSet}
use Rattle.hlc_core.proofs.{Opening.fewer-stamps, ReportLemmas.one-changes}
use Rattle.hlc_clock.proofs.PointLemmas.{points-ascend, points-last}

-- with fewer snapshots open
pub fewer-open : (stored all : List Row) (horizon at : ℕ) (snapshots : List Snapshot)
    → RowsRepresent stored all horizon (stamps snapshots) → RowsRepresent stored all horizon (stamps_to at snapshots)
fewer-open stored all horizon at snapshots represent =
    fewer-stamps stored all horizon (stamps snapshots) (stamps_to at snapshots) represent
    (λ stamp m. (Contains-from_filter (λ s. leb s at) (stamps snapshots) stamp m).0)

-- and with those that are open above the horizon
pub more-open : (stored all : List Row) (at : ℕ) (snapshots : List Snapshot)
    → RowsRepresent stored all at (stamps_to at snapshots) → RowsRepresent stored all at (stamps snapshots)
more-open stored all at snapshots represent = record {
  row_set = represent.row_set;
  all_row_set = represent.all_row_set;
  within = represent.within;
  above = represent.above;
  at_open = λ key stamp m.
      elim (cases_lt at stamp) [
        | inl above ↦ represent.from_horizon key stamp (omega arith)
        | inr below ↦ represent.at_open key stamp
            (Contains-filter (λ s. leb s at) (stamps snapshots) stamp m (le-leb stamp at below))
      ];
  from_horizon = represent.from_horizon;
}

-- none of the counted stamps is above the stamp
pub low-open : (at : ℕ) (snapshots : List Snapshot) (stamp : ℕ) → Contains (stamps_to at snapshots) stamp → stamp ≤ at
low-open at snapshots stamp m =
    All-contains (λ stamp. stamp ≤ at) (stamps_to at snapshots) stamp (stamps_to-low at snapshots) m

-- the remaining rows are the fewest, if they represent the past with the vacuum and the report is the expected one
pub leaves-fewest : (kept : StoreView) (at : ℕ) (past : List Step) (report : Report)
    → Represents kept (Vacuumed at ∷ past)
    → IsReport at past report → LeavesFewest kept.rows (writes past) report
leaves-fewest kept at past report h expected =
    let opened : List ℕ = stamps_to at (open_snapshots past) in
    let ascend : PointsAscend report.points = points-ascend opened report.points at expected.points in
    let same : h.stored.0 ≡ report.witnesses = one-changes at past h.stored.1.0 report.points
    h.stored.0 report.witnesses h.stored.1.1 expected.points h.stored.1.2 expected.witnesses in
    let many : length kept.rows + 0 ≡ length h.stored.0 + count_above at (writes past) = h.stored.2 in
    let as_many : length h.stored.0 ≡ length report.witnesses = ap length same in
    let count : length kept.rows ≡ length report.witnesses + count_above at (writes past) = omega arith in
    let after : RepresentsAfterVacuum kept.rows (writes past) at opened report.points report.witnesses =
    representing_rows_are_fewest kept.rows (writes past) at opened report.points report.witnesses
    (fewer-open kept.rows (writes past) at at (open_snapshots past) h.rows) expected.points.members
    (low-open at (open_snapshots past)) expected.witnesses count in
    record {
      row_set = filter-IsRowSet (λ row. leb row.stamp report.floor) kept.rows h.rows.row_set;
      fewest = subst (λ f. Fewest (rows_to f kept.rows) (writes past) report.points) (sym expected.at_stamp)
          after.fewest;
      cheapest = subst (λ f. Cheapest (rows_to f kept.rows) (writes past) report.points) (sym expected.at_stamp)
          (fewest_rows_are_cheapest (writes past) (rows_to at kept.rows) report.points report.witnesses
          after.listed.ascend after.listed.each after.fewest.alike after.count);
      count = ap (λ f. length (rows_to f kept.rows)) expected.at_stamp ∙ after.count ∙ sym expected.kept;
      cost = ap (λ f. rows_cost (rows_to f kept.rows)) expected.at_stamp
          ∙ fewest_rows_cost (writes past) (rows_to at kept.rows) report.points report.witnesses after.listed.ascend
          after.listed.each after.fewest.alike after.count
          ∙ sym expected.bytes;
      certified = λ listed moved up. vacuums_are_certified kept.rows (writes past) listed at opened report.points
          report.witnesses after ascend (points-last opened report.points at expected.points)
          (subst (λ f. IsPermutation (rows_to f kept.rows) listed) expected.at_stamp moved) up
          (writes-limits past h.legal.1);
    }

-- the rows that a vacuum of the stored rows leaves represent the past with it
pub represents-vacuumed : (kept : StoreView) (at : ℕ) (past : List Step) (rows : List Row) (report : Report)
    → Represents kept past → horizon past ≤ at → AreVacuumPoints at past report.points
    → IsVacuumOf kept.rows report.points report.witnesses rows → RepresentsAfterVacuum rows (writes past) at
    (stamps_to at (open_snapshots past)) report.points report.witnesses
represents-vacuumed kept at past rows report h high are made =
    vacuums_compose kept.rows (writes past) rows (horizon past) at (stamps_to at (open_snapshots past)) report.points
    report.witnesses (fewer-open kept.rows (writes past) (horizon past) at (open_snapshots past) h.rows) high
    (points-ascend (stamps_to at (open_snapshots past)) report.points at are) are.members
    (low-open at (open_snapshots past)) made

pub vacuums : (kept : StoreView) (at : ℕ) (past : List Step) (rows : List Row) (report : Report)
    → Represents kept past → vacuum_refusal past at ≡ None → AreVacuumPoints at past report.points
    → IsVacuumOf kept.rows report.points report.witnesses rows → report.floor ≡ at
    → report.kept ≡ length report.witnesses → report.dropped + length rows ≡ length kept.rows
    → report.bytes ≡ rows_cost (rows_to report.floor rows)
    → Vacuums (with_rows_left kept rows at) at past report
vacuums kept at past rows report h none are made at_stamp number dropped bytes =
    let high : horizon past ≤ at = vacuum-above past at none in
    let after : RepresentsAfterVacuum rows (writes past) at (stamps_to at (open_snapshots past)) report.points
    report.witnesses = represents-vacuumed kept at past rows report h high are made in
    let now : length rows ≡ length report.witnesses + count_above at (writes past) = after.stored_count in
    let represents : Represents (with_rows_left kept rows at) (Vacuumed at ∷ past) = record {
      legal = (none, h.legal);
      initial_nodes = h.initial_nodes;
      links = record { many = h.links.many; each = h.links.each };
      top = h.top;
      snapshots = h.snapshots;
      last_id = h.last_id;
      rows = more-open rows (writes past) at (open_snapshots past) after.represents;
      stored = (
        report.witnesses,
        (report.points, are, after.listed),
        (let many : length rows + 0 ≡ length report.witnesses + count_above at (writes past) = omega arith in many),
      );
      horizon = refl;
    } in
    let expected : IsReport at past report = record {
      at_stamp = at_stamp;
      points = are;
      witnesses = after.listed;
      kept = number;
      bytes = bytes ∙ ap (λ f. rows_cost (rows_to f rows)) at_stamp
          ∙ fewest_rows_cost (writes past) (rows_to at rows) report.points report.witnesses after.listed.ascend
          after.listed.each after.fewest.alike after.count;
      dropped = (
        h.stored.0,
        h.stored.1,
        let was : length kept.rows + part_dropped past ≡ length h.stored.0 + count_above (vacuumed past) (writes past) =
            h.stored.2 in
            let low : vacuumed past ≤ horizon past = vacuumed-low past h.legal in
            let parts : count_above (vacuumed past) (writes past)
            ≡ count_between (vacuumed past) at (writes past) + count_above at (writes past) =
            rows_above_are_counted (vacuumed past) at (writes past) (omega arith) in
            omega (arith, number, dropped),
      );
    } in
    record {
      represents = represents;
      expected = expected;
      fewest = leaves-fewest (with_rows_left kept rows at) at past report represents expected;
    }
