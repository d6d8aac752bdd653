-- A part of a vacuum: rows that no reader needs are dropped, and the horizon is moved to its stamp.
use Rattle.std.proofs.Common.{◌≡◌, ℕ, ◌+◌, ◌≤◌, List, ◌∷◌, Bool, length, leb, None, refl, ap, sym, ◌∙◌, subst, arith}
use Rattle.std.specs.{Prelude.not, Prelude.Ok, List.Sorted.IsPermutation}
use Rattle.std.proofs.lemmas.List.Elements.{All-filter}
use Rattle.hlc_clock.specs.Points.{ArePoints, PointsAscend}
use Rattle.hlc_clock.proofs.PointLemmas.{points-ascend, points-last}
use Rattle.hlc_rows.specs.{declared.row.Row.Row, Rows.IsRowSet}
use Rattle.hlc_table_column.proofs.FlagLemmas.{filter-IsRowSet}
use Rattle.hlc_snapshot.specs.RegistryView.{stamps, stamps_to}
use Rattle.hlc_witness.specs.{Fewest.Fewest, Cost.Cheapest, Cost.IsInLimits, Cost.rows_cost, Cost.changes_cost}
use Rattle.hlc_witness.proofs.CostLemmas.{fewest_rows_are_cheapest, fewest_rows_cost}
use Rattle.hlc_vacuum_draft.specs.Vacuumed.{IsVacuumOf, rows_to}
use Rattle.hlc_vacuum.specs.Representing.{RowsRepresent, RepresentsAfterVacuum, count_above}
use Rattle.hlc_vacuum_draft.specs.{declared.report.Report.Report, Report.report_of}
use Rattle.hlc_columns.specs.Answers.{in_part}
use Rattle.hlc_vacuum.specs.{declared.part.PartPlan.PartPlan, Part.IsPartVacuum}
use Rattle.hlc_vacuum.proofs.RepresentingLemmas.{vacuums_compose, vacuums_are_certified}
use Rattle.hlc_core.specs.Past.{Step, PartVacuumed, floor, horizon, vacuumed, part_dropped, open_snapshots, writes}
use Rattle.hlc_core.specs.Past.{vacuum_refusal}
use Rattle.hlc_core.specs.{Stored.AreVacuumPoints, Checkpoint.floor_in, PlanAt.IsPartPlanAt}
use Rattle.hlc_core.specs.StoreView.{StoreView, with_rows_left, Represents}
use Rattle.hlc_core.specs.Parts.{rows_of_keys, VacuumsKeys, VacuumsPart}
use Rattle.hlc_core.proofs.PastLemmas.{vacuum-above, vacuum-none, writes-limits}
use Rattle.hlc_core.proofs.{CheckpointLemmas.floor-in, PartLemmas.represent-of_keys, PartLemmas.represent-parts}
use Rattle.hlc_core.proofs.VacuumLemmas.{fewer-open, more-open, low-open}

-- the rows that it left represent the past with it
pub part_dropped-represents : (kept new : StoreView) (past : List Step) (at dropped : ℕ) → Represents kept past
    → vacuum_refusal past at ≡ None → new ≡ with_rows_left kept new.rows at
    → RowsRepresent new.rows (writes past) at (stamps (open_snapshots past))
    → length new.rows + dropped ≡ length kept.rows → Represents new (PartVacuumed at dropped ∷ past)
part_dropped-represents kept new past at dropped h none is rows count =
    let was : length kept.rows + part_dropped past ≡ length h.stored.0 + count_above (vacuumed past) (writes past) =
    h.stored.2 in
    let now : length new.rows + (dropped + part_dropped past)
    ≡ length h.stored.0 + count_above (vacuumed past) (writes past) = omega arith in
    let left : Represents (with_rows_left kept new.rows at) (PartVacuumed at dropped ∷ past) = record {
      legal = (none, h.legal);
      initial_nodes = h.initial_nodes;
      links = record { many = h.links.many; each = h.links.each };
      top = h.top;
      snapshots = h.snapshots;
      last_id = h.last_id;
      rows = rows;
      stored = (h.stored.0, h.stored.1, now);
      horizon = refl;
    } in
    subst (λ (view : StoreView). Represents view (PartVacuumed at dropped ∷ past)) (sym is) left

-- the rows of the keys of a kind that part of a vacuum leaves represent all accepted writes of these keys with it
represents-part : (kept : StoreView) (at : ℕ) (past : List Step) (rows : List Row) (is_of : List ℕ → Bool)
    (report : Report) → Represents kept past → horizon past ≤ at → AreVacuumPoints at past report.points
    → IsVacuumOf (rows_of_keys is_of kept.rows) report.points report.witnesses (rows_of_keys is_of rows)
    → RepresentsAfterVacuum (rows_of_keys is_of rows) (rows_of_keys is_of (writes past)) at
    (stamps_to at (open_snapshots past)) report.points report.witnesses
represents-part kept at past rows is_of report h high are made =
    vacuums_compose (rows_of_keys is_of kept.rows) (rows_of_keys is_of (writes past)) (rows_of_keys is_of rows)
    (horizon past) at (stamps_to at (open_snapshots past)) report.points report.witnesses
    (represent-of_keys is_of kept.rows (writes past) (horizon past) (stamps_to at (open_snapshots past))
    (fewer-open kept.rows (writes past) (horizon past) at (open_snapshots past) h.rows)) high
    (points-ascend (stamps_to at (open_snapshots past)) report.points at are) are.members
    (low-open at (open_snapshots past)) made

-- Part of a vacuum, of the keys of a kind: the remaining rows represent the past with it, its report is the expected
-- one, and the remaining rows of these keys at or below its stamp are the fewest.
pub vacuums_keys : (kept : StoreView) (at : ℕ) (past : List Step) (rows : List Row) (is_of : List ℕ → Bool)
    (report : Report)
    → Represents kept past → vacuum_refusal past at ≡ None → AreVacuumPoints at past report.points
    → IsRowSet rows
    → rows_of_keys (λ key. not (is_of key)) rows ≡ rows_of_keys (λ key. not (is_of key)) kept.rows
    → IsVacuumOf (rows_of_keys is_of kept.rows) report.points report.witnesses (rows_of_keys is_of rows)
    → report.floor ≡ at → report.kept ≡ length report.witnesses → report.dropped + length rows ≡ length kept.rows
    → report.bytes ≡ rows_cost (rows_to report.floor (rows_of_keys is_of rows))
    → VacuumsKeys kept (with_rows_left kept rows at) at past is_of report
vacuums_keys kept at past rows is_of report h none are apart others made at_stamp number dropped bytes =
    let opened : List ℕ = stamps_to at (open_snapshots past) in
    let mine : List Row = rows_of_keys is_of rows in
    let all' : List Row = rows_of_keys is_of (writes past) in
    let high : horizon past ≤ at = vacuum-above past at none in
    let after : RepresentsAfterVacuum mine all' at opened report.points report.witnesses =
    represents-part kept at past rows is_of report h high are made in
    let left : RowsRepresent rows (writes past) at (stamps (open_snapshots past)) =
    represent-parts is_of kept.rows rows (writes past) (horizon past) at (stamps (open_snapshots past)) h.rows high
    apart (more-open mine all' at (open_snapshots past) after.represents) others in
    let count : length rows + report.dropped ≡ length kept.rows = omega (arith, dropped) in
    let ascend : PointsAscend report.points = points-ascend opened report.points at are in
    let cost : rows_cost (rows_to report.floor mine) ≡ changes_cost all' report.witnesses =
    ap (λ f. rows_cost (rows_to f mine)) at_stamp
    ∙ fewest_rows_cost all' (rows_to at mine) report.points report.witnesses after.listed.ascend after.listed.each
    after.fewest.alike after.count in
    record {
      represents =
          part_dropped-represents kept (with_rows_left kept rows at) past at report.dropped h none refl left count;
      others = others;
      expected = record {
        at_stamp = at_stamp;
        points = are;
        witnesses = after.listed;
        kept = number;
        bytes = bytes ∙ cost;
      };
      dropped = dropped;
      fewest = record {
        row_set = filter-IsRowSet (λ row. leb row.stamp report.floor) mine after.represents.row_set;
        fewest = subst (λ f. Fewest (rows_to f mine) all' report.points) (sym at_stamp) after.fewest;
        cheapest = subst (λ f. Cheapest (rows_to f mine) all' report.points) (sym at_stamp)
            (fewest_rows_are_cheapest all' (rows_to at mine) report.points report.witnesses after.listed.ascend
            after.listed.each after.fewest.alike after.count);
        count = ap (λ f. length (rows_to f mine)) at_stamp ∙ after.count ∙ sym number;
        cost = sym bytes;
        certified = λ listed moved up. vacuums_are_certified mine all' listed at opened report.points report.witnesses
            after ascend (points-last opened report.points at are)
            (subst (λ f. IsPermutation (rows_to f mine) listed) at_stamp moved) up
            (All-filter (λ row. is_of row.key) IsInLimits (writes past) (writes-limits past h.legal));
      };
    }

-- what was planned for a part at a stamp from the horizon to the floor, and carried out, is part of a vacuum to it
pub part-vacuums_keys : (kept : StoreView) (at : ℕ) (past : List Step) (after : List ℕ) (limit : ℕ) (part : PartPlan)
    (rows : List Row) → Represents kept past → at ≤ floor_in kept → kept.horizon ≤ at
    → IsPartPlanAt kept at after limit part
    → IsPartVacuum kept.rows rows (in_part after part.end) (report_of part.plan)
    → VacuumsPart kept (with_rows_left kept rows at) at after limit past (Ok (report_of part.plan, part.end))
part-vacuums_keys kept at past after limit part rows h low high planned made =
    let floor-is = floor-in kept past h in
    let below : at ≤ floor past = omega (arith, low, floor-is) in
    let above : horizon past ≤ at = (let e = h.horizon in omega (arith, high, e)) in
    let none = vacuum-none past at below above in
    let points = subst (λ xs. ArePoints (stamps_to at xs) at part.plan.points) h.snapshots planned.points in (
      none,
      record { columns = planned.made.columns; next = planned.made.next; is = planned.made.end },
      vacuums_keys kept at past rows (in_part after part.end) (report_of part.plan) h none points made.row_set
          made.others
          made.vacuumed (points-last _ _ _ planned.points) made.kept made.dropped made.bytes,
    )
