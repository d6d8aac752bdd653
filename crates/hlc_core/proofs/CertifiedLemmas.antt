-- The certificate of the stored rows at or below a stamp: a plan that drops no row is a vacuum which leaves them, and
-- one that drops a row leaves fewer that answer alike. Just after a vacuum they are the fewest.
use Rattle.std.proofs.Common.{◌≡◌, ℕ, ◌+◌, ◌<◌, ◌≤◌, List, ◌∷◌, length, leb, None, refl, ap, sym, ◌∙◌, subst, arith}
use Rattle.std.specs.{Prelude.count_by, Prelude.not, List.items_where_true}
use Rattle.hlc_rows.specs.declared.row.Row.{Row}
use Rattle.hlc_snapshot.specs.RegistryView.{stamps_to}
use Rattle.hlc_clock.specs.Points.{ArePoints, last_point}
use Rattle.hlc_clock.proofs.PointLemmas.{ArePoints-unique, points-last}
use Rattle.hlc_table_column.proofs.FlagLemmas.{filter-IsRowSet}
use Rattle.hlc_witness.specs.{declared.witness.Witness.Witness, Fewest.Alike, Cost.changes_cost, Cost.rows_cost}
use Rattle.hlc_vacuum_draft.specs.{Plan.PlanView, Report.report_of, declared.report.Report.Report}
use Rattle.hlc_vacuum_draft.specs.Vacuumed.{IsVacuumOf, rows_to}
use Rattle.hlc_vacuum_draft.proofs.ChosenLemmas.{all_chosen, length_chosen}
use Rattle.hlc_vacuum.specs.Representing.{RepresentsAfterVacuum, count_above}
use Rattle.hlc_vacuum.proofs.CountLemmas.{split_count, same_above}
use Rattle.hlc_vacuum.proofs.RepresentingLemmas.{representing_rows_are_fewest}
use Rattle.hlc_core.specs.Past.{Step, Vacuumed, horizon, open_snapshots, writes, vacuum_refusal}
use Rattle.hlc_core.specs.{Stored.AreVacuumPoints, Stored.IsReport, PlanAt.IsPlanAt}
use Rattle.hlc_core.specs.{StoreView.StoreView, StoreView.Represents, Certified.IsCertified, Certified.AreNotFewest}
use Rattle.hlc_core.proofs.{PastLemmas.vacuum-above, ReportLemmas.one-changes, ReportLemmas.a_report}
use Rattle.hlc_core.proofs.VacuumLemmas.{vacuums, represents-vacuumed, fewer-open, low-open}

-- the points of the plan are those of a vacuum after the past
plan-points : (kept : StoreView) (at : ℕ) (past : List Step) (plan : PlanView) → Represents kept past
    → IsPlanAt kept at plan → AreVacuumPoints at past plan.points
plan-points kept at past plan h planned =
    subst (λ snapshots. ArePoints (stamps_to at snapshots) at plan.points) h.snapshots planned.points

-- a plan that drops no row is a certificate
pub plan-certifies : (kept : StoreView) (at : ℕ) (past : List Step) (plan : PlanView) → Represents kept past
    → vacuum_refusal past at ≡ None → IsPlanAt kept at plan → count_by not plan.keep ≡ 0
    → IsCertified kept at past (report_of plan)
plan-certifies kept at past plan h none planned all =
    let same : items_where_true plan.keep kept.rows ≡ kept.rows =
    all_chosen plan.keep kept.rows planned.made.each all in
    record {
      vacuums = vacuums kept at past kept.rows (report_of plan) h none (plan-points kept at past plan h planned)
          (subst (λ rows. IsVacuumOf kept.rows plan.points plan.witnesses rows) same planned.made.vacuumed)
          (points-last (stamps_to at kept.snapshots) plan.points at planned.points) refl (omega (arith, all))
          (planned.made.cost ∙ ap (λ rows. rows_cost (rows_to (last_point plan.points) rows)) same);
      none_dropped = all;
    }

-- a plan that drops a row leaves fewer, which answer alike
pub plan-leaves-fewer : (kept : StoreView) (at : ℕ) (past : List Step) (plan : PlanView) → Represents kept past
    → vacuum_refusal past at ≡ None → IsPlanAt kept at plan → 0 < count_by not plan.keep
    → AreNotFewest kept at past
plan-leaves-fewer kept at past plan h none planned some =
    let left : List Row = items_where_true plan.keep kept.rows in
    let are : AreVacuumPoints at past plan.points = plan-points kept at past plan h planned in
    let high : horizon past ≤ at = vacuum-above past at none in
    let after : RepresentsAfterVacuum left (writes past) at (stamps_to at (open_snapshots past)) plan.points
    plan.witnesses = represents-vacuumed kept at past left (report_of plan) h high are planned.made.vacuumed in
    let number : count_by not plan.keep + length left ≡ length kept.rows =
    length_chosen plan.keep kept.rows planned.made.each in
    let were = split_count at kept.rows in
    let above : count_above at kept.rows ≡ count_above at (writes past) =
    same_above at kept.rows (writes past) h.rows.row_set h.rows.all_row_set (λ row m up. h.rows.within row m)
    (λ row m up. h.rows.above row m (omega arith)) in
    record {
      points = plan.points;
      are_points = are;
      others = rows_to at left;
      row_set = filter-IsRowSet (λ row. leb row.stamp at) left after.represents.row_set;
      alike = after.fewest.alike;
      fewer = omega (arith, some, number, were, above, after.count, after.stored_count);
    }

-- just after a vacuum the rows at or below its stamp are the fewest
pub vacuums-leave-certified : (kept : StoreView) (at : ℕ) (past : List Step) → Represents kept (Vacuumed at ∷ past)
    → AreNotFewest kept at (Vacuumed at ∷ past) → ⊥
vacuums-leave-certified kept at past h not_fewest =
    let opened : List ℕ = stamps_to at (open_snapshots past) in
    let points : List ℕ = h.stored.1.0 in
    let are : AreVacuumPoints at past points = h.stored.1.1 in
    let changes : List Witness = h.stored.0 in
    let many : length kept.rows + 0 ≡ length changes + count_above at (writes past) = h.stored.2 in
    let count : length kept.rows ≡ length changes + count_above at (writes past) = omega arith in
    let after : RepresentsAfterVacuum kept.rows (writes past) at opened points changes =
    representing_rows_are_fewest kept.rows (writes past) at opened points changes
    (fewer-open kept.rows (writes past) at at (open_snapshots past) h.rows) are.members
    (low-open at (open_snapshots past)) h.stored.1.2 count in
    let same : not_fewest.points ≡ points = ArePoints-unique opened not_fewest.points points at not_fewest.are_points
    are in
    let least = after.fewest.least not_fewest.others not_fewest.row_set
    (subst (λ ps. Alike not_fewest.others (writes past) ps) same not_fewest.alike) in
    let fewer : length not_fewest.others < length (rows_to at kept.rows) = not_fewest.fewer in
    absurd (omega arith)

-- and their certificate is the report of the vacuum, with no row dropped
pub certificate-is-report : (kept : StoreView) (at : ℕ) (past : List Step) (report certificate : Report)
    → IsReport at past report → IsCertified kept at (Vacuumed at ∷ past) certificate
    → certificate ≡ record report { dropped = 0 }
certificate-is-report kept at past report certificate is made =
    let also : IsReport at (Vacuumed at ∷ past) certificate = made.vacuums.expected in
    let floor : certificate.floor ≡ report.floor = also.at_stamp ∙ sym is.at_stamp in
    let points : certificate.points ≡ report.points =
    ArePoints-unique (stamps_to at (open_snapshots past)) certificate.points report.points at also.points is.points in
    let witnesses : certificate.witnesses ≡ report.witnesses = one-changes at past certificate.points report.points
    certificate.witnesses report.witnesses also.points is.points also.witnesses is.witnesses in
    let number : certificate.kept ≡ report.kept = also.kept ∙ ap length witnesses ∙ sym is.kept in
    let bytes : certificate.bytes ≡ report.bytes =
    also.bytes ∙ ap (changes_cost (writes past)) witnesses ∙ sym is.bytes in
    let dropped : certificate.dropped ≡ 0 = made.none_dropped in
    let same : a_report certificate.floor certificate.points certificate.kept certificate.bytes certificate.dropped
    certificate.witnesses
    ≡ a_report report.floor report.points report.kept report.bytes 0 report.witnesses = cc in same
