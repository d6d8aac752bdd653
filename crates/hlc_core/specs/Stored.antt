-- The accepted writes that vacuums keep, and their reports.
use Rattle.std.specs.Prelude.{◌≡◌, ℕ, ◌+◌, List, [], ◌∷◌, length, IsPermutation}
use Rattle.hlc_rows.specs.{declared.row.Row.Row, Rows.IsRowSet}
use Rattle.hlc_snapshot.specs.RegistryView.{stamps_to}
use Rattle.hlc_clock.specs.Points.{ArePoints}
use Rattle.hlc_witness.specs.{declared.witness.Witness.Witness, Changes.AreChanges, Fewest.Fewest}
use Rattle.hlc_witness.specs.Cost.{Cheapest, changes_cost, rows_cost}
use Rattle.hlc_vacuum_draft.specs.{Vacuumed.rows_to, declared.report.Report.Report}
use Rattle.hlc_vacuum.specs.Representing.{count_above, count_between}
use Rattle.hlc_witness.specs.Certificate.{RowsAscend, IsCertificate}
use Rattle.hlc_core.specs.Past.{Step, Vacuumed, vacuumed, part_dropped, open_snapshots, writes}

-- the points of a vacuum to a stamp after this past: the stamps of the open snapshots at or below it, and the stamp
-- itself, each once, ascending
abbrev pub AreVacuumPoints : ℕ → List Step → List ℕ → Type 0
AreVacuumPoints at past points = ArePoints (stamps_to at (open_snapshots past)) at points

-- the changes of all accepted writes at the points of a vacuum to a stamp after this past
abbrev pub AreVacuumChanges : ℕ → List Step → List Witness → Type 0
AreVacuumChanges at past changes =
    (points : List ℕ) × AreVacuumPoints at past points × AreChanges (writes past) points changes

-- the changes of the last whole vacuum; none before the first
abbrev pub AreLastChanges : List Step → List Witness → Type 0
AreLastChanges [] changes = changes ≡ []
AreLastChanges (Vacuumed at ∷ past) changes = AreVacuumChanges at past changes
AreLastChanges (_ ∷ past) changes = AreLastChanges past changes

-- the number of stored rows, with those that parts of vacuums dropped since the last whole one: as many as the changes
-- at that and the accepted writes above its stamp
abbrev pub IsStoredCount : List Step → ℕ → Type 0
IsStoredCount past number =
    (changes : List Witness) × AreLastChanges past changes
    × (number + part_dropped past ≡ length changes + count_above (vacuumed past) (writes past))

-- The report of a vacuum to a stamp after this past. The rows that it keeps cost exactly what its changes force. With
-- the parts of vacuums since the last whole one, it drops the rows of the changes of that one and those of the accepted
-- writes between the stamps of the two, except as many as its own changes.
pub record IsReport (at : ℕ) (past : List Step) (report : Report) : Type 0 where
  pub at_stamp : report.floor ≡ at
  pub points : AreVacuumPoints at past report.points
  pub witnesses : AreChanges (writes past) report.points report.witnesses
  pub kept : report.kept ≡ length report.witnesses
  pub bytes : report.bytes ≡ changes_cost (writes past) report.witnesses
  pub dropped : (before : List Witness) × AreLastChanges past before
      × (report.dropped + report.kept + part_dropped past
      ≡ length before + count_between (vacuumed past) at (writes past))

-- The rows that the vacuum of this report left: at or below its floor a row set, the fewest rows that answer as all do
-- at its points, and the cheapest, with the number and the cost that it reports. In the order of key, stamp and node
-- its witnesses certify them.
pub record LeavesFewest (rows all : List Row) (report : Report) : Type 0 where
  pub row_set : IsRowSet (rows_to report.floor rows)
  pub fewest : Fewest (rows_to report.floor rows) all report.points
  pub cheapest : Cheapest (rows_to report.floor rows) all report.points
  pub count : length (rows_to report.floor rows) ≡ report.kept
  pub cost : rows_cost (rows_to report.floor rows) ≡ report.bytes
  pub certified : (listed : List Row) → IsPermutation (rows_to report.floor rows) listed → RowsAscend listed
      → IsCertificate listed report.points report.witnesses
