-- The certificate of the stored rows at or below a stamp: what a vacuum to it would show that drops none of them.
use Rattle.std.specs.Prelude.{◌≡◌, ℕ, ◌<◌, List, length, None, Result, Ok, Err, ⊤}
use Rattle.hlc_rows.specs.{declared.row.Row.Row, Rows.IsRowSet}
use Rattle.hlc_witness.specs.Fewest.{Alike}
use Rattle.hlc_vacuum_draft.specs.{Vacuumed.rows_to, declared.report.Report.Report}
use Rattle.hlc_events.specs.declared.certificate_fault.CertificateFault.{CertificateFault}
use Rattle.hlc_events.specs.declared.certificate_fault.CertificateFault.TheVariants.{Vacuum, NotFewest}
use Rattle.hlc_core.specs.{Past.Step, Past.writes, Past.vacuum_refusal, StoreView.StoreView, StoreView.with_rows_left}
use Rattle.hlc_core.specs.{Stored.AreVacuumPoints, Calls.IsRefusal, Calls.Vacuums}

-- This is the report of a vacuum to the stamp that leaves all of these stored rows and moves only the horizon. So the
-- rows at or below the stamp are the fewest, and the cheapest, that answer as all accepted writes do at the snapshots
-- open at or below it and at the stamp.
pub record IsCertified (kept : StoreView) (at : ℕ) (past : List Step) (report : Report) : Type 0 where
  pub vacuums : Vacuums (with_rows_left kept kept.rows at) at past report
  pub none_dropped : report.dropped ≡ 0

-- a row set that answers as all accepted writes do at the points of a vacuum to the stamp has fewer rows than are
-- stored at or below it
pub record AreNotFewest (kept : StoreView) (at : ℕ) (past : List Step) : Type 0 where
  pub points : List ℕ
  pub are_points : AreVacuumPoints at past points
  pub others : List Row
  pub row_set : IsRowSet others
  pub alike : Alike others (writes past) points
  pub fewer : length others < length (rows_to at kept.rows)

-- The rows at or below the stamp are certified, and this is the report; or a vacuum to the stamp is refused; or the
-- rows are not the fewest; or memory ran out.
abbrev pub Certifies : StoreView → ℕ → List Step → Result Report CertificateFault → Type 0
Certifies kept at past (Ok report) = (vacuum_refusal past at ≡ None) × IsCertified kept at past report
Certifies kept at past (Err (Vacuum fault)) = IsRefusal (vacuum_refusal past at) ⊤ fault
Certifies kept at past (Err NotFewest) =
    (vacuum_refusal past at ≡ None) × AreNotFewest kept at past
