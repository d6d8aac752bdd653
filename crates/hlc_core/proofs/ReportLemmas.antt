-- There is one report of a vacuum: its points are one list, and so are its changes and those of the one before.
use Rattle.std.proofs.Common.{◌≡◌, ℕ, List, [], ◌∷◌, length, ap, sym, ◌∙◌, arith}
use Rattle.hlc_snapshot.specs.RegistryView.{stamps_to}
use Rattle.hlc_witness.specs.{declared.witness.Witness.Witness, AllChanges.all_changes}
use Rattle.hlc_witness.specs.{Changes.AreChanges, Cost.changes_cost}
use Rattle.hlc_vacuum_draft.specs.declared.report.Report.{Report}
use Rattle.hlc_clock.proofs.PointLemmas.{ArePoints-unique, points-ascend}
use Rattle.hlc_witness.proofs.ChangeLemmas.{changes_are_one}
use Rattle.hlc_core.specs.Past.{Step, Vacuumed, open_snapshots, writes}
use Rattle.hlc_core.specs.Stored.{AreVacuumPoints, AreLastChanges, IsStoredCount, IsReport}

-- the changes of one vacuum are one list
pub one-changes : (at : ℕ) (past : List Step) (points others : List ℕ) (changes before : List Witness)
    → AreVacuumPoints at past points → AreVacuumPoints at past others → AreChanges (writes past) points changes
    → AreChanges (writes past) others before → changes ≡ before
one-changes at past points others changes before found also are were =
    let opened : List ℕ = stamps_to at (open_snapshots past) in
    let same : points ≡ others = ArePoints-unique opened points others at found also in
    changes_are_one (writes past) points changes (points-ascend opened points at found) are
    ∙ ap (all_changes (writes past)) same
    ∙ sym (changes_are_one (writes past) others before (points-ascend opened others at also) were)

-- and those of the last vacuum are as many
pub one-last : (past : List Step) (changes before : List Witness)
    → AreLastChanges past changes → AreLastChanges past before → length changes ≡ length before
one-last [] changes before are were = ap length (are ∙ sym were)
one-last (Vacuumed at ∷ past) changes before are were =
    ap length (one-changes at past are.0 were.0 changes before are.1 were.1 are.2 were.2)
one-last (_ ∷ past) changes before are were = one-last past changes before are were

-- there is one expected number of stored rows
pub there_is_one_count : (past : List Step) (count other : ℕ)
    → IsStoredCount past count → IsStoredCount past other → count ≡ other
there_is_one_count past count other is also =
    let same : length is.0 ≡ length also.0 = one-last past is.0 also.0 is.1 also.1 in
    omega (arith, is.2, also.2)

abbrev pub a_report : ℕ → List ℕ → ℕ → ℕ → ℕ → List Witness → Report
a_report at points kept bytes dropped witnesses =
    record { floor = at; points = points; kept = kept; bytes = bytes; dropped = dropped; witnesses = witnesses }

-- and one expected report
pub there_is_one_report : (at : ℕ) (past : List Step) (report other : Report)
    → IsReport at past report → IsReport at past other → report ≡ other
there_is_one_report at past report other is also =
    let stamp : report.floor ≡ other.floor = is.at_stamp ∙ sym also.at_stamp in
    let points : report.points ≡ other.points =
    ArePoints-unique (stamps_to at (open_snapshots past)) report.points other.points at is.points also.points in
    let witnesses : report.witnesses ≡ other.witnesses = one-changes at past report.points other.points
    report.witnesses other.witnesses is.points also.points is.witnesses also.witnesses in
    let kept : report.kept ≡ other.kept = is.kept ∙ ap length witnesses ∙ sym also.kept in
    let before : length is.dropped.0 ≡ length also.dropped.0 =
    one-last past is.dropped.0 also.dropped.0 is.dropped.1 also.dropped.1 in
    let dropped : report.dropped ≡ other.dropped = omega (arith, is.dropped.2, also.dropped.2) in
    let bytes : report.bytes ≡ other.bytes = is.bytes ∙ ap (changes_cost (writes past)) witnesses ∙ sym also.bytes in
    let same : a_report report.floor report.points report.kept report.bytes report.dropped report.witnesses
    ≡ a_report other.floor other.points other.kept other.bytes other.dropped other.witnesses = cc in same
