-- Histories of a store that began with a past, as that of a state; and what is promised of them.
use Rattle.std.specs.Prelude.{◌≡◌, ℕ, ◌≤◌, List, [], ◌∷◌, Contains, length, Option, Some, ⊤}
use Rattle.hlc_columns.specs.Answers.{in_part}
use Rattle.hlc_rows.specs.{declared.row.Row.Row, Rows.answer, Rows.IsRowSet}
use Rattle.hlc_node.specs.declared.item.Item.{Item}
use Rattle.hlc_witness.specs.{Fewest.Alike, Cost.rows_cost}
use Rattle.hlc_vacuum_draft.specs.declared.report.Report.{Report}
use Rattle.hlc_events.specs.declared.event.CoreEvent.{CoreEvent, TheVariants.Read, TheVariants.VacuumPart}
use Rattle.hlc_core.specs.{declared.reply.CoreReply.CoreReply, Stored.IsReport, Stored.LeavesFewest}
use Rattle.hlc_core.specs.declared.reply.CoreReply.TheVariants.{Answer, Vacuumed, VacuumedPart}
use Rattle.hlc_core.specs.Past.{Step, Took, stamp_of, writes}
use Rattle.hlc_core.specs.{StoreView.StoreView, StoreView.Represents, Parts.IsPartReport, Parts.rows_of_keys}
use Rattle.hlc_core.specs.History.{step_of, with_step, IsExpected, LeavesPart}
use Rattle.hlc_core.specs.Headline.{IsMoment, SnapshotsStay, IsSeenWhole, vacuum_stamp}

-- what took place in a store that began with this past, the last step first
abbrev pub past_from : List Step → List (CoreEvent × CoreReply) → List Step
past_from start [] = start
past_from start (entry ∷ history) = with_step (step_of entry.0 entry.1) (past_from start history)

-- each reply was expected, in a store with this past at the start
abbrev pub IsLegalFrom : List Step → List (CoreEvent × CoreReply) → Type 0
IsLegalFrom start [] = ⊤
IsLegalFrom start (entry ∷ history) = IsExpected (past_from start history) entry.0 entry.1
    × IsLegalFrom start history

-- if the last event was part of a vacuum, these are the rows just after it
abbrev pub IsLeftFrom : List Step → List (CoreEvent × CoreReply) → List Row → Type 0
IsLeftFrom start [] rows = ⊤
IsLeftFrom start (entry ∷ history) rows = LeavesPart (past_from start history) entry.0 entry.1 rows

-- the core had this past at the start and represents the history: each reply was expected, the core represents
-- what took place, and just after part of a vacuum it has the rows that this leaves
pub record RepresentsFrom (start : List Step) (kept : StoreView) (history : List (CoreEvent × CoreReply)) : Type 0 where
  pub legal : IsLegalFrom start history
  pub core : Represents kept (past_from start history)
  pub left : IsLeftFrom start history kept.rows

-- each read at an open snapshot returned the value of the newest accepted write, by stamp and node, at or below the
-- snapshot's stamp
abbrev pub ReadsAreNewestFrom : List Step → List (CoreEvent × CoreReply) → Type 0
ReadsAreNewestFrom start history =
    (before : List (CoreEvent × CoreReply)) (id : ℕ) (key : List ℕ) (value : Option (List ℕ))
    → IsMoment history ((Read id key, Answer value) ∷ before)
    → (stamp : ℕ) × (stamp_of id (past_from start before) ≡ Some stamp)
    × (value ≡ answer (writes (past_from start before)) key stamp)

-- each snapshot shows, of each item accepted so far, all its writes or later ones of their keys, or none of them
abbrev pub SnapshotsShowWholeFrom : List Step → List (CoreEvent × CoreReply) → Type 0
SnapshotsShowWholeFrom start history =
    (before : List (CoreEvent × CoreReply)) (id stamp : ℕ) (item : Item)
    → IsMoment history before
    → stamp_of id (past_from start before) ≡ Some stamp
    → Contains (past_from start before) (Took item)
    → IsSeenWhole (writes (past_from start before)) stamp item

-- each vacuum reported its points up to the requested stamp, the changes of all accepted writes there and their number,
-- and no row set that answers alike at the points is smaller than the number of rows that it kept
abbrev pub VacuumsAreFewestFrom : List Step → List (CoreEvent × CoreReply) → Type 0
VacuumsAreFewestFrom start history =
    (before : List (CoreEvent × CoreReply)) (event : CoreEvent) (report : Report)
    → IsMoment history ((event, Vacuumed report) ∷ before)
    → (at : ℕ) × (vacuum_stamp (past_from start before) event ≡ Some at) × IsReport at (past_from start before) report
    × ((others : List Row) → IsRowSet others → Alike others (writes (past_from start before)) report.points
    → report.kept ≤ length others)

-- and no row set that answers alike at the points costs less than the rows that it kept
abbrev pub VacuumsAreCheapestFrom : List Step → List (CoreEvent × CoreReply) → Type 0
VacuumsAreCheapestFrom start history =
    (before : List (CoreEvent × CoreReply)) (event : CoreEvent) (report : Report)
    → IsMoment history ((event, Vacuumed report) ∷ before)
    → (others : List Row) → IsRowSet others → Alike others (writes (past_from start before)) report.points
    → report.bytes ≤ rows_cost others

-- just after a vacuum the stored rows at or below its stamp answer alike at its points, are as many as it kept and cost
-- what it reported, and are the fewest and the cheapest
abbrev pub FewestAreLeftFrom : List Step → List (CoreEvent × CoreReply) → List Row → Type 0
FewestAreLeftFrom start history rows =
    (before : List (CoreEvent × CoreReply)) (event : CoreEvent) (report : Report)
    → history ≡ (event, Vacuumed report) ∷ before
    → LeavesFewest rows (writes (past_from start before)) report

-- each part of a vacuum reported its points up to the requested stamp, the changes there of all accepted writes of its
-- keys and their number; and no row set that answers alike for these keys at the points is smaller than the number of
-- rows that it kept of them, or costs less
abbrev pub PartsAreFewestFrom : List Step → List (CoreEvent × CoreReply) → Type 0
PartsAreFewestFrom start history =
    (before : List (CoreEvent × CoreReply)) (at : ℕ) (after : List ℕ) (limit : ℕ) (report : Report)
    (end : Option (List ℕ))
    → IsMoment history ((VacuumPart at after limit, VacuumedPart report end) ∷ before)
    → IsPartReport at (past_from start before) (in_part after end) report
    × ((others : List Row) → IsRowSet others
    → Alike others (rows_of_keys (in_part after end) (writes (past_from start before))) report.points
    → (report.kept ≤ length others) × (report.bytes ≤ rows_cost others))

-- just after part of a vacuum the stored rows of its keys at or below its stamp answer alike at its points, are as many
-- as it kept and cost what it reported, and are the fewest and the cheapest
abbrev pub FewestAreLeftByPartsFrom : List Step → List (CoreEvent × CoreReply) → List Row → Type 0
FewestAreLeftByPartsFrom start history rows =
    (before : List (CoreEvent × CoreReply)) (at : ℕ) (after : List ℕ) (limit : ℕ) (report : Report)
    (end : Option (List ℕ))
    → history ≡ (VacuumPart at after limit, VacuumedPart report end) ∷ before
    → LeavesFewest (rows_of_keys (in_part after end) rows)
    (rows_of_keys (in_part after end) (writes (past_from start before))) report

-- all of this is true of a history with this past at the start, after which these rows are stored
pub record IsFaithfulFrom (start : List Step) (history : List (CoreEvent × CoreReply)) (rows : List Row) : Type 0 where
  pub reads : ReadsAreNewestFrom start history
  pub stays : SnapshotsStay history
  pub whole : SnapshotsShowWholeFrom start history
  pub vacuums : VacuumsAreFewestFrom start history
  pub bytes : VacuumsAreCheapestFrom start history
  pub fewest : FewestAreLeftFrom start history rows
  pub parts : PartsAreFewestFrom start history
  pub left_by_parts : FewestAreLeftByPartsFrom start history rows
