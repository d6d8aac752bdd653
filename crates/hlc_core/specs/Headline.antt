-- What is promised of a whole history: each read, each vacuum and each part of one, against everything that was
-- accepted before it, whatever vacuums dropped.
use Rattle.std.specs.Prelude.{◌≡◌, ℕ, ◌<◌, ◌≤◌, List, ◌∷◌, ◌++◌, Contains, length, Option, Some, None}
use Rattle.hlc_columns.specs.Answers.{in_part}
use Rattle.hlc_rows.specs.{declared.row.Row.Row, Rows.answer, Rows.newest, Rows.IsNoLater, Rows.IsRowSet}
use Rattle.hlc_node.specs.declared.item.Item.{Item}
use Rattle.hlc_witness.specs.{Fewest.Alike, Cost.rows_cost}
use Rattle.hlc_vacuum_draft.specs.declared.report.Report.{Report}
use Rattle.hlc_events.specs.declared.event.CoreEvent.{CoreEvent}
use Rattle.hlc_events.specs.declared.event.CoreEvent.TheVariants.{Read, List as ListAll, Vacuum, VacuumTo, VacuumPart}
use Rattle.hlc_core.specs.declared.{listing.Pair.Pair, reply.CoreReply.CoreReply}
use Rattle.hlc_core.specs.declared.reply.CoreReply.TheVariants.{Answer, Listing, Vacuumed, VacuumedPart}
use Rattle.hlc_core.specs.Past.{Step, Took, floor, stamp_of, item_rows, writes}
use Rattle.hlc_core.specs.{Stored.IsReport, Stored.LeavesFewest, History.past_of}
use Rattle.hlc_core.specs.Parts.{IsPartReport, rows_of_keys}

-- at some moment of the history it was exactly this one
pub record IsMoment (history before : List (CoreEvent × CoreReply)) : Type 0 where
  pub later : List (CoreEvent × CoreReply)
  pub order : history ≡ later ++ before

-- each read at an open snapshot returned the value of the newest accepted write, by stamp and node, at or below the
-- snapshot's stamp
abbrev pub ReadsAreNewest : ℕ → List (CoreEvent × CoreReply) → Type 0
ReadsAreNewest nodes history =
    (before : List (CoreEvent × CoreReply)) (id : ℕ) (key : List ℕ) (value : Option (List ℕ))
    → IsMoment history ((Read id key, Answer value) ∷ before)
    → (stamp : ℕ) × (stamp_of id (past_of nodes before) ≡ Some stamp)
    × (value ≡ answer (writes (past_of nodes before)) key stamp)

-- The answers of a snapshot never change: whatever came between, two reads of one key in it returned the same, and so
-- did two listings. No id is used again, so one id is one snapshot.
pub record SnapshotsStay (history : List (CoreEvent × CoreReply)) : Type 0 where
  pub reads : (before between : List (CoreEvent × CoreReply)) (id : ℕ) (key : List ℕ) (value again : Option (List ℕ))
      → IsMoment history ((Read id key, Answer again) ∷ (between ++ ((Read id key, Answer value) ∷ before)))
      → again ≡ value
  pub listings : (before between : List (CoreEvent × CoreReply)) (id : ℕ) (listing again : List Pair)
      → IsMoment history ((ListAll id, Listing again) ∷ (between ++ ((ListAll id, Listing listing) ∷ before)))
      → again ≡ listing

-- A reader at this stamp sees each row of the item or a later one of its key, if the item is at or below the stamp; and
-- only earlier ones, if it is above.
pub record IsSeenWhole (all : List Row) (stamp : ℕ) (item : Item) : Type 0 where
  pub shown : item.stamp ≤ stamp → (row : Row) → Contains (item_rows item) row
      → (seen : Row) × (newest all row.key stamp ≡ Some seen) × IsNoLater row seen
  pub hidden : stamp < item.stamp → (row seen : Row) → Contains (item_rows item) row
      → newest all row.key stamp ≡ Some seen → seen.stamp < item.stamp

-- each snapshot shows, of each item accepted so far, all its writes or later ones of their keys, or none of them
abbrev pub SnapshotsShowWhole : ℕ → List (CoreEvent × CoreReply) → Type 0
SnapshotsShowWhole nodes history =
    (before : List (CoreEvent × CoreReply)) (id stamp : ℕ) (item : Item)
    → IsMoment history before
    → stamp_of id (past_of nodes before) ≡ Some stamp
    → Contains (past_of nodes before) (Took item)
    → IsSeenWhole (writes (past_of nodes before)) stamp item

-- the stamp up to which an event asks to vacuum, if it does
abbrev pub vacuum_stamp : List Step → CoreEvent → Option ℕ
vacuum_stamp past Vacuum = Some (floor past)
vacuum_stamp past (VacuumTo at) = Some at
vacuum_stamp past _ = None

-- each vacuum reported its points up to the requested stamp, the changes of all accepted writes there and their number,
-- and no row set that answers alike at the points is smaller than the number of rows that it kept
abbrev pub VacuumsAreFewest : ℕ → List (CoreEvent × CoreReply) → Type 0
VacuumsAreFewest nodes history =
    (before : List (CoreEvent × CoreReply)) (event : CoreEvent) (report : Report)
    → IsMoment history ((event, Vacuumed report) ∷ before)
    → (at : ℕ) × (vacuum_stamp (past_of nodes before) event ≡ Some at) × IsReport at (past_of nodes before) report
    × ((others : List Row) → IsRowSet others → Alike others (writes (past_of nodes before)) report.points
    → report.kept ≤ length others)

-- and no row set that answers alike at the points costs less than the rows that it kept
abbrev pub VacuumsAreCheapest : ℕ → List (CoreEvent × CoreReply) → Type 0
VacuumsAreCheapest nodes history =
    (before : List (CoreEvent × CoreReply)) (event : CoreEvent) (report : Report)
    → IsMoment history ((event, Vacuumed report) ∷ before)
    → (others : List Row) → IsRowSet others → Alike others (writes (past_of nodes before)) report.points
    → report.bytes ≤ rows_cost others

-- just after a vacuum the stored rows at or below its stamp answer alike at its points, are as many as it kept and cost
-- what it reported, and are the fewest and the cheapest
abbrev pub FewestAreLeft : ℕ → List (CoreEvent × CoreReply) → List Row → Type 0
FewestAreLeft nodes history rows =
    (before : List (CoreEvent × CoreReply)) (event : CoreEvent) (report : Report)
    → history ≡ (event, Vacuumed report) ∷ before
    → LeavesFewest rows (writes (past_of nodes before)) report

-- each part of a vacuum reported its points up to the requested stamp, the changes there of all accepted writes of its
-- keys and their number; and no row set that answers alike for these keys at the points is smaller than the number of
-- rows that it kept of them, or costs less
abbrev pub PartsAreFewest : ℕ → List (CoreEvent × CoreReply) → Type 0
PartsAreFewest nodes history =
    (before : List (CoreEvent × CoreReply)) (at : ℕ) (after : List ℕ) (limit : ℕ) (report : Report)
    (end : Option (List ℕ))
    → IsMoment history ((VacuumPart at after limit, VacuumedPart report end) ∷ before)
    → IsPartReport at (past_of nodes before) (in_part after end) report
    × ((others : List Row) → IsRowSet others
    → Alike others (rows_of_keys (in_part after end) (writes (past_of nodes before))) report.points
    → (report.kept ≤ length others) × (report.bytes ≤ rows_cost others))

-- just after part of a vacuum the stored rows of its keys at or below its stamp answer alike at its points, are as many
-- as it kept and cost what it reported, and are the fewest and the cheapest
abbrev pub FewestAreLeftByParts : ℕ → List (CoreEvent × CoreReply) → List Row → Type 0
FewestAreLeftByParts nodes history rows =
    (before : List (CoreEvent × CoreReply)) (at : ℕ) (after : List ℕ) (limit : ℕ) (report : Report)
    (end : Option (List ℕ))
    → history ≡ (VacuumPart at after limit, VacuumedPart report end) ∷ before
    → LeavesFewest (rows_of_keys (in_part after end) rows)
    (rows_of_keys (in_part after end) (writes (past_of nodes before))) report

-- all of this is true of a history with this many nodes at the start, after which these rows are stored
pub record IsFaithful (nodes : ℕ) (history : List (CoreEvent × CoreReply)) (rows : List Row) : Type 0 where
  pub reads : ReadsAreNewest nodes history
  pub stays : SnapshotsStay history
  pub whole : SnapshotsShowWhole nodes history
  pub vacuums : VacuumsAreFewest nodes history
  pub bytes : VacuumsAreCheapest nodes history
  pub fewest : FewestAreLeft nodes history rows
  pub parts : PartsAreFewest nodes history
  pub left_by_parts : FewestAreLeftByParts nodes history rows
