-- The effect of each call of a core, for one past that the core represented.
use Rattle.std.specs.Prelude.{◌≡◌, ℕ, ◌<◌, ◌≤◌, ◌+◌, ◌⊎◌, List, [], ◌∷◌, ◌==◌, ◌||◌, nat_lt, Option, Some, None}
use Rattle.std.specs.Prelude.{if◌then◌else◌, Result, Ok, Err, MatchResult, ⊤}
use Rattle.hlc_rows.specs.declared.row.Row.{Row}
use Rattle.hlc_node.specs.declared.item.{Item.Item, Body.Body}
use Rattle.hlc_node.specs.declared.item.Body.TheVariants.{Write, Batch, Report, Retire}
use Rattle.hlc_events.specs.declared.fault.{CoreFault.CoreFault, NoNode.NoNode as NoSuchNode}
use Rattle.hlc_events.specs.declared.fault.CoreFault.TheVariants.{NoMemory, NoNode, NoSnapshot}
use Rattle.hlc_snapshot.specs.declared.fault.NoSnapshot.{NoSnapshot as NoSuchSnapshot}
use Rattle.hlc_core.specs.{declared.listing.Pair.Pair, Listing.IsListing}
use Rattle.hlc_heads.specs.{Heads.AcceptedView, declared.heads.TheConstants.MAX_INITIAL_NODES}
use Rattle.hlc_vacuum_draft.specs.declared.report.{Numbers.Numbers, Report.Report as AReport}
use Rattle.hlc_vacuum_draft.specs.Report.{numbers_of}
use Rattle.hlc_core.specs.Past.{Step, Started, Took, Opened, Closed, Vacuumed, Joined, numbered, count, floor, last_id}
use Rattle.hlc_core.specs.Past.{stamp_of, writes, item_refusal, join_refusal, join_at_refusal, room_refusal}
use Rattle.hlc_core.specs.Past.{open_refusal, vacuum_refusal}
pub use Rattle.hlc_checkpoint.specs.Sorted.{AreRowsTo}
pub use Rattle.hlc_columns.specs.Sizes.{AreSizes}
pub use Rattle.hlc_table_column.specs.Versions.{AreVersions}
use Rattle.hlc_core.specs.Stored.{IsReport, LeavesFewest}
use Rattle.hlc_core.specs.StoreView.{StoreView, Represents}

-- the fault of a refused call: the first expected refusal; or, if none is expected, that memory runs out, if the call
-- may need memory
abbrev pub IsRefusal : Option CoreFault → Type 0 → CoreFault → Type 0
IsRefusal expected MayGrow fault = (expected ≡ Some fault) ⊎ ((expected ≡ None) × (fault ≡ NoMemory) × MayGrow)

-- why no core of this many nodes is made
abbrev pub new_refusal : ℕ → Option CoreFault
new_refusal count = if count == 0 || nat_lt MAX_INITIAL_NODES count then Some NoNode else None

-- a new core represents the past in which it started with these nodes, and nothing else took place
abbrev pub Makes : ℕ → Result StoreView CoreFault → Type 0
Makes count (Ok core) = (new_refusal count ≡ None) × Represents core (Started count ∷ [])
Makes count (Err fault) = IsRefusal (new_refusal count) ⊤ fault

-- a write, a deletion or a batch of them: only these need rows
abbrev pub IsWrite : Body → Type 0
IsWrite (Write key value) = ⊤
IsWrite (Batch writes) = ⊤
IsWrite Report = ⊥
IsWrite Retire = ⊥

-- the item was accepted, or refused with the first expected refusal
abbrev pub Accepts : StoreView → Item → List Step → Result AcceptedView (CoreFault × Item) → Type 0
Accepts new item past (Ok accepted) = (item_refusal past item ≡ None)
    × Represents new (Took item ∷ past)
Accepts new item past (Err refused) = IsRefusal (item_refusal past item) (IsWrite item.body) refused.0

-- the same for a borrowed item
abbrev pub AcceptsCopy : StoreView → Item → List Step → Result AcceptedView CoreFault → Type 0
AcceptsCopy new item past (Ok accepted) =
    (item_refusal past item ≡ None) × Represents new (Took item ∷ past)
AcceptsCopy new item past (Err fault) = IsRefusal (item_refusal past item) (IsWrite item.body) fault

-- the result of a check of an item is the expected refusal
abbrev pub Checks : Item → List Step → Result Unit CoreFault → Type 0
Checks item past result =
    MatchResult result (λ _. item_refusal past item ≡ None)
    (λ fault. item_refusal past item ≡ Some fault)

-- the number of a node's accepted items, or that there is no such node
abbrev pub Counts : ℕ → List Step → Result ℕ NoSuchNode → Type 0
Counts node past (Ok number) = (node < numbered past) × (number ≡ count node past)
Counts node past (Err fault) = numbered past ≤ node

-- a node joined: it was assigned the next number, and starts at the floor; or it was refused
abbrev pub Joins : StoreView → List Step → Result (ℕ × ℕ) CoreFault → Type 0
Joins new past (Ok made) =
    (join_refusal past ≡ None)
    × (made ≡ (numbered past, floor past))
    × Represents new (Joined made.0 made.1 ∷ past)
Joins new past (Err fault) = IsRefusal (join_refusal past) ⊤ fault

-- a node joined at this start: it was assigned the next number; or it was refused
abbrev pub JoinsAt : StoreView → ℕ → List Step → Result ℕ CoreFault → Type 0
JoinsAt new start past (Ok node) =
    (join_at_refusal past start ≡ None)
    × (node ≡ numbered past)
    × Represents new (Joined node start ∷ past)
JoinsAt new start past (Err fault) = IsRefusal (join_at_refusal past start) ⊤ fault

-- a snapshot was opened at the stamp, with an id one above the last id, or refused
abbrev pub Opens : StoreView → ℕ → List Step → Result ℕ CoreFault → Type 0
Opens new stamp past (Ok id) =
    (open_refusal past stamp ≡ None) × (id ≡ last_id past + 1) × Represents new (Opened stamp ∷ past)
Opens new stamp past (Err fault) = IsRefusal (open_refusal past stamp) ⊤ fault

-- a snapshot was opened at the floor, with an id one above the last id, or refused
abbrev pub OpensAtFloor : StoreView → List Step → Result (ℕ × ℕ) CoreFault → Type 0
OpensAtFloor new past (Ok opening) =
    (room_refusal past ≡ None) × (opening ≡ (last_id past + 1, floor past))
    × Represents new (Opened (floor past) ∷ past)
OpensAtFloor new past (Err fault) = IsRefusal (room_refusal past) ⊤ fault

-- the snapshot was closed, and this was its stamp; or there was none with this id
abbrev pub Closes : StoreView → ℕ → List Step → Result ℕ NoSuchSnapshot → Type 0
Closes new id past (Ok stamp) = (stamp_of id past ≡ Some stamp) × Represents new (Closed id ∷ past)
Closes new id past (Err fault) = stamp_of id past ≡ None

-- the listing of the snapshot at this stamp, if there is one
abbrev pub IsListed : Option ℕ → List Row → List Pair → Type 0
IsListed None rows listing = ⊥
IsListed (Some stamp) rows listing = IsListing rows stamp listing

-- the first reason to refuse a listing, apart from memory
abbrev pub list_refusal : Option ℕ → Option CoreFault
list_refusal None = Some NoSnapshot
list_refusal (Some stamp) = None

-- the keys that have a value in the snapshot, or a refusal
abbrev pub Lists : ℕ → List Step → Result (List Pair) CoreFault → Type 0
Lists id past (Ok listing) = IsListed (stamp_of id past) (writes past) listing
Lists id past (Err fault) = IsRefusal (list_refusal (stamp_of id past)) ⊤ fault

-- a vacuum to a stamp took place: the core represents it, the report is the expected one, and the remaining rows are
-- the fewest against all accepted writes
pub record Vacuums (new : StoreView) (at : ℕ) (past : List Step) (report : AReport) : Type 0 where
  pub represents : Represents new (Vacuumed at ∷ past)
  pub expected : IsReport at past report
  pub fewest : LeavesFewest new.rows (writes past) report

-- the result of a check of a stamp is the first reason to refuse a vacuum up to it, if there is one
abbrev pub ChecksVacuum : ℕ → List Step → Result Unit CoreFault → Type 0
ChecksVacuum at past result =
    MatchResult result (λ _. vacuum_refusal past at ≡ None)
    (λ fault. vacuum_refusal past at ≡ Some fault)

-- a vacuum to the stamp took place, or was refused
abbrev pub VacuumsTo : StoreView → ℕ → List Step → Result AReport CoreFault → Type 0
VacuumsTo new at past (Ok report) =
    (vacuum_refusal past at ≡ None) × Vacuums new at past report
VacuumsTo new at past (Err fault) = IsRefusal (vacuum_refusal past at) ⊤ fault

-- a vacuum to a stamp took place, and these are the numbers of its report
pub record VacuumsCounted (new : StoreView) (at : ℕ) (past : List Step) (numbers : Numbers) : Type 0 where
  pub report : AReport
  pub vacuums : Vacuums new at past report
  pub are : numbers ≡ numbers_of report

-- the same, or it was refused
abbrev pub VacuumsToCounted : StoreView → ℕ → List Step → Result Numbers CoreFault → Type 0
VacuumsToCounted new at past (Ok numbers) =
    (vacuum_refusal past at ≡ None) × VacuumsCounted new at past numbers
VacuumsToCounted new at past (Err fault) = IsRefusal (vacuum_refusal past at) ⊤ fault
