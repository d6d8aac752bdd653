-- What each call returns to C, for one past that the store represented.
use Rattle.std.specs.Prelude.{◌≡◌, ℕ, ◌+◌, List, ◌∷◌, length, Option, Some, None, ⊤, Bool, true, false}
use Rattle.hlc_node.specs.declared.item.Item.{Item}
use Rattle.hlc_rows.specs.{declared.row.Row.Row, Rows.answer}
use Rattle.hlc_columns.specs.{Answers.in_part, Sizes.Sizes}
use Rattle.hlc_vacuum_draft.specs.{declared.report.Numbers.Numbers, declared.report.Report.Report, Report.numbers_of}
use Rattle.hlc_core.specs.Past.{Step, Took, Opened, Closed, Joined, numbered, floor, last_id, stamp_of, item_refusal}
use Rattle.hlc_core.specs.Past.{join_refusal, join_at_refusal, open_refusal, room_refusal, vacuum_refusal}
use Rattle.hlc_core.specs.{StoreView.StoreView, StoreView.Represents, Parts.EndsAt, Parts.VacuumsKeys}
use Rattle.hlc_core.specs.Calls.{IsWrite, AreSizes, Vacuums}
use Rattle.hlc_calls.specs.Outcome.{IsAnswered}
pub use Rattle.hlc_range_calls.specs.Listing.{IsCopied, narrowed}

-- the item was accepted, and its stamp is returned; or it was refused
abbrev pub ReturnsAccepted : StoreView → Item → List Step → ℕ → ℕ → Type 0
ReturnsAccepted new item past code returned =
    IsAnswered (item_refusal past item) (IsWrite item.body)
    ((returned ≡ item.stamp) × Represents new (Took item ∷ past)) code returned

-- why the item would be refused, if it would, apart from out of memory
abbrev pub ReturnsChecked : Item → List Step → ℕ → ℕ → Type 0
ReturnsChecked item past code returned = IsAnswered (item_refusal past item) ⊥ (returned ≡ 0) code returned

-- a node joined, and its number and its start are returned; or it was refused
abbrev pub ReturnsJoined : StoreView → List Step → ℕ → ℕ → ℕ → Type 0
ReturnsJoined new past code node start =
    IsAnswered (join_refusal past) ⊤
    ((node ≡ numbered past) × (start ≡ floor past) × Represents new (Joined node start ∷ past)) code node

-- a node joined at this start, and its number and its start are returned; or it was refused
abbrev pub ReturnsJoinedAt : StoreView → ℕ → List Step → ℕ → ℕ → ℕ → Type 0
ReturnsJoinedAt new start past code node returned =
    IsAnswered (join_at_refusal past start) ⊤
    ((node ≡ numbered past) × (returned ≡ start) × Represents new (Joined node start ∷ past)) code returned

-- a snapshot was opened at the stamp, and its id is returned; or it was refused
abbrev pub ReturnsOpened : StoreView → ℕ → List Step → ℕ → ℕ → Type 0
ReturnsOpened new stamp past code id =
    IsAnswered (open_refusal past stamp) ⊤ ((id ≡ last_id past + 1) × Represents new (Opened stamp ∷ past)) code id

-- a snapshot was opened at the floor, and its id and its stamp are returned; or it was refused
abbrev pub ReturnsOpenedAtFloor : StoreView → List Step → ℕ → ℕ → ℕ → Type 0
ReturnsOpenedAtFloor new past code id stamp =
    IsAnswered (room_refusal past) ⊤
    ((id ≡ last_id past + 1) × (stamp ≡ floor past) × Represents new (Opened stamp ∷ past)) code id

-- the snapshot of this stamp was closed, and its stamp is returned; or there is none
abbrev pub ReturnsClosedAt : Option ℕ → Type 0 → ℕ → ℕ → Type 0
ReturnsClosedAt None Made code returned = (code ≡ 10) × (returned ≡ 0)
ReturnsClosedAt (Some stamp) Made code returned = (code ≡ 0) × (returned ≡ stamp) × Made

-- the snapshot of this id was closed, and its stamp is returned; or there is none
abbrev pub ReturnsClosed : StoreView → ℕ → List Step → ℕ → ℕ → Type 0
ReturnsClosed new id past code returned = ReturnsClosedAt (stamp_of id past) (Represents new (Closed id ∷ past)) code
    returned

-- 0, the length and the value; or 102, where there is none
abbrev pub ReturnsAnswer : Option (List ℕ) → ℕ → ℕ → List ℕ → List ℕ → Type 0
ReturnsAnswer None code len old new = (code ≡ 102) × (len ≡ 0) × (new ≡ old)
ReturnsAnswer (Some value) code len old new = (code ≡ 0) × (len ≡ length value) × IsCopied value old new

-- the answer at the stamp of the snapshot; or 10, where there is none
abbrev pub ReturnsRead : Option ℕ → List Row → List ℕ → ℕ → ℕ → List ℕ → List ℕ → Type 0
ReturnsRead None rows key code len old new = (code ≡ 10) × (len ≡ 0) × (new ≡ old)
ReturnsRead (Some stamp) rows key code len old new = ReturnsAnswer (answer rows key stamp) code len old new

-- the sizes of the rows, each narrowed: how many rows and keys there are, the bytes of the keys, those of the values
abbrev pub ReturnsSizes : List Row → ℕ → ℕ → ℕ → ℕ → Type 0
ReturnsSizes stored rows keys key_bytes value_bytes =
    (sizes : Sizes) × AreSizes stored sizes × (rows ≡ narrowed sizes.rows) × (keys ≡ narrowed sizes.keys)
    × (key_bytes ≡ narrowed sizes.key_bytes) × (value_bytes ≡ narrowed sizes.value_bytes)

-- the numbers of a report: its floor, how many rows were kept, what they cost, and how many were dropped
abbrev pub AreNumbers : Numbers → ℕ → ℕ → ℕ → ℕ → Type 0
AreNumbers numbers floor kept bytes dropped =
    (floor ≡ numbers.floor) × (kept ≡ numbers.kept) × (bytes ≡ narrowed numbers.bytes)
    × (dropped ≡ narrowed numbers.dropped)

-- a vacuum to the stamp took place, and the numbers of its report are returned; its floor is the stamp
abbrev pub ReturnsVacuumed : StoreView → ℕ → List Step → ℕ → ℕ → ℕ → ℕ → Type 0
ReturnsVacuumed new at past floor kept bytes dropped =
    (report : Report) × Vacuums new at past report × AreNumbers (numbers_of report) floor kept bytes dropped

-- a vacuum to the floor took place, and the numbers of its report are returned
abbrev pub ReturnsVacuumedAtFloor : StoreView → List Step → ℕ → ℕ → ℕ → ℕ → Type 0
ReturnsVacuumedAtFloor new past stamp kept bytes dropped =
    ReturnsVacuumed new (floor past) past stamp kept bytes dropped

-- the same for a vacuum to this stamp, or it was refused
abbrev pub ReturnsVacuumedTo : StoreView → ℕ → List Step → ℕ → ℕ → ℕ → ℕ → ℕ → Type 0
ReturnsVacuumedTo new at past code returned kept bytes dropped =
    IsAnswered (vacuum_refusal past at) ⊤ (ReturnsVacuumed new at past returned kept bytes dropped)
    code returned

-- why a vacuum to the stamp would be refused, if it would, apart from out of memory
abbrev pub ReturnsVacuumChecked : ℕ → List Step → ℕ → ℕ → Type 0
ReturnsVacuumChecked at past code returned = IsAnswered (vacuum_refusal past at) ⊥ (returned ≡ 0) code returned

-- where a part ended: the length of its last key and, where it fits, the key, and that keys may be left above it; or
-- no bytes, and that none is left
abbrev pub ReturnsEnd : Option (List ℕ) → ℕ → Bool → List ℕ → List ℕ → Type 0
ReturnsEnd None len more old new = (len ≡ 0) × (more ≡ false) × (new ≡ old)
ReturnsEnd (Some key) len more old new = (len ≡ length key) × (more ≡ true) × IsCopied key old new

-- a part of a vacuum to the stamp took place, of the first keys above one, at most this many, and the numbers of its
-- report are returned, and where it ended
abbrev pub ReturnsPart
    : StoreView → StoreView → ℕ → List ℕ → ℕ → List Step
    → ℕ → ℕ → ℕ → ℕ → ℕ → Bool → List ℕ → List ℕ → Type 0
ReturnsPart old new at after limit past floor kept bytes dropped len more before out =
    (report : Report) × (end : Option (List ℕ)) × EndsAt old after limit end
    × VacuumsKeys old new at past (in_part after end) report × AreNumbers (numbers_of report) floor kept bytes dropped
    × ReturnsEnd end len more before out

-- the same, or it was refused
abbrev pub ReturnsVacuumedPart
    : StoreView → StoreView → ℕ → List ℕ → ℕ → List Step
    → ℕ → ℕ → ℕ → ℕ → ℕ → ℕ → Bool → List ℕ → List ℕ → Type 0
ReturnsVacuumedPart old new at after limit past code returned kept bytes dropped len more before out =
    IsAnswered (vacuum_refusal past at) ⊤
    (ReturnsPart old new at after limit past returned kept bytes dropped len more before out) code returned
