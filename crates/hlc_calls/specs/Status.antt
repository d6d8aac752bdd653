-- What a store has, as it is returned.
use Rattle.std.specs.Prelude.{◌≡◌, ℕ, ◌<◌, ◌≤◌, List, Bool, false, Option, Some, None, slice_get, ◌⊎◌}
use Rattle.hlc_intake.specs.IntakeView.{IntakeView}
use Rattle.hlc_snapshot.specs.declared.snapshot.Snapshot.{Snapshot}
use Rattle.hlc_core.specs.Past.{Step, numbered, count, head, retired, floor}

-- the number of a node's next item, its head and whether it has retired; or 1, where no node has this number
abbrev pub ReturnsLink : ℕ → List Step → ℕ → ℕ → ℕ → Bool → Type 0
ReturnsLink node past code next at is_retired =
    (node < numbered past
    → (code ≡ 0) × (next ≡ count node past) × (at ≡ head node past) × (is_retired ≡ retired node past))
    × (numbered past ≤ node → (code ≡ 1) × (next ≡ 0) × (at ≡ 0) × (is_retired ≡ false))

-- the node at this place has not retired, and its head is this stamp
abbrev pub IsHolder : List IntakeView → ℕ → ℕ → Type 0
IsHolder links floor place =
    (link : IntakeView) × (slice_get links place ≡ Some link) × (link.retired ≡ false) × (link.head ≡ floor)

-- the first such place, if there is one
abbrev pub IsFirstHolder : List IntakeView → ℕ → Option ℕ → Type 0
IsFirstHolder links floor None = (place : ℕ) → IsHolder links floor place → ⊥
IsFirstHolder links floor (Some place) =
    IsHolder links floor place × ((other : ℕ) → other < place → IsHolder links floor other → ⊥)

-- a node whose number is assigned holds the floor back: it has not retired, and its head is the floor
abbrev pub HoldsFloor : List Step → ℕ → Type 0
HoldsFloor past node =
    (node < numbered past) × (retired node past ≡ false) × (head node past ≡ floor past)

-- the first node that holds the floor back is returned; or 115, where none does: then all have retired
abbrev pub ReturnsHolder : List Step → ℕ → ℕ → Type 0
ReturnsHolder past code node =
    ((code ≡ 0) × HoldsFloor past node × ((other : ℕ) → other < node → HoldsFloor past other → ⊥))
    ⊎ ((code ≡ 115) × (node ≡ 0) × ((other : ℕ) → HoldsFloor past other → ⊥))

-- an open snapshot's id and stamp are returned; or 117, where none is at the place
abbrev pub ReturnsSnapshot : Option Snapshot → ℕ → ℕ → ℕ → Type 0
ReturnsSnapshot None code id stamp = (code ≡ 117) × (id ≡ 0) × (stamp ≡ 0)
ReturnsSnapshot (Some snapshot) code id stamp = (code ≡ 0) × (id ≡ snapshot.id) × (stamp ≡ snapshot.stamp)
