-- The open snapshots: the state of a registry, and how openings and closings change it.
use Rattle.std.specs.Prelude.{◌≡◌, ℕ, ◌+◌, ◌<◌, ◌≤◌, ◌==◌, ◌⊎◌, List, [], ◌∷◌, ◌++◌, length, map, filter, find, All}
use Rattle.std.specs.Prelude.{not, nat_le, nat_lt, ◌&&◌, Bool, Option, Some, None, if◌then◌else◌, AllPairs, option_map}
use Rattle.hlc_snapshot.specs.declared.{snapshot.Snapshot.Snapshot, fault.SnapshotFault.SnapshotFault}
use Rattle.hlc_snapshot.specs.declared.registry.TheConstants.{MAX_OPEN_SNAPSHOTS}
use Rattle.hlc_snapshot.specs.declared.fault.SnapshotFault.TheVariants.{TooManySnapshots, NumbersSpent, NoMemory}

-- the state of a registry: the open snapshots, the oldest first; and the last id that was assigned, 0 if none
pub record RegistryView : Type 0 where
  pub snapshots : List Snapshot
  pub last_id : ℕ

-- the stamp of the snapshot with this id
abbrev pub stamp_in : ℕ → List Snapshot → Option ℕ
stamp_in id snapshots = option_map (λ snapshot. snapshot.stamp) (find (λ snapshot. snapshot.id == id) snapshots)

-- the stamps of some snapshots
abbrev pub stamps : List Snapshot → List ℕ
stamps snapshots = map (λ snapshot. snapshot.stamp) snapshots

-- the stamps that are at or below a bound
abbrev pub stamps_to : ℕ → List Snapshot → List ℕ
stamps_to bound snapshots = filter (λ stamp. nat_le stamp bound) (stamps snapshots)

-- the snapshots without the one with this id
abbrev pub without : ℕ → List Snapshot → List Snapshot
without id snapshots = filter (λ snapshot. not (snapshot.id == id)) snapshots

-- the first reason to refuse an opening, except memory, from the number of open snapshots and the last id
abbrev pub room_refusal : (open_now last_id : ℕ) → Option SnapshotFault
room_refusal open_now last_id =
    if nat_le MAX_OPEN_SNAPSHOTS open_now then Some TooManySnapshots
    else if nat_le 18446744073709551614 last_id then Some NumbersSpent
    else None

-- the fault of a refused call is the expected one, or, if none is expected, that memory runs out
abbrev pub IsRefusal : Option SnapshotFault → SnapshotFault → Type 0
IsRefusal expected fault = (expected ≡ Some fault) ⊎ ((expected ≡ None) × (fault ≡ NoMemory))

-- the register after one more snapshot was opened at this stamp; its id is one above the last id
abbrev pub opened_at : RegistryView → ℕ → RegistryView
opened_at register stamp = record {
  snapshots = register.snapshots ++ record { id = register.last_id + 1; stamp = stamp } ∷ [];
  last_id = register.last_id + 1;
}

-- the register after the snapshot with this id was closed
abbrev pub closed : ℕ → RegistryView → RegistryView
closed id register = record { snapshots = without id register.snapshots; last_id = register.last_id }

-- the ids of the open snapshots ascend, from the oldest to the newest, and are between 1 and the last id; no more are
-- open than may be, and the last id is one that there is
pub record IsRegister (register : RegistryView) : Type 0 where
  pub rising : AllPairs (λ older newer. older.id < newer.id) register.snapshots
  pub bounded : All (λ snapshot. (0 < snapshot.id) × (snapshot.id ≤ register.last_id)) register.snapshots
  pub few : length register.snapshots ≤ MAX_OPEN_SNAPSHOTS
  pub in_range : register.last_id ≤ 18446744073709551614

-- the newer register is the older one after some openings and closings
pub data Follows : RegistryView → RegistryView → Type 0 where
  at_once : {register : RegistryView} → Follows register register
  opening : {older newer : RegistryView} (stamp : ℕ) → Follows older newer → Follows older (opened_at newer stamp)
  closing : {older newer : RegistryView} (id : ℕ) → Follows older newer → Follows older (closed id newer)

-- A test of ids: they ascend and are above this one, and none is above the second one.
abbrev pub ids_rise : (last most : ℕ) → List Snapshot → Bool
ids_rise last most [] = nat_le last most
ids_rise last most (snapshot ∷ snapshots) = nat_lt last snapshot.id && ids_rise snapshot.id most snapshots
