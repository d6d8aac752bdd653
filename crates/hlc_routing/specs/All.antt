-- Calls of all stores: what they do to the run that the stores represent.
use Rattle.std.specs.Prelude.{◌≡◌, ℕ, zero, suc, ◌+◌, ◌<◌, ◌≤◌, ◌⊎◌, List, [], ◌∷◌, length, Option, Some, None, get_or}
use Rattle.std.specs.Prelude.{slice_get, Result, Ok, Err, ⊤}
use Rattle.hlc_events.specs.declared.fault.CoreFault.{CoreFault, TheVariants.NoMemory}
use Rattle.hlc_vacuum_draft.specs.declared.report.Report.{Report}
use Rattle.hlc_core.specs.Past.{Step, Opened, Closed, Vacuumed, Joined, open_refusal, vacuum_refusal, join_refusal}
use Rattle.hlc_core.specs.Past.{last_id, stamp_of, numbered, floor, writes}
use Rattle.hlc_core.specs.{StoreView.StoreView, Calls.IsRefusal, Checkpoint.IsCheckpointOf}
use Rattle.hlc_core.specs.Stored.{IsReport, LeavesFewest}
use Rattle.hlc_ranges.specs.Run.{Layout, Turn, Stepped, past_of}
use Rattle.hlc_routing.specs.{Ranges.RangesView, Ranges.Represents, declared.fault.RangesFault.RangesFault}
use Rattle.hlc_routing.specs.declared.fault.RangesFault.TheVariants.{NoStore, WrongStore, Store}

-- a snapshot of all stores: its stamp, and its id in each store
pub record SnapshotView : Type 0 where
  pub stamp : ℕ
  pub ids : List ℕ

-- the run after each of the first stores took a step, one store after another
abbrev pub each_stepped : (ℕ → Step) → ℕ → List Turn → List Turn
each_stepped step zero run = run
each_stepped step (suc n) run = Stepped n (step n) ∷ each_stepped step n run

-- a store refused, for its expected reason, or because memory ran out
abbrev pub IsStoreRefusal : Option CoreFault → RangesFault → Type 0
IsStoreRefusal expected NoStore = ⊥
IsStoreRefusal expected WrongStore = ⊥
IsStoreRefusal expected (Store fault) = IsRefusal expected ⊤ fault

-- each of the first stores took its step, and had no reason to refuse it
pub record HaveStepped (layout : Layout) (kept : RangesView) (run : List Turn) (refusal : ℕ → Option CoreFault)
    (step : ℕ → Step) (n : ℕ) : Type 0 where
  pub none : (s : ℕ) → s < n → refusal s ≡ None
  pub represents : Represents layout kept (each_stepped step n run)

-- a store refused its step, and those before it took theirs
pub record HaveStopped (layout : Layout) (kept : RangesView) (run : List Turn) (refusal : ℕ → Option CoreFault)
    (step : ℕ → Step) (fault : RangesFault) : Type 0 where
  pub at : ℕ
  pub inside : at < layout.stores
  pub before : HaveStepped layout kept run refusal step at
  pub why : IsStoreRefusal (refusal at) fault

-- memory ran out before anything changed
abbrev pub HaveNoMemory : RangesView → RangesView → RangesFault → Type 0
HaveNoMemory old new fault = (fault ≡ Store NoMemory) × (new ≡ old)

-- the snapshot is open in each store, at its stamp
pub record IsOpenAll (layout : Layout) (snapshot : SnapshotView) (run : List Turn) : Type 0 where
  pub many : length snapshot.ids ≡ layout.stores
  pub each : (s : ℕ) → s < layout.stores
      → stamp_of (get_or snapshot.ids s 0) (past_of layout s run) ≡ Some snapshot.stamp

-- the snapshot has this id in the store, and is open there at its stamp
abbrev pub IsIdAt : Layout → SnapshotView → List Turn → ℕ → ℕ → Type 0
IsIdAt layout snapshot run s id =
    (slice_get snapshot.ids s ≡ Some id) × (stamp_of id (past_of layout s run) ≡ Some snapshot.stamp)

-- the snapshot is open in the store, at its stamp
abbrev pub IsOpenAt : Layout → SnapshotView → List Turn → ℕ → Type 0
IsOpenAt layout snapshot run s = (id : ℕ) × IsIdAt layout snapshot run s id

-- why a store opens no snapshot at a stamp
abbrev pub open_refusals : Layout → List Turn → ℕ → ℕ → Option CoreFault
open_refusals layout run stamp s = open_refusal (past_of layout s run) stamp

-- the id that the next snapshot of a store gets
abbrev pub next_id : Layout → List Turn → ℕ → ℕ
next_id layout run s = last_id (past_of layout s run) + 1

-- Each store opened the snapshot at the stamp, with its next id.
pub record HaveOpened (layout : Layout) (new : RangesView) (stamp : ℕ) (run : List Turn) (snapshot : SnapshotView)
    : Type 0 where
  pub stamp_is : snapshot.stamp ≡ stamp
  pub ids : (s : ℕ) → s < layout.stores → get_or snapshot.ids s 0 ≡ next_id layout run s
  pub stepped : HaveStepped layout new run (open_refusals layout run stamp) (λ _. Opened stamp) layout.stores
  pub opens : IsOpenAll layout snapshot (each_stepped (λ _. Opened stamp) layout.stores run)

-- A store refused to open the snapshot, and each one before it opened it, and closed it again.
pub record HaveClosedAgain (layout : Layout) (new : RangesView) (stamp : ℕ) (run : List Turn) (fault : RangesFault)
    : Type 0 where
  pub at : ℕ
  pub inside : at < layout.stores
  pub none : (s : ℕ) → s < at → open_refusals layout run stamp s ≡ None
  pub why : IsStoreRefusal (open_refusals layout run stamp at) fault
  pub represents : Represents layout new
      (each_stepped (λ s. Closed (next_id layout run s)) at (each_stepped (λ _. Opened stamp) at run))

-- a snapshot was opened in all stores, or in none
abbrev pub OpensAll : Layout → RangesView → RangesView → ℕ → List Turn → Result SnapshotView RangesFault → Type 0
OpensAll layout old new stamp run (Ok snapshot) = HaveOpened layout new stamp run snapshot
OpensAll layout old new stamp run (Err fault) = HaveNoMemory old new fault ⊎ HaveClosedAgain layout new stamp run fault

-- the run after a store closed the snapshot with an id, if it is open there, at this stamp
abbrev pub closed_at : Option ℕ → ℕ → ℕ → List Turn → List Turn
closed_at None s id run = run
closed_at (Some stamp) s id run = Stepped s (Closed id) ∷ run

-- the run after each of the first stores closed the snapshot with its id, where it is open
abbrev pub each_closed : Layout → List ℕ → ℕ → List Turn → List Turn
each_closed layout ids zero run = run
each_closed layout ids (suc n) run =
    closed_at (stamp_of (get_or ids n 0) (past_of layout n (each_closed layout ids n run))) n (get_or ids n 0)
    (each_closed layout ids n run)

-- the snapshot was closed in all stores
abbrev pub ClosesAll : Layout → RangesView → SnapshotView → List Turn → Type 0
ClosesAll layout new snapshot run =
    Represents layout new (each_stepped (λ s. Closed (get_or snapshot.ids s 0)) layout.stores run)

-- why a store makes no vacuum to a stamp
abbrev pub vacuum_refusals : Layout → List Turn → ℕ → ℕ → Option CoreFault
vacuum_refusals layout run at s = vacuum_refusal (past_of layout s run) at

-- one store was vacuumed to the stamp: the report is the expected one, and the remaining rows are the fewest
pub record IsVacuumedIn (layout : Layout) (new : RangesView) (s at : ℕ) (run : List Turn) (report : Report)
    : Type 0 where
  pub expected : IsReport at (past_of layout s run) report
  pub fewest : (store : StoreView) → slice_get new.stores s ≡ Some store
      → LeavesFewest store.rows (writes (past_of layout s run)) report

-- one store was vacuumed to the stamp, or refused it
abbrev pub VacuumsIn : Layout → RangesView → RangesView → ℕ → ℕ → List Turn → Result Report RangesFault → Type 0
VacuumsIn layout old new s at run (Ok report) =
    (vacuum_refusals layout run at s ≡ None) × IsVacuumedIn layout new s at run report
    × Represents layout new (Stepped s (Vacuumed at) ∷ run)
VacuumsIn layout old new s at run (Err NoStore) = length old.stores ≤ s
VacuumsIn layout old new s at run (Err WrongStore) = ⊥
VacuumsIn layout old new s at run (Err (Store fault)) =
    (s < length old.stores) × IsRefusal (vacuum_refusals layout run at s) ⊤ fault

-- the reports of the first stores, in order
pub record AreReports (layout : Layout) (new : RangesView) (at : ℕ) (run : List Turn) (reports : List Report) (n : ℕ)
    : Type 0 where
  pub many : length reports ≡ n
  pub each : (s : ℕ) (report : Report) → slice_get reports s ≡ Some report → IsVacuumedIn layout new s at run report

-- all stores were vacuumed to the stamp, and these are their reports, in order
abbrev pub AreVacuumed : Layout → RangesView → ℕ → List Turn → List Report → Type 0
AreVacuumed layout new at run reports =
    HaveStepped layout new run (vacuum_refusals layout run at) (λ _. Vacuumed at) layout.stores
    × AreReports layout new at run reports layout.stores

-- memory ran out before anything changed; or a store refused the vacuum, and those before it were vacuumed
abbrev pub AreVacuumedSome : Layout → RangesView → RangesView → ℕ → List Turn → RangesFault → Type 0
AreVacuumedSome layout old new at run fault =
    HaveNoMemory old new fault
    ⊎ HaveStopped layout new run (vacuum_refusals layout run at) (λ _. Vacuumed at) fault

-- why no node joins a store
abbrev pub join_refusals : Layout → List Turn → ℕ → Option CoreFault
join_refusals layout run s = join_refusal (past_of layout s run)

-- the number of the node that joins a store next, and its start: the store's floor
abbrev pub next_join : Layout → List Turn → ℕ → ℕ × ℕ
next_join layout run s = (numbered (past_of layout s run), floor (past_of layout s run))

-- a node joined one store, or the store refused it
abbrev pub JoinsIn : Layout → RangesView → RangesView → ℕ → List Turn → Result (ℕ × ℕ) RangesFault → Type 0
JoinsIn layout old new s run (Ok made) =
    (join_refusals layout run s ≡ None) × (made ≡ next_join layout run s)
    × Represents layout new (Stepped s (Joined made.0 made.1) ∷ run)
JoinsIn layout old new s run (Err NoStore) = length old.stores ≤ s
JoinsIn layout old new s run (Err WrongStore) = ⊥
JoinsIn layout old new s run (Err (Store fault)) =
    (s < length old.stores) × IsRefusal (join_refusals layout run s) ⊤ fault

-- the nodes that joined the first stores, in order
pub record AreJoins (layout : Layout) (run : List Turn) (made : List (ℕ × ℕ)) (n : ℕ) : Type 0 where
  pub many : length made ≡ n
  pub each : (s : ℕ) → s < n → slice_get made s ≡ Some (next_join layout run s)

-- the step of a store at which a node joins it
abbrev pub join_step : Layout → List Turn → ℕ → Step
join_step layout run s = Joined (next_join layout run s).0 (next_join layout run s).1

-- a node joined all stores, and these are its numbers and its starts, in order
abbrev pub HaveJoined : Layout → RangesView → List Turn → List (ℕ × ℕ) → Type 0
HaveJoined layout new run made =
    HaveStepped layout new run (join_refusals layout run) (join_step layout run) layout.stores
    × AreJoins layout run made layout.stores

-- memory ran out before anything changed; or a store refused the node, and it joined those before it
abbrev pub HaveJoinedSome : Layout → RangesView → RangesView → List Turn → RangesFault → List (ℕ × ℕ) → Type 0
HaveJoinedSome layout old new run fault made =
    (HaveNoMemory old new fault × (made ≡ []))
    ⊎ ((stopped : HaveStopped layout new run (join_refusals layout run) (join_step layout run) fault)
    × AreJoins layout run made stopped.at)

-- the first stores have opened the snapshot, and these are its ids
pub record HasOpenedTo (layout : Layout) (kept : RangesView) (stamp : ℕ) (run : List Turn) (ids : List ℕ) (n : ℕ)
    : Type 0 where
  pub many : length ids ≡ n
  pub assigned : (s : ℕ) → s < n → get_or ids s 0 ≡ next_id layout run s
  pub stepped : HaveStepped layout kept run (open_refusals layout run stamp) (λ _. Opened stamp) n

-- a store refused to open it, and those before it have opened it
pub record HasOpenedSome (layout : Layout) (kept : RangesView) (stamp : ℕ) (run : List Turn) (ids : List ℕ)
    (fault : RangesFault) : Type 0 where
  pub at : ℕ
  pub inside : at < layout.stores
  pub opened : HasOpenedTo layout kept stamp run ids at
  pub why : IsStoreRefusal (open_refusals layout run stamp at) fault

-- a snapshot with the id is open in the store
abbrev pub IsOpenIn : Layout → List Turn → ℕ → ℕ → Type 0
IsOpenIn layout run s id = (stamp : ℕ) × (stamp_of id (past_of layout s run) ≡ Some stamp)

-- a snapshot with each of the first ids is open in its store, the first store's first
abbrev pub AreOpenUpto : Layout → List Turn → List ℕ → ℕ → Type 0
AreOpenUpto layout run ids n = (s : ℕ) → s < n → IsOpenIn layout run s (get_or ids s 0)

-- with each of these ids
abbrev pub AreOpenTo : Layout → List Turn → List ℕ → Type 0
AreOpenTo layout run ids = AreOpenUpto layout run ids (length ids)

-- each store has a snapshot with its id open
abbrev pub AreOpenIn : Layout → List Turn → List ℕ → Type 0
AreOpenIn layout run ids = (length ids ≡ layout.stores) × AreOpenTo layout run ids

-- each checkpoint is that of its store
pub record AreCheckpoints (stores made : List StoreView) : Type 0 where
  pub many : length made ≡ length stores
  pub each : (s : ℕ) (store checkpoint : StoreView) → slice_get stores s ≡ Some store
      → slice_get made s ≡ Some checkpoint → IsCheckpointOf store checkpoint
