-- What took place in a core, and what follows from it.
use Rattle.std.specs.Prelude.{◌≡◌, ◌≢◌, ℕ, ◌+◌, ◌≤◌, List, [], ◌∷◌, ◌++◌, length, max, Bool, false, ◌==◌, not, nat_le}
use Rattle.std.specs.Prelude.{nat_lt, slice_index_or, Option, Some, None, if◌then◌else◌, ⊤}
use Rattle.hlc_intake.specs.IntakeView.{IntakeView}
use Rattle.hlc_heads.specs.{Heads.a_link, Low.low, declared.heads.TheConstants.MAX_NODES}
use Rattle.hlc_checkpoint.specs.{StoreView.StoreView, Checkpoint.IsCheckpoint}
use Rattle.hlc_node.specs.{declared.item.Item.Item, declared.item.Body.Body, Items.body_refusal, Items.retires}
use Rattle.hlc_rows.specs.{declared.row.Row.Row, declared.limits.BodyFault.BodyFault, Writes.rows_written}
use Rattle.hlc_node.specs.declared.item.Body.TheVariants.{Write, Batch, Report, Retire}
use Rattle.hlc_heads.specs.declared.heads.JoinFault.TheVariants.{TooManyNodes, BelowFloor}
use Rattle.hlc_intake.specs.declared.intake.LinkFault.TheVariants.{Retired, NotNext, NumbersSpent, StampNotRising}
use Rattle.hlc_values.specs.declared.bounds.TheConstants.{NUMBER_BOUND}
use Rattle.hlc_events.specs.{Faults.of_registry, declared.fault.CoreFault.CoreFault}
use Rattle.hlc_snapshot.specs.declared.{snapshot.Snapshot.Snapshot, fault.SnapshotFault.SnapshotFault}
use Rattle.hlc_snapshot.specs.RegistryView.{stamp_in, without, room_refusal as room_in}
use Rattle.hlc_events.specs.declared.fault.CoreFault.TheVariants.{NoNode, Link, Body as bad_body, Join, AboveFloor}
use Rattle.hlc_events.specs.declared.fault.CoreFault.TheVariants.{BelowHorizon}

-- an event that took place: a store was made with this many nodes, or restored from this state; an item was accepted; a
-- snapshot was opened at a stamp; the snapshot with an id was closed; rows were vacuumed up to this stamp; a node with
-- this number joined, and starts at this stamp; the horizon was moved to this stamp, and this many rows that no reader
-- needs were dropped: part of a vacuum
pub data Step : Type 0 where
  Started : ℕ → Step
  Began : StoreView → Step
  Took : Item → Step
  Opened : ℕ → Step
  Closed : ℕ → Step
  Vacuumed : ℕ → Step
  Joined : ℕ → ℕ → Step
  PartVacuumed : ℕ → ℕ → Step

-- Below, a past is the list of the steps that took place, the last one first. The first of all is the start, with the
-- nodes that are numbered from 0, or a state; those that join have the numbers after them. Refused calls and reads are
-- no steps.

-- the link of a node in a state; one with nothing accepted of a node that it does not have
abbrev pub link_in : StoreView → ℕ → IntakeView
link_in kept n = slice_index_or kept.links n (a_link 0 0 false)

-- the greatest head of the links that have an accepted item, 0 if there is none
abbrev pub greatest_issued : List IntakeView → ℕ
greatest_issued [] = 0
greatest_issued (link ∷ links) =
    if nat_lt 0 link.next then max link.head (greatest_issued links) else greatest_issued links

-- the number of nodes at the start
abbrev pub initial_nodes : List Step → ℕ
initial_nodes [] = 0
initial_nodes (Started nodes ∷ past) = nodes
initial_nodes (Began kept ∷ past) = kept.initial_nodes
initial_nodes (_ ∷ past) = initial_nodes past

-- the number of assigned node numbers: the start assigns one to each of its nodes, a state has them, and a join assigns
-- the next one
abbrev pub numbered : List Step → ℕ
numbered [] = 0
numbered (Started nodes ∷ past) = numbered past + nodes
numbered (Began kept ∷ past) = length kept.links
numbered (Joined node start ∷ past) = numbered past + 1
numbered (_ ∷ past) = numbered past

-- the number of accepted items of a node, with those that a state counts
abbrev pub count : ℕ → List Step → ℕ
count n [] = 0
count n (Took item ∷ past) = if item.node == n then count n past + 1 else count n past
count n (Began kept ∷ past) = (link_in kept n).next
count n (_ ∷ past) = count n past

-- the stamp of the last accepted item of a node, or else of its start, which is 0 for a node at the start; at first the
-- head that a state has
abbrev pub head : ℕ → List Step → ℕ
head n [] = 0
head n (Took item ∷ past) = if item.node == n then item.stamp else head n past
head n (Joined node start ∷ past) = if node == n then start else head n past
head n (Began kept ∷ past) = (link_in kept n).head
head n (_ ∷ past) = head n past

-- a node has retired: its last accepted item is a Retire
abbrev pub retired : ℕ → List Step → Bool
retired n [] = false
retired n (Took item ∷ past) = if item.node == n then retires item.body else retired n past
retired n (Began kept ∷ past) = (link_in kept n).retired
retired n (_ ∷ past) = retired n past

-- the greatest stamp of an accepted item, 0 if there is none
abbrev pub greatest_accepted : List Step → ℕ
greatest_accepted [] = 0
greatest_accepted (Took item ∷ past) = max (greatest_accepted past) item.stamp
greatest_accepted (Began kept ∷ past) = greatest_issued kept.links
greatest_accepted (_ ∷ past) = greatest_accepted past

-- the greatest head of all nodes: the greatest stamp of an accepted item or of a start
abbrev pub top : List Step → ℕ
top [] = 0
top (Took item ∷ past) = max (top past) item.stamp
top (Joined node start ∷ past) = max (top past) start
top (Began kept ∷ past) = kept.top
top (_ ∷ past) = top past

-- The least head of the nodes that have not retired; if all have, the greatest head. Each of them retired by an item
-- above its start, so that is the greatest stamp of an accepted item.
abbrev pub floor : List Step → ℕ
floor past = low (λ n. head n past) (λ n. retired n past) (numbered past) (top past)

-- the stamp of the last vacuum or part of one, 0 before the first
abbrev pub horizon : List Step → ℕ
horizon [] = 0
horizon (Vacuumed at ∷ past) = at
horizon (PartVacuumed at dropped ∷ past) = at
horizon (Began kept ∷ past) = kept.horizon
horizon (_ ∷ past) = horizon past

-- the stamp of the last whole vacuum, 0 before the first
abbrev pub vacuumed : List Step → ℕ
vacuumed [] = 0
vacuumed (Vacuumed at ∷ past) = at
vacuumed (_ ∷ past) = vacuumed past

-- the number of rows that parts of vacuums dropped since the last whole vacuum
abbrev pub part_dropped : List Step → ℕ
part_dropped [] = 0
part_dropped (Vacuumed at ∷ past) = 0
part_dropped (PartVacuumed at dropped ∷ past) = dropped + part_dropped past
part_dropped (_ ∷ past) = part_dropped past

-- the rows of the body of an item with this node and stamp: all of them have this stamp
abbrev pub body_rows : ℕ → ℕ → Body → List Row
body_rows node stamp (Write key value) = record { key = key; stamp = stamp; node = node; value = value } ∷ []
body_rows node stamp (Batch writes) = rows_written node stamp writes
body_rows node stamp Report = []
body_rows node stamp Retire = []

-- the rows of an item: one of a write, one of each write of a batch, none of others
abbrev pub item_rows : Item → List Row
item_rows item = body_rows item.node item.stamp item.body

-- all accepted writes and deletions, in the order in which they were accepted, after the rows of the state, if a past
-- begins with one; they are kept forever
abbrev pub writes : List Step → List Row
writes [] = []
writes (Took item ∷ past) = writes past ++ item_rows item
writes (Began kept ∷ past) = writes past ++ kept.rows
writes (_ ∷ past) = writes past

-- the last id that a snapshot was given, 0 if none: the number of those that were opened
abbrev pub last_id : List Step → ℕ
last_id [] = 0
last_id (Opened stamp ∷ past) = last_id past + 1
last_id (Began kept ∷ past) = kept.last_id
last_id (_ ∷ past) = last_id past

-- the open snapshots, the oldest first; each id is one above the last id before
abbrev pub open_snapshots : List Step → List Snapshot
open_snapshots [] = []
open_snapshots (Opened stamp ∷ past) = open_snapshots past ++ record { id = last_id past + 1; stamp = stamp } ∷ []
open_snapshots (Closed id ∷ past) = without id (open_snapshots past)
open_snapshots (Began kept ∷ past) = kept.snapshots
open_snapshots (_ ∷ past) = open_snapshots past

-- the past after these snapshots were closed too, the first of them first
abbrev pub closed_all : List Snapshot → List Step → List Step
closed_all [] past = past
closed_all (snapshot ∷ snapshots) past = closed_all snapshots (Closed snapshot.id ∷ past)

-- the stamp of the open snapshot with this id
abbrev pub stamp_of : ℕ → List Step → Option ℕ
stamp_of id past = stamp_in id (open_snapshots past)

-- the refusal of a body, as a fault of the core
abbrev pub of_body : Option BodyFault → Option CoreFault
of_body None = None
of_body (Some fault) = Some (bad_body fault)

-- the first reason to refuse an item on its link, from whether its node has retired, the link's next number and its
-- head
abbrev pub link_refusal : Bool → ℕ → ℕ → Item → Option CoreFault
link_refusal has_retired next last item =
    if has_retired then Some (Link Retired)
    else if not (item.number == next) then Some (Link (NotNext next))
    else if item.number == NUMBER_BOUND then Some (Link NumbersSpent)
    else if nat_le item.stamp last then Some (Link (StampNotRising last))
    else of_body (body_refusal item.body)

-- the first reason to refuse an item, apart from memory
abbrev pub item_refusal : List Step → Item → Option CoreFault
item_refusal past item =
    if nat_le (numbered past) item.node then Some NoNode
    else link_refusal (retired item.node past) (count item.node past) (head item.node past) item

-- why no node joins, apart from memory: all numbers are assigned
abbrev pub join_refusal : List Step → Option CoreFault
join_refusal past = if nat_le MAX_NODES (numbered past) then Some (Join TooManyNodes) else None

-- the first reason that no node joins at a start, apart from memory
abbrev pub join_at_refusal : List Step → ℕ → Option CoreFault
join_at_refusal past start =
    if nat_le MAX_NODES (numbered past) then Some (Join TooManyNodes)
    else if nat_lt start (floor past) then Some (Join (BelowFloor (floor past)))
    else None

-- a registry's refusal, if there is one, as a refusal of the core
abbrev pub of_room : Option SnapshotFault → Option CoreFault
of_room None = None
of_room (Some fault) = Some (of_registry fault)

-- the first reason that no more snapshot can be opened, apart from memory
abbrev pub room_refusal : List Step → Option CoreFault
room_refusal past = of_room (room_in (length (open_snapshots past)) (last_id past))

-- a stamp is above the floor, or below the horizon; or else this other reason, if there is one
abbrev pub open_after : ℕ → ℕ → Option CoreFault → ℕ → Option CoreFault
open_after top bottom room stamp =
    if nat_lt top stamp then Some (AboveFloor top)
    else if nat_lt stamp bottom then Some (BelowHorizon bottom)
    else room

-- the first reason to open no snapshot at a stamp, apart from memory
abbrev pub open_refusal : List Step → ℕ → Option CoreFault
open_refusal past stamp = open_after (floor past) (horizon past) (room_refusal past) stamp

-- the first reason to vacuum no rows up to a stamp, apart from memory
abbrev pub vacuum_refusal : List Step → ℕ → Option CoreFault
vacuum_refusal past at = open_after (floor past) (horizon past) None at

-- nothing came before the start, a state is a checkpoint, and no step should have been refused
abbrev pub IsLegal : List Step → Type 0
IsLegal [] = ⊤
IsLegal (Started nodes ∷ past) = (past ≡ []) × IsLegal past
IsLegal (Began kept ∷ past) = (past ≡ []) × IsLegal past × IsCheckpoint kept
IsLegal (Took item ∷ past) = (item_refusal past item ≡ None) × IsLegal past
IsLegal (Opened stamp ∷ past) = (open_refusal past stamp ≡ None) × IsLegal past
IsLegal (Closed id ∷ past) = (stamp_of id past ≢ None) × IsLegal past
IsLegal (Vacuumed at ∷ past) = (vacuum_refusal past at ≡ None) × IsLegal past
IsLegal (PartVacuumed at dropped ∷ past) = (vacuum_refusal past at ≡ None) × IsLegal past
IsLegal (Joined node start ∷ past) =
    (join_refusal past ≡ None) × (node ≡ numbered past) × (floor past ≤ start) × IsLegal past
