-- No world replies that a stamp does not rise: no expected refusal says it, since a delivery passes an issued item,
-- which is refused only because of its number, or because its node's last item was accepted.
use Rattle.std.proofs.Common.{arith, ◌≡◌, ℕ, Bool, true, false, List, [], ◌∷◌, length, Some, None, Option, Ok, Err}
use Rattle.std.proofs.Common.{Result, nat_le, nat_lt, if◌then◌else◌, ◌==◌}
use Rattle.std.{proofs.lemmas.Grind.common_steps, specs.Prelude.⊤}
use Rattle.hlc_clock.specs.{NextStamp.expected_stamp, declared.clock.ClockFault.ClockFault}
use Rattle.hlc_node.specs.{declared.item.Item.Item, declared.item.Message.Message, Node.expected_issue}
use Rattle.hlc_node.specs.declared.item.Body.TheVariants.{Write as a_write, Report as a_report, Retire as a_retire}
use Rattle.hlc_node.specs.declared.node.NodeFault.{NodeFault, TheVariants.Retired}
use Rattle.hlc_heads.specs.declared.heads.{TheConstants.MAX_NODES, JoinFault.TheVariants.TooManyNodes}
use Rattle.hlc_core.specs.Calls.{list_refusal}
use Rattle.hlc_core.specs.Past.{Step, numbered, retired, count, floor, horizon, last_id, stamp_of, open_snapshots}
use Rattle.hlc_core.specs.Past.{of_room, open_refusal}
use Rattle.hlc_snapshot.specs.{declared.fault.SnapshotFault.SnapshotFault, RegistryView.room_refusal as room_in}
use Rattle.hlc_world_event.specs.declared.event.Event.TheVariants.{Write, Delete, Report, Retire, Join, Send, Receive}
use Rattle.hlc_world_event.specs.declared.event.Event.TheVariants.{Observe, Deliver, OpenAt, OpenFloor, Read}
use Rattle.hlc_world_event.specs.declared.event.Event.TheVariants.{List as ListAll, Close, Floor, Vacuum, Rows}
use Rattle.hlc_world.specs.declared.{reply.Reply.Reply, reply.Reply.TheVariants.Refused, refusal.Refusal.Refusal}
use Rattle.hlc_intake.specs.declared.intake.LinkFault.TheVariants.{StampNotRising, NotNext}
use Rattle.hlc_events.specs.declared.fault.CoreFault.TheVariants.{Link, Join as joining, AboveFloor, BelowHorizon}
use Rattle.hlc_world.specs.declared.refusal.Refusal.TheVariants.{NoNode, Node as at_node, Store}
use Rattle.hlc_world.specs.Schedule.{has_retired, item_at, last_stamp, message_at, node_of}
use Rattle.hlc_world_event.specs.Events.{Event}
use Rattle.hlc_world.{specs.Store.core_past, proofs.StoreEvents.goes-by-number}
use Rattle.hlc_world.specs.Expected.{issue_refusal, stamp_refusal, receive_refusal, observe_refusal, core_refusal}
use Rattle.hlc_world.specs.Expected.{on_link, on_node, expected_refusal, number_refusal, GoesByNumber, IsLegal}
use Rattle.hlc_events.specs.declared.fault.CoreFault.{CoreFault}
use Rattle.hlc_snapshot.specs.declared.fault.SnapshotFault.TheVariants as snapshot_fault

-- the refusal is not that a stamp does not rise
abbrev IsOther : Option Refusal → Type 0
IsOther (Some (Store (Link (StampNotRising head)))) = ⊥
IsOther _ = ⊤

either : (b : Bool) (x y : Option Refusal) → IsOther x → IsOther y → IsOther (if b then x else y)
either true x y first second = first
either false x y first second = second

either_fault : (b : Bool) (x y : Option CoreFault) → IsOther (core_refusal x) → IsOther (core_refusal y)
    → IsOther (core_refusal (if b then x else y))
either_fault true x y first second = first
either_fault false x y first second = second

stamp-other : (r : Result ℕ ClockFault) → IsOther (stamp_refusal r)
stamp-other (Ok st) = tt
stamp-other (Err fault) = tt

issue-other : (r : Result ℕ NodeFault) → IsOther (issue_refusal r)
issue-other (Ok st) = tt
issue-other (Err fault) = tt

receive-other : (o : Option Message) (last reading : ℕ) → IsOther (receive_refusal o last reading)
receive-other None last reading = tt
receive-other (Some message) last reading = stamp-other (expected_stamp (last ∷ message.stamp ∷ []) reading)

observe-other : (o : Option ℕ) (last reading : ℕ) → IsOther (observe_refusal o last reading)
observe-other None last reading = tt
observe-other (Some seen) last reading = stamp-other (expected_stamp (last ∷ seen ∷ []) reading)

number-other : (o : Option Item) (was_last : Bool) (number next : ℕ) → IsOther (number_refusal o was_last number next)
number-other None was_last number next = tt
number-other (Some item) true number next = tt
number-other (Some item) false number next =
    either (number == next) None (Some (Store (Link (NotNext next)))) tt tt

room-other : (o : Option SnapshotFault) → IsOther (core_refusal (of_room o))
room-other None = tt
room-other (Some snapshot_fault.TooManySnapshots) = tt
room-other (Some snapshot_fault.NumbersSpent) = tt
room-other (Some snapshot_fault.NoMemory) = tt

open-other : (past : List Step) (stamp : ℕ) → IsOther (core_refusal (open_refusal past stamp))
open-other past stamp =
    either_fault (nat_lt (floor past) stamp) (Some (AboveFloor (floor past))) _ tt
    (either_fault (nat_lt stamp (horizon past)) (Some (BelowHorizon (horizon past))) _ tt
    (room-other (room_in (length (open_snapshots past)) (last_id past))))

snapshot-other : (o : Option ℕ) → IsOther (core_refusal (list_refusal o))
snapshot-other None = tt
snapshot-other (Some stamp) = tt

link-other : (nodes : ℕ) (s : List (Event × Reply)) (p : ℕ) (rest : Option Refusal) → IsOther rest
    → IsOther (on_link nodes s p rest)
link-other nodes s p rest h = either (nat_le (numbered (core_past nodes s)) p) (Some NoNode) rest tt h

node-other : (nodes : ℕ) (s : List (Event × Reply)) (p : ℕ) (rest : Option Refusal) → IsOther rest
    → IsOther (on_node nodes s p rest)
node-other nodes s p rest h =
    link-other nodes s p _ (either (has_retired p s) (Some (at_node Retired)) rest tt h)

expected-other : (nodes : ℕ) (s : List (Event × Reply)) (event : Event) → GoesByNumber nodes s
    → IsOther (expected_refusal nodes s event)
expected-other nodes s (Write p reading key value) numbers =
    node-other nodes s p _ (issue-other (expected_issue (node_of p s) (a_write key (Some value)) reading))
expected-other nodes s (Delete p reading key) numbers =
    node-other nodes s p _ (issue-other (expected_issue (node_of p s) (a_write key None) reading))
expected-other nodes s (Report p reading) numbers =
    node-other nodes s p _ (issue-other (expected_issue (node_of p s) a_report reading))
expected-other nodes s (Retire p reading) numbers =
    node-other nodes s p _ (issue-other (expected_issue (node_of p s) a_retire reading))
expected-other nodes s Join numbers =
    either_fault (nat_le MAX_NODES (numbered (core_past nodes s))) (Some (joining TooManyNodes)) None tt tt
expected-other nodes s (Send p reading) numbers =
    node-other nodes s p _ (stamp-other (expected_stamp (last_stamp p s ∷ []) reading))
expected-other nodes s (Receive p reading k) numbers =
    node-other nodes s p _ (receive-other (message_at k s) (last_stamp p s) reading)
expected-other nodes s (Deliver p k) numbers =
    rw (numbers p k) (link-other nodes s p _
    (number-other (item_at p k s) (retired p (core_past nodes s)) k (count p (core_past nodes s))))
expected-other nodes s (Observe p reading id) numbers =
    node-other nodes s p _ (observe-other (stamp_of id (core_past nodes s)) (last_stamp p s) reading)
expected-other nodes s (OpenAt stamp) numbers = open-other (core_past nodes s) stamp
expected-other nodes s OpenFloor numbers =
    room-other (room_in (length (open_snapshots (core_past nodes s))) (last_id (core_past nodes s)))
expected-other nodes s (Read id key) numbers = snapshot-other (stamp_of id (core_past nodes s))
expected-other nodes s (ListAll id) numbers = snapshot-other (stamp_of id (core_past nodes s))
expected-other nodes s (Close id) numbers = snapshot-other (stamp_of id (core_past nodes s))
expected-other nodes s Floor numbers = tt
expected-other nodes s Vacuum numbers = tt
expected-other nodes s Rows numbers = tt

-- so no world replies that a stamp does not rise
pub rising : (nodes : ℕ) (s : List (Event × Reply)) (event : Event) (head : ℕ) (reply : Reply)
    → IsLegal nodes ((event, reply) ∷ s) → reply ≡ Refused (Store (Link (StampNotRising head))) → ⊥
rising nodes s event head reply legal is = grind (arith, common_steps, expected-other, goes-by-number)
