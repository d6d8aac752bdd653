-- The expected reply to an event after a schedule.
use Rattle.std.specs.Prelude.{◌≡◌, ℕ, Bool, List, [], ◌∷◌, length, Option, Some, None, Result, Ok, Err, ◌==◌, ◌⊎◌}
use Rattle.std.specs.Prelude.{nat_le, if◌then◌else◌, ⊤}
use Rattle.hlc_clock.specs.{NextStamp.expected_stamp, declared.clock.ClockFault.ClockFault}
use Rattle.hlc_node.specs.declared.{item.Item.Item, item.Message.Message, node.NodeFault.NodeFault}
use Rattle.hlc_node.specs.declared.item.Body.TheVariants.{Write as a_write, Report as a_report, Retire as a_retire}
use Rattle.hlc_node.specs.Node.{expected_issue}
use Rattle.hlc_intake.specs.declared.intake.LinkFault.TheVariants.{Retired, NotNext}
use Rattle.hlc_events.specs.declared.fault.CoreFault.{CoreFault}
use Rattle.hlc_events.specs.declared.event.CoreEvent.{CoreEvent, TheVariants.Accept}
use Rattle.hlc_core.specs.{declared.reply.CoreReply.CoreReply, Stored.IsStoredCount}
use Rattle.hlc_core.specs.Past.{Step, numbered, count, retired, floor, stamp_of}
use Rattle.hlc_core.specs.History.{expected_refusal as expected_of_store, IsExpectedReply as IsExpectedStoreReply}
use Rattle.hlc_core.specs.History.{MayRunOutOfMemory as CoreMayRunOut}
use Rattle.hlc_world_event.specs.declared.event.Event.TheVariants.{Write, Delete, Report, Retire, Send, Receive}
use Rattle.hlc_world_event.specs.declared.event.Event.TheVariants.{Observe, Deliver, Read, List as ListAll, Floor, Rows}
use Rattle.hlc_world.specs.declared.{reply.Reply.Reply, refusal.Refusal.Refusal}
use Rattle.hlc_world.specs.declared.reply.Reply.TheVariants.{Stamped, Sent, Received, Observed, Floor as FloorIs}
use Rattle.hlc_world.specs.declared.reply.Reply.TheVariants.{Rows as RowsAre, Refused}
use Rattle.hlc_world.specs.declared.refusal.Refusal.TheVariants.{NoNode, Node, NoMessage, NoItem, Store, NoMemory}
use Rattle.hlc_world.specs.Schedule.{issued, has_retired, item_at, last_stamp, sent, message_at, node_of}
use Rattle.hlc_world_event.specs.Events.{Event}
use Rattle.hlc_world.specs.Store.{asked, share, core_past}
use Rattle.hlc_node.specs.declared.node.NodeFault.TheVariants as node_fault
use Rattle.hlc_events.specs.declared.fault.CoreFault.TheVariants as core_fault

-- the core's fault as a refusal; an unknown node and out of memory are the world's own refusals
abbrev pub of_core : CoreFault → Refusal
of_core core_fault.NoNode = NoNode
of_core core_fault.NoMemory = NoMemory
of_core fault = Store fault

-- why a node issues no item, or has no stamp for another event
abbrev pub issue_refusal : Result ℕ NodeFault → Option Refusal
issue_refusal (Ok stamp) = None
issue_refusal (Err fault) = Some (Node fault)

-- why a clock returns no stamp
abbrev pub stamp_refusal : Result ℕ ClockFault → Option Refusal
stamp_refusal (Ok stamp) = None
stamp_refusal (Err fault) = Some (Node (node_fault.Clock fault))

-- why a message is not received: there is none, or the clock returns no stamp above the node's last one and the
-- message's
abbrev pub receive_refusal : Option Message → ℕ → ℕ → Option Refusal
receive_refusal None last reading = Some NoMessage
receive_refusal (Some message) last reading = stamp_refusal (expected_stamp (last ∷ message.stamp ∷ []) reading)

-- why a snapshot is not observed: there is none, or the clock returns no stamp above the node's last one and the
-- snapshot's
abbrev pub observe_refusal : Option ℕ → ℕ → ℕ → Option Refusal
observe_refusal None last reading = Some (Store core_fault.NoSnapshot)
observe_refusal (Some seen) last reading = stamp_refusal (expected_stamp (last ∷ seen ∷ []) reading)

-- the core's fault, if there is one, as a refusal
abbrev pub core_refusal : Option CoreFault → Option Refusal
core_refusal None = None
core_refusal (Some fault) = Some (of_core fault)

-- the link of an unknown node is refused before all else
abbrev pub on_link : ℕ → List (Event × Reply) → ℕ → Option Refusal → Option Refusal
on_link nodes schedule node rest = if nat_le (numbered (core_past nodes schedule)) node then Some NoNode else rest

-- an event of an unknown node, and then one of a node that retired, is refused before all else
abbrev pub on_node : ℕ → List (Event × Reply) → ℕ → Option Refusal → Option Refusal
on_node nodes schedule node rest =
    on_link nodes schedule node (if has_retired node schedule then Some (Node node_fault.Retired) else rest)

-- why the store refuses what it is asked, if it does
abbrev pub store_refusal : List Step → Option CoreEvent → Option Refusal
store_refusal past None = None
store_refusal past (Some event) = core_refusal (expected_of_store past event)

-- an item that was not issued can't be delivered, and the store may refuse one that was
abbrev pub deliver_refusal : List Step → Option Item → Option Refusal
deliver_refusal past None = Some NoItem
deliver_refusal past (Some item) = store_refusal past (Some (Accept item))

-- the first expected refusal, apart from out of memory; for an event that asks something of the store, the refusal that
-- the store is expected to return
abbrev pub expected_refusal : ℕ → List (Event × Reply) → Event → Option Refusal
expected_refusal nodes schedule (Write node reading key value) =
    on_node nodes schedule node
    (issue_refusal (expected_issue (node_of node schedule) (a_write key (Some value)) reading))
expected_refusal nodes schedule (Delete node reading key) =
    on_node nodes schedule node (issue_refusal (expected_issue (node_of node schedule) (a_write key None) reading))
expected_refusal nodes schedule (Report node reading) =
    on_node nodes schedule node (issue_refusal (expected_issue (node_of node schedule) a_report reading))
expected_refusal nodes schedule (Retire node reading) =
    on_node nodes schedule node (issue_refusal (expected_issue (node_of node schedule) a_retire reading))
expected_refusal nodes schedule (Send node reading) =
    on_node nodes schedule node (stamp_refusal (expected_stamp (last_stamp node schedule ∷ []) reading))
expected_refusal nodes schedule (Receive node reading message) =
    on_node nodes schedule node (receive_refusal (message_at message schedule) (last_stamp node schedule) reading)
expected_refusal nodes schedule (Observe node reading id) =
    on_node nodes schedule node
    (observe_refusal (stamp_of id (core_past nodes schedule)) (last_stamp node schedule) reading)
expected_refusal nodes schedule (Deliver node number) =
    on_link nodes schedule node (deliver_refusal (core_past nodes schedule) (item_at node number schedule))
expected_refusal nodes schedule event = store_refusal (core_past nodes schedule) (asked schedule event)

-- the stamp of the receipt of a message
abbrev pub IsReceived : Option Message → ℕ → ℕ → ℕ → Type 0
IsReceived None last reading stamp = ⊥
IsReceived (Some message) last reading stamp = expected_stamp (last ∷ message.stamp ∷ []) reading ≡ Ok stamp

-- the stamp of the observation of a snapshot
abbrev pub IsObserved : Option ℕ → ℕ → ℕ → ℕ → Type 0
IsObserved None last reading stamp = ⊥
IsObserved (Some seen) last reading stamp = expected_stamp (last ∷ seen ∷ []) reading ≡ Ok stamp

-- the store is expected to return this reply to what it was asked
abbrev pub IsExpectedOfStore : List Step → Option (CoreEvent × CoreReply) → Type 0
IsExpectedOfStore past None = ⊥
IsExpectedOfStore past (Some entry) = IsExpectedStoreReply past entry.0 entry.1

-- the expected reply where no refusal is expected; for an event that asks something of the store, a reply that says
-- what the store is expected to return
abbrev pub IsExpectedReply : ℕ → List (Event × Reply) → Event → Reply → Type 0
IsExpectedReply nodes schedule (Write node reading key value) (Stamped stamp number) =
    (expected_issue (node_of node schedule) (a_write key (Some value)) reading ≡ Ok stamp)
    × (number ≡ length (issued node schedule))
IsExpectedReply nodes schedule (Delete node reading key) (Stamped stamp number) =
    (expected_issue (node_of node schedule) (a_write key None) reading ≡ Ok stamp)
    × (number ≡ length (issued node schedule))
IsExpectedReply nodes schedule (Report node reading) (Stamped stamp number) =
    (expected_issue (node_of node schedule) a_report reading ≡ Ok stamp) × (number ≡ length (issued node schedule))
IsExpectedReply nodes schedule (Retire node reading) (Stamped stamp number) =
    (expected_issue (node_of node schedule) a_retire reading ≡ Ok stamp) × (number ≡ length (issued node schedule))
IsExpectedReply nodes schedule (Send node reading) (Sent stamp number) =
    (expected_stamp (last_stamp node schedule ∷ []) reading ≡ Ok stamp) × (number ≡ length (sent schedule))
IsExpectedReply nodes schedule (Receive node reading message) (Received stamp) =
    IsReceived (message_at message schedule) (last_stamp node schedule) reading stamp
IsExpectedReply nodes schedule (Observe node reading id) (Observed stamp) =
    IsObserved (stamp_of id (core_past nodes schedule)) (last_stamp node schedule) reading stamp
IsExpectedReply nodes schedule Floor (FloorIs stamp) = stamp ≡ floor (core_past nodes schedule)
IsExpectedReply nodes schedule Rows (RowsAre count) = IsStoredCount (core_past nodes schedule) count
IsExpectedReply nodes schedule event reply = IsExpectedOfStore (core_past nodes schedule) (share schedule event reply)

-- the store may run out of memory for what it is asked
abbrev pub StoreMayRunOut : List Step → Option CoreEvent → Type 0
StoreMayRunOut past None = ⊥
StoreMayRunOut past (Some event) = CoreMayRunOut past event

-- the event may run out of memory: it makes an item or a message, or the store may need memory for what the event asks
abbrev pub MayRunOutOfMemory : ℕ → List (Event × Reply) → Event → Type 0
MayRunOutOfMemory nodes schedule (Write node reading key value) = ⊤
MayRunOutOfMemory nodes schedule (Delete node reading key) = ⊤
MayRunOutOfMemory nodes schedule (Report node reading) = ⊤
MayRunOutOfMemory nodes schedule (Retire node reading) = ⊤
MayRunOutOfMemory nodes schedule (Send node reading) = ⊤
MayRunOutOfMemory nodes schedule event = StoreMayRunOut (core_past nodes schedule) (asked schedule event)

-- the reply is the expected refusal; or, where none is expected, an expected reply, or out of memory where the event
-- may need memory
abbrev pub MayReply : ℕ → List (Event × Reply) → Event → Reply → Type 0
MayReply nodes schedule event (Refused refusal) =
    (expected_refusal nodes schedule event ≡ Some refusal)
    ⊎ ((expected_refusal nodes schedule event ≡ None) × (refusal ≡ NoMemory) × MayRunOutOfMemory nodes schedule event)
MayReply nodes schedule event reply = (expected_refusal nodes schedule event ≡ None)
    × IsExpectedReply nodes schedule event reply

-- the event only asks, and changes nothing
abbrev pub IsQuestion : Event → Type 0
IsQuestion (Read id key) = ⊤
IsQuestion (ListAll id) = ⊤
IsQuestion Floor = ⊤
IsQuestion Rows = ⊤
IsQuestion _ = ⊥

-- the reply is a refusal: the event did not take place
abbrev pub IsRefused : Reply → Type 0
IsRefused (Refused refusal) = ⊤
IsRefused _ = ⊥

-- each event got a reply that is allowed after the earlier ones
abbrev pub IsLegal : ℕ → List (Event × Reply) → Type 0
IsLegal nodes [] = ⊤
IsLegal nodes (entry ∷ schedule) = MayReply nodes schedule entry.0 entry.1 × IsLegal nodes schedule

-- why an item is refused by its number: it was not issued, its node's last item was accepted, or it is not the next one
abbrev pub number_refusal : Option Item → Bool → ℕ → ℕ → Option Refusal
number_refusal None was_last number next = Some NoItem
number_refusal (Some item) was_last number next =
    if was_last then Some (Store (core_fault.Link Retired))
    else if number == next then None
    else Some (Store (core_fault.Link (NotNext next)))

-- apart from out of memory, an issued item is refused only because of its number, or because its node's last item was
-- accepted: never because its stamp is too low, or because its key or value is bad
abbrev pub GoesByNumber : ℕ → List (Event × Reply) → Type 0
GoesByNumber nodes schedule =
    (node number : ℕ)
    → expected_refusal nodes schedule (Deliver node number)
    ≡ on_link nodes schedule node
    (number_refusal (item_at node number schedule) (retired node (core_past nodes schedule)) number
    (count node (core_past nodes schedule)))
