-- The run of a schedule: what each event of a world is in a run of one store. A refused event and a question are no
-- turn of it, and each other event is one.
use Rattle.std.specs.Prelude.{ℕ, ◌+◌, List, [], ◌∷◌, length, Option, Some, None, ◌==◌, if◌then◌else◌}
use Rattle.hlc_node.specs.Items.{an_item}
use Rattle.hlc_node.specs.declared.item.Body.TheVariants.{Write as a_write, Report as a_report, Retire as a_retire}
use Rattle.hlc_events.specs.declared.event.CoreEvent.{CoreEvent}
use Rattle.hlc_core.specs.{declared.reply.CoreReply.CoreReply, History.step_of, Past.Step, Past.Started, Past.stamp_of}
use Rattle.hlc_world_event.specs.declared.event.Event.TheVariants.{Write, Delete, Report, Retire, Send, Receive}
use Rattle.hlc_world_event.specs.declared.event.Event.TheVariants.{Observe}
use Rattle.hlc_world.specs.{declared.reply.Reply.Reply, Store.share, Store.core_past}
use Rattle.hlc_world.specs.declared.reply.Reply.TheVariants.{Stamped, Sent, Received, Observed}
use Rattle.hlc_world_event.specs.Events.{Event}
use Rattle.hlc_ranges.specs.Run.{Layout, Turn, Issued, Sent as Sends, Received as Receives, Observed as Observes}
use Rattle.hlc_ranges.specs.Run.{Stepped}

-- one store, the one with number 0, which has every key and this many nodes at its start; each node is a machine of its
-- own, which has the node's number
abbrev pub layout_of : ℕ → Layout
layout_of nodes = record {
  stores = 1;
  begun = λ s. Started nodes ∷ [];
  clock = λ machine. 0;
  machine = λ s node. node;
  store_of = λ key. 0;
}

-- the number of the messages that were sent
abbrev pub messages : List Turn → ℕ
messages [] = 0
messages (Sends machine stamp ∷ run) = messages run + 1
messages (_ ∷ run) = messages run

-- the number of the turn that sent the message of this number
abbrev pub sent_at : ℕ → List Turn → ℕ
sent_at message [] = 0
sent_at message (Sends machine stamp ∷ run) = if messages run == message then length run else sent_at message run
sent_at message (_ ∷ run) = sent_at message run

-- a node observed the store at the stamp of an open snapshot
abbrev pub observing : ℕ → Option ℕ → ℕ → Option Turn
observing node None stamp = None
observing node (Some at) stamp = Some (Observes node 0 at stamp)

-- the store's step by what it was asked and what it answered
abbrev pub step_by : Option (CoreEvent × CoreReply) → Option Step
step_by None = None
step_by (Some entry) = step_of entry.0 entry.1

-- a step of the store took place
abbrev pub stepping : Option Step → Option Turn
stepping None = None
stepping (Some step) = Some (Stepped 0 step)

-- the turn of an event that got this reply after a schedule, whose run is this one, in a world with this many nodes at
-- the start
abbrev pub turn_of : ℕ → List (Event × Reply) → List Turn → Event → Reply → Option Turn
turn_of nodes schedule run (Write node reading key value) (Stamped stamp number) =
    Some (Issued 0 (an_item node number stamp (a_write key (Some value))))
turn_of nodes schedule run (Delete node reading key) (Stamped stamp number) =
    Some (Issued 0 (an_item node number stamp (a_write key None)))
turn_of nodes schedule run (Report node reading) (Stamped stamp number) =
    Some (Issued 0 (an_item node number stamp a_report))
turn_of nodes schedule run (Retire node reading) (Stamped stamp number) =
    Some (Issued 0 (an_item node number stamp a_retire))
turn_of nodes schedule run (Send node reading) (Sent stamp number) = Some (Sends node stamp)
turn_of nodes schedule run (Receive node reading message) (Received stamp) =
    Some (Receives node (sent_at message run) stamp)
turn_of nodes schedule run (Observe node reading id) (Observed stamp) =
    observing node (stamp_of id (core_past nodes schedule)) stamp
turn_of nodes schedule run event reply = stepping (step_by (share schedule event reply))

-- the run, followed by this turn
abbrev pub with_turn : Option Turn → List Turn → List Turn
with_turn None run = run
with_turn (Some turn) run = turn ∷ run

-- the run of a schedule of a world with this many nodes at the start
abbrev pub run_of : ℕ → List (Event × Reply) → List Turn
run_of nodes [] = []
run_of nodes (entry ∷ schedule) =
    with_turn (turn_of nodes schedule (run_of nodes schedule) entry.0 entry.1) (run_of nodes schedule)

-- the number in the run of the event of this turn of the schedule: how many earlier events are turns of the run
abbrev pub place : ℕ → List (Event × Reply) → ℕ → ℕ
place nodes [] turn = 0
place nodes (entry ∷ schedule) turn =
    if turn == length schedule then length (run_of nodes schedule) else place nodes schedule turn
