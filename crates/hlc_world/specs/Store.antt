-- The store's part of a schedule: what its events asked of the store, and what the store answered.
use Rattle.std.specs.Prelude.{ℕ, List, [], ◌∷◌, Option, Some, None}
use Rattle.hlc_node.specs.{declared.item.Item.Item, Items.retires}
use Rattle.hlc_events.specs.declared.event.CoreEvent.{CoreEvent}
use Rattle.hlc_core.specs.{declared.reply.CoreReply.CoreReply, Past.Step, History.past_of}
use Rattle.hlc_world_event.specs.declared.event.Event.TheVariants.{Deliver, OpenAt, OpenFloor, Read, List as ListAll}
use Rattle.hlc_world_event.specs.declared.event.Event.TheVariants.{Close, Join, Vacuum}
use Rattle.hlc_world.specs.{declared.reply.Reply.Reply, Schedule.item_at}
use Rattle.hlc_world.specs.declared.reply.Reply.TheVariants.{Accepted, Joined, Snapshot, Answer, Listing, Closed}
use Rattle.hlc_world.specs.declared.reply.Reply.TheVariants.{Vacuumed}
use Rattle.hlc_world_event.specs.Events.{Event}
use Rattle.hlc_events.specs.declared.event.CoreEvent.TheVariants as core_event
use Rattle.hlc_core.specs.declared.reply.CoreReply.TheVariants as core_reply

-- the request to accept an item, if the item was found
abbrev pub accepting : Option Item → Option CoreEvent
accepting None = None
accepting (Some item) = Some (core_event.Accept item)

-- What an event asks of the store: a delivery asks it to accept the item of that number, and a join for the next
-- number. The events of nodes ask nothing of it, and the questions for the floor and the rows are the world's own.
abbrev pub asked : List (Event × Reply) → Event → Option CoreEvent
asked schedule (Deliver node number) = accepting (item_at node number schedule)
asked schedule Join = Some core_event.Join
asked schedule (OpenAt stamp) = Some (core_event.OpenAt stamp)
asked schedule OpenFloor = Some core_event.OpenFloor
asked schedule (Read id key) = Some (core_event.Read id key)
asked schedule (ListAll id) = Some (core_event.List id)
asked schedule (Close id) = Some (core_event.Close id)
asked schedule Vacuum = Some core_event.Vacuum
asked schedule _ = None

-- the reply that the item, if there is one, was accepted: it has this node and this stamp
abbrev pub accepted : ℕ → ℕ → Option Item → Option CoreReply
accepted node stamp None = None
accepted node stamp (Some item) =
    Some (core_reply.Accepted (record { node = node; stamp = stamp; retires = retires item.body }))

-- what the store answered to it, according to the event's reply; nothing where the event did not take place
abbrev pub returned : List (Event × Reply) → Event → Reply → Option CoreReply
returned schedule (Deliver node number) (Accepted stamp) = accepted node stamp (item_at node number schedule)
returned schedule Join (Joined node start) = Some (core_reply.Joined node start)
returned schedule (OpenAt at) (Snapshot id stamp) = Some (core_reply.Opened id stamp)
returned schedule OpenFloor (Snapshot id stamp) = Some (core_reply.Opened id stamp)
returned schedule (Read id key) (Answer value) = Some (core_reply.Answer value)
returned schedule (ListAll id) (Listing pairs) = Some (core_reply.Listing pairs)
returned schedule (Close id) (Closed stamp) = Some (core_reply.Closed stamp)
returned schedule Vacuum (Vacuumed report) = Some (core_reply.Vacuumed report)
returned schedule _ _ = None

-- the reply and the event, if there are both
abbrev pub paired : Option CoreReply → Option CoreEvent → Option (CoreEvent × CoreReply)
paired None event = None
paired (Some reply) None = None
paired (Some reply) (Some event) = Some (event, reply)

-- what an event that takes place asks of the store, with the store's answer
abbrev pub share : List (Event × Reply) → Event → Reply → Option (CoreEvent × CoreReply)
share schedule event reply = paired (returned schedule event reply) (asked schedule event)

-- the history, followed by this entry
abbrev pub with_entry : Option (CoreEvent × CoreReply) → List (CoreEvent × CoreReply) → List (CoreEvent × CoreReply)
with_entry None history = history
with_entry (Some entry) history = entry ∷ history

-- the store's history: each event of the schedule that asked something of the store and took place, in order,
-- the last one first
abbrev pub store_history : List (Event × Reply) → List (CoreEvent × CoreReply)
store_history [] = []
store_history (entry ∷ schedule) = with_entry (share schedule entry.0 entry.1) (store_history schedule)

-- what took place in the core of a world that started with this many nodes, the last step first
abbrev pub core_past : ℕ → List (Event × Reply) → List Step
core_past nodes schedule = past_of nodes (store_history schedule)
