-- A schedule, and what it says about nodes, items and messages.
use Rattle.std.specs.Prelude.{ℕ, Bool, false, List, [], ◌∷◌, ◌++◌, length, Option, Some, None, ◌==◌, if◌then◌else◌}
use Rattle.std.specs.Prelude.{slice_get}
use Rattle.hlc_node.specs.declared.item.{Item.Item, Body.Body, Message.Message}
use Rattle.hlc_node.specs.declared.item.Body.TheVariants.{Write as a_write, Report as a_report, Retire as a_retire}
use Rattle.hlc_node.specs.{Items.an_item, Items.retires, Node.NodeView}
use Rattle.hlc_world.specs.declared.{content.Content.Content, reply.Reply.Reply}
use Rattle.hlc_world_event.specs.Events.{Event}
use Rattle.hlc_world_event.specs.declared.event.Event.TheVariants.{Write, Delete, Report, Retire, Join, Send, Receive}
use Rattle.hlc_world_event.specs.declared.event.Event.TheVariants.{Observe}
use Rattle.hlc_world.specs.declared.reply.Reply.TheVariants.{Stamped, Joined, Sent, Received, Observed}
use Rattle.hlc_world.specs.declared.content.Content.TheVariants as content

-- the body of an item with this content
abbrev pub body_of : Content → Body
body_of (content.Write key value) = a_write key value
body_of content.Report = a_report
body_of content.Retire = a_retire

-- the event by which a node issues an item with this content
abbrev pub issuing : ℕ → ℕ → Content → Event
issuing node reading (content.Write key (Some value)) = Write node reading key value
issuing node reading (content.Write key None) = Delete node reading key
issuing node reading content.Report = Report node reading
issuing node reading content.Retire = Retire node reading

-- Below, a schedule is the list of the events with their replies, the last one first. An event whose reply is a refusal
-- did not take place.

-- the item that an event issued
abbrev pub item_made : Event → Reply → Option Item
item_made (Write node reading key value) (Stamped stamp number) =
    Some (an_item node number stamp (a_write key (Some value)))
item_made (Delete node reading key) (Stamped stamp number) = Some (an_item node number stamp (a_write key None))
item_made (Report node reading) (Stamped stamp number) = Some (an_item node number stamp a_report)
item_made (Retire node reading) (Stamped stamp number) = Some (an_item node number stamp a_retire)
item_made _ _ = None

-- the message that an event sent
abbrev pub message_made : Event → Reply → Option Message
message_made (Send node reading) (Sent stamp number) = Some (record { from = node; stamp = stamp })
message_made _ _ = None

-- the node of an event that was stamped, and the stamp
abbrev pub stamping_of : Event → Reply → Option (ℕ × ℕ)
stamping_of (Write node reading key value) (Stamped stamp number) = Some (node, stamp)
stamping_of (Delete node reading key) (Stamped stamp number) = Some (node, stamp)
stamping_of (Report node reading) (Stamped stamp number) = Some (node, stamp)
stamping_of (Retire node reading) (Stamped stamp number) = Some (node, stamp)
stamping_of (Send node reading) (Sent stamp number) = Some (node, stamp)
stamping_of (Receive node reading message) (Received stamp) = Some (node, stamp)
stamping_of (Observe node reading id) (Observed stamp) = Some (node, stamp)
stamping_of _ _ = None

-- the node whose clock an event set, and the stamp: it was stamped, or joined and starts there
abbrev pub mark_of : Event → Reply → Option (ℕ × ℕ)
mark_of Join (Joined node start) = Some (node, start)
mark_of event reply = stamping_of event reply

-- the items of a node, followed by this one if it is of that node
abbrev pub with_item : ℕ → Option Item → List Item → List Item
with_item n None items = items
with_item n (Some item) items = if item.node == n then items ++ item ∷ [] else items

-- the items that a node issued, in order: the first one has number 0
abbrev pub issued : ℕ → List (Event × Reply) → List Item
issued n [] = []
issued n (entry ∷ schedule) = with_item n (item_made entry.0 entry.1) (issued n schedule)

-- whether this item is the last one of its node if it is of this node; otherwise the answer before it
abbrev pub ends : ℕ → Option Item → Bool → Bool
ends n None before = before
ends n (Some item) before = if item.node == n then retires item.body else before

-- whether a node issued its last item, which retires it
abbrev pub has_retired : ℕ → List (Event × Reply) → Bool
has_retired n [] = false
has_retired n (entry ∷ schedule) = ends n (item_made entry.0 entry.1) (has_retired n schedule)

-- the issued item of a node that has this number
abbrev pub item_at : ℕ → ℕ → List (Event × Reply) → Option Item
item_at n number schedule = slice_get (issued n schedule) number

-- the stamp of a mark if it is of this node, otherwise the last stamp
abbrev pub stamp_or : ℕ → Option (ℕ × ℕ) → ℕ → ℕ
stamp_or n None last = last
stamp_or n (Some mark) last = if mark.0 == n then mark.1 else last

-- the stamp of a node's last event; before its first event the stamp at which it started, 0 for a node of the start
abbrev pub last_stamp : ℕ → List (Event × Reply) → ℕ
last_stamp n [] = 0
last_stamp n (entry ∷ schedule) = stamp_or n (mark_of entry.0 entry.1) (last_stamp n schedule)

-- the messages, followed by this one
abbrev pub with_message : Option Message → List Message → List Message
with_message None messages = messages
with_message (Some message) messages = messages ++ message ∷ []

-- the messages that were sent, in order: the first one has number 0
abbrev pub sent : List (Event × Reply) → List Message
sent [] = []
sent (entry ∷ schedule) = with_message (message_made entry.0 entry.1) (sent schedule)

-- the message of this number
abbrev pub message_at : ℕ → List (Event × Reply) → Option Message
message_at number schedule = slice_get (sent schedule) number

-- what a node is after a schedule
abbrev pub node_of : ℕ → List (Event × Reply) → NodeView
node_of n schedule =
    record { id = n; last = last_stamp n schedule; next = length (issued n schedule); retired = has_retired n schedule }

-- the schedule after these further events with their replies, the first of which comes first
abbrev pub after : List Event → List Reply → List (Event × Reply) → List (Event × Reply)
after [] replies schedule = schedule
after (event ∷ events) [] schedule = schedule
after (event ∷ events) (reply ∷ replies) schedule = after events replies ((event, reply) ∷ schedule)
