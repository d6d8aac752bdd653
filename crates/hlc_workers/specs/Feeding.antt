-- What a worker of a link has done.
use Rattle.std.specs.Prelude.{◌≡◌, ◌≢◌, ◌==◌, ◌&&◌, ℕ, List, [], ◌∷◌, ◌++◌, length, map, nat_lt, Bool, true, false}
use Rattle.std.specs.Prelude.{if◌then◌else◌, Option, None, IsSome, option_to_list, option_map}
use Rattle.hlc_node.specs.declared.item.Item.{Item}
use Rattle.hlc_link.specs.Ends.{ReceiverView}
use Rattle.hlc_floor.specs.Views.{FeederView, post, word_of}
use Rattle.hlc_events.specs.declared.event.CoreEvent.{CoreEvent, TheVariants.Accept}
use Rattle.hlc_core.specs.declared.reply.CoreReply.{CoreReply, TheVariants.Accepted}
use Rattle.hlc_server.specs.declared.entry.Receipt.{Receipt}
use Rattle.hlc_workers.specs.{declared.session.Work.Work, Paid.event_of, Paid.HasCalled, Paid.HasStayed}
use Rattle.hlc_server.specs.declared.end.WorkEnd.{WorkEnd, TheVariants.Done, TheVariants.Held, TheVariants.Closed}

-- the call that passes an item to the store
abbrev pub accept_of : Item → CoreEvent
accept_of item = Accept item

-- some items were taken: the receipts are those of the calls for them, in order, and then comes the item that was left
abbrev pub TookAll : List Item → List Item → List Receipt → Option Item → Type 0
TookAll before after receipts left =
    (items : List Item) × (after ≡ before ++ items ++ option_to_list left)
    × (map event_of receipts ≡ map accept_of items)

-- what a node's feeder has raised after this reply: where it says that an item of the node was accepted above what was
-- raised before, the word of that item, which is its stamp, or the greatest word where it was the node's last one
abbrev pub raised_by : ℕ → ℕ → CoreReply → ℕ
raised_by node raised (Accepted accepted) =
    if (accepted.node == node) && nat_lt raised accepted.stamp then word_of accepted else raised
raised_by node raised _ = raised

-- what the node's feeder has raised after these receipts
abbrev pub highest : ℕ → ℕ → List Receipt → ℕ
highest node raised [] = raised
highest node raised (receipt ∷ receipts) = highest node (raised_by node raised receipt.reply) receipts

-- the feeder after this reply
abbrev pub fed_by : FeederView → CoreReply → FeederView
fed_by feeder reply = post feeder.board feeder.node (raised_by feeder.node feeder.raised reply)

-- the feeder after these receipts
abbrev pub fed_all : FeederView → List Receipt → FeederView
fed_all feeder receipts = post feeder.board feeder.node (highest feeder.node feeder.raised receipts)

-- Below, a worker's caller and receipts were `old` and are `new`, and `may` is what its gate may answer at a turn; the
-- items taken from its link were `had` and are `taken`, and its feeder, where there is one, was `one` and is `other`.

-- one item was taken and passed to the store
pub record FedOne {L : Type 0} (may : ℕ → Bool → Type 0) (old new : Work L) (had taken : List Item)
    (one other : Option FeederView) : Type 0 where
  pub item : Item
  pub receipt : Receipt
  pub called : HasCalled may old new (receipt ∷ [])
  pub asks : receipt.event ≡ accept_of item
  pub took : taken ≡ had ++ item ∷ []
  pub raised : other ≡ option_map (λ feeder. fed_by feeder receipt.reply) one

-- no item was passed to the store: this one is left, and the work ends like this
pub record FedNone {L : Type 0} (may : ℕ → Bool → Type 0) (old new : Work L) (had : List Item) (link : ReceiverView)
    (one other : Option FeederView) (left : Option Item) (end : WorkEnd) : Type 0 where
  pub stayed : HasStayed old new
  pub took : link.taken ≡ had ++ option_to_list left
  pub raised : other ≡ one
  pub done : end ≡ Done → (link.ended ≡ true) × (left ≡ None)
  pub closed : end ≡ Closed → left ≡ None
  pub kept : end ≢ Done → end ≢ Closed → IsSome left
  pub stopped : end ≡ Held → may (length new.receipts.items) false
