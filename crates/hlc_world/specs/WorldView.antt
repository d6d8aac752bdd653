-- What a world stores, and which schedule it represents.
use Rattle.std.specs.Prelude.{◌≡◌, ℕ, false, zero, suc, ◌<◌, ◌⊎◌, List, [], ◌∷◌, ◌++◌, length, Some, None, slice_get}
use Rattle.std.specs.Prelude.{MatchOption, Result, Ok, Err, map}
use Rattle.hlc_node.specs.declared.item.{Item.Item, Body.Body, Message.Message}
use Rattle.hlc_node.specs.Node.{NodeView, stamped, expected_event, expected_issue, next_item, after_issue}
use Rattle.hlc_core.specs.StoreView.{StoreView, Represents as CoreRepresents}
use Rattle.hlc_core.specs.{Past.numbered, Calls.new_refusal}
use Rattle.hlc_world.specs.declared.{reply.Reply.Reply, refusal.Refusal.Refusal, refusal.Refusal.TheVariants.NoMemory}
use Rattle.hlc_world.specs.{Schedule.issued, Schedule.sent, Schedule.node_of, Store.core_past}
use Rattle.hlc_world_event.specs.Events.{Event}
use Rattle.hlc_world.specs.Expected.{issue_refusal, of_core, IsLegal}

-- what is stored for a node: the node itself, and the items that it issued
pub record IssuerView : Type 0 where
  pub node : NodeView
  pub issued : List Item

-- the stamps of some messages, which are all that a receipt depends on
abbrev pub stamps_of : List Message → List ℕ
stamps_of messages = map (λ message. message.stamp) messages

-- what a world stores: the core of the store, each node, and the stamps of the messages that were sent
pub record WorldView : Type 0 where
  pub core : StoreView
  pub nodes : List IssuerView
  pub sent_stamps : List ℕ

-- the world had this many nodes at the start and represents the schedule
pub record Represents (nodes : ℕ) (state : WorldView) (schedule : List (Event × Reply)) : Type 0 where
  pub legal : IsLegal nodes schedule
  pub core : CoreRepresents state.core (core_past nodes schedule)
  pub many : length state.nodes ≡ numbered (core_past nodes schedule)
  pub each : (n : ℕ) → n < length state.nodes
      → slice_get state.nodes n ≡ Some (record { node = node_of n schedule; issued = issued n schedule })
  pub sent_stamps : state.sent_stamps ≡ stamps_of (sent schedule)

-- this many nodes, at which no event has taken place
abbrev pub fresh_issuers : ℕ → List IssuerView
fresh_issuers zero = []
fresh_issuers (suc n) =
    fresh_issuers n ++ record { node = record { id = n; last = 0; next = 0; retired = false }; issued = [] } ∷ []

-- a new world has these nodes and represents the empty schedule; or the number of nodes is refused, or it is out of
-- memory
abbrev pub Makes : ℕ → Result WorldView Refusal → Type 0
Makes count (Ok world) = (new_refusal count ≡ None) × Represents count world []
Makes count (Err refusal) = MatchOption (new_refusal count) (refusal ≡ NoMemory) (λ fault. refusal ≡ of_core fault)

-- a node issued an item with this body and the node's next number; or the node is unchanged, and the refusal is the
-- expected one, or out of memory where none is expected
abbrev pub Issues : IssuerView → IssuerView → Body → ℕ → Result (ℕ × ℕ) Refusal → Type 0
Issues old new body reading (Ok made) =
    (expected_issue old.node body reading ≡ Ok made.0)
    × (made.1 ≡ old.node.next)
    × (new ≡ record {
      node = after_issue old.node body made.0;
      issued = old.issued ++ next_item old.node body made.0 ∷ [];
    })
Issues old new body reading (Err refusal) =
    ((issue_refusal (expected_issue old.node body reading) ≡ Some refusal)
    ⊎ ((issue_refusal (expected_issue old.node body reading) ≡ None) × (refusal ≡ NoMemory)))
    × (new ≡ old)

-- an item is stored, and its node becomes this one; or it is out of memory, and nothing changes
abbrev pub Keeps : IssuerView → IssuerView → NodeView → Item → Result (ℕ × ℕ) Refusal → Type 0
Keeps old new node item (Ok made) =
    (made ≡ (item.stamp, item.number)) × (new ≡ record { node = node; issued = old.issued ++ item ∷ [] })
Keeps old new node item (Err refusal) = (refusal ≡ NoMemory) × (new ≡ old)

-- a node has a stamp above one that it saw; or the node is unchanged, and the refusal is the expected one
abbrev pub Sees : IssuerView → IssuerView → ℕ → ℕ → Result ℕ Refusal → Type 0
Sees old new seen reading (Ok stamp) =
    (expected_event old.node (old.node.last ∷ seen ∷ []) reading ≡ Ok stamp)
    × (new ≡ record { node = stamped old.node stamp; issued = old.issued })
Sees old new seen reading (Err refusal) =
    (issue_refusal (expected_event old.node (old.node.last ∷ seen ∷ []) reading) ≡ Some refusal) × (new ≡ old)
