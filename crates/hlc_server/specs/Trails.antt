-- What the lock protects, and the history that a trail has.
use Rattle.std.specs.Prelude.{◌≡◌, ℕ, List, [], ◌∷◌, ◌++◌, length, Option, option_map}
use Rattle.hlc_events.specs.declared.event.CoreEvent.{CoreEvent}
use Rattle.hlc_core.specs.{declared.reply.CoreReply.CoreReply, StoreView.StoreView, History.RepresentsHistory}
use Rattle.hlc_server.specs.declared.{entry.Entry.Entry, trail.Trail.Trail}

-- what the lock protects: a core; the calls that it took, in order, where they are kept; and how many there were
pub record GuardedView : Type 0 where
  pub core : StoreView
  pub trail : Option (List Entry)
  pub calls : ℕ

-- a call of a caller, as an entry of a trail
abbrev pub entry : ℕ → CoreEvent → CoreReply → Entry
entry caller event reply = record { caller = caller; event = event; reply = reply }

-- a history, and then the calls of a trail in order
abbrev pub history_after : List (CoreEvent × CoreReply) → List Entry → List (CoreEvent × CoreReply)
history_after history [] = history
history_after history (e ∷ trail) = history_after ((e.event, e.reply) ∷ history) trail

-- the history in a trail: its calls without their callers, the last call first
abbrev pub history_of : List Entry → List (CoreEvent × CoreReply)
history_of trail = history_after [] trail

-- the trail is a legal history, the core represents it, and its length is the number of calls
pub record IsAudited (core : StoreView) (trail : List Entry) (calls : ℕ) : Type 0 where
  pub represents : RepresentsHistory core.initial_nodes core (history_of trail)
  pub counted : length trail ≡ calls

-- the core represents a history of this many calls
pub record HasHistory (core : StoreView) (calls : ℕ) : Type 0 where
  pub history : List (CoreEvent × CoreReply)
  pub represents : RepresentsHistory core.initial_nodes core history
  pub counted : length history ≡ calls

-- the trail with one more entry, where there is one
abbrev pub with_entry : Option (List Entry) → Entry → Option (List Entry)
with_entry trail e = option_map (λ (t : List Entry). t ++ e ∷ []) trail

-- the calls of a trail, where there is one
abbrev pub entries_of : Option Trail → Option (List Entry)
entries_of trail = option_map (λ (t : Trail). t.entries.items) trail
