-- How the items of a node reach the store, or why they do not.
use Rattle.std.specs.Prelude.{◌≡◌, ℕ, List, ◌∷◌, Option, Some, None, Result, Ok, Err}
use Rattle.hlc.specs.Node.{Body, NodeFault, NodeView, next_item, expected_issue}
use Rattle.hlc.specs.Store.{Step, Took, item_refusal, StoreView, Represents, IsWrite, core_code, CoreFault}
use Rattle.example_embed.specs.declared.stopped.Stopped.{Stopped}
use Rattle.example_embed.specs.declared.stopped.Stopped.TheVariants.{NotIssued, Refused, NotShown}

-- the store represents some past
abbrev pub RepresentsSome : StoreView → Type 0
RepresentsSome core = (past : List Step) × Represents core past

-- the number is that of the first reason to refuse a call; or 15, where there is none and the call may need memory
abbrev pub IsCodeOf : Option CoreFault → Type 0 → ℕ → Type 0
IsCodeOf (Some fault) MayGrow code = code ≡ core_code fault
IsCodeOf None MayGrow code = (code ≡ 15) × MayGrow

-- the node issued no item, since it may issue none; or the store refused it, for the first reason or because it ran out
-- of memory
abbrev pub IsStopped : List Step → NodeView → Body → ℕ → Stopped → Type 0
IsStopped past node body reading NotIssued = (fault : NodeFault) × (expected_issue node body reading ≡ Err fault)
IsStopped past node body reading (Refused code) =
    (stamp : ℕ) × (expected_issue node body reading ≡ Ok stamp)
    × IsCodeOf (item_refusal past (next_item node body stamp)) (IsWrite body) code
IsStopped past node body reading NotShown = ⊥

-- The node issued an item with this body, and the store represents it after what took place before; or it represents
-- the same as before, for this reason.
abbrev pub Feeds : StoreView → StoreView → List Step → NodeView → Body → ℕ → Result ℕ Stopped → Type 0
Feeds old new past node body reading (Ok stamp) =
    (expected_issue node body reading ≡ Ok stamp) × Represents new (Took (next_item node body stamp) ∷ past)
Feeds old new past node body reading (Err stopped) = (new ≡ old) × IsStopped past node body reading stopped
