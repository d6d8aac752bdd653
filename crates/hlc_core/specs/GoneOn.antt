-- How the state of a store changes, from one call to a later one.
use Rattle.std.specs.{Prelude.◌≡◌, Prelude.ℕ, Prelude.List, Prelude.◌∷◌, Prelude.◌++◌, List.Sorted.IsPermutation}
use Rattle.hlc_node.specs.declared.item.Item.{Item}
use Rattle.hlc_vacuum.specs.Representing.{IsWithin}
use Rattle.hlc_core.specs.Past.{Step, Took, Joined, Opened, Closed, Vacuumed, PartVacuumed, item_rows}
use Rattle.hlc_core.specs.StoreView.{StoreView, Represents, without_snapshots}

-- The newer state is that of the same store after some calls. Each case is what the contract of a call of `Core` says
-- of a change: `represents` and `rows` of those that accept an item, let a node join, and open or close a snapshot;
-- `state` of `close_all`; and of a vacuum, whole or in part, `represents` or `ok`, and `within`. Other calls, and those
-- that are refused, leave the state as it is.
pub data HasGoneOn : StoreView → StoreView → Type 0 where
  unchanged : {kept : StoreView} → HasGoneOn kept kept
  accepted : {old new : StoreView} (past : List Step) (item : Item) → Represents old past
      → Represents new (Took item ∷ past) → IsPermutation (old.rows ++ item_rows item) new.rows → HasGoneOn old new
  joined : {old new : StoreView} (past : List Step) (node start : ℕ) → Represents old past
      → Represents new (Joined node start ∷ past) → new.rows ≡ old.rows → HasGoneOn old new
  opened : {old new : StoreView} (past : List Step) (stamp : ℕ) → Represents old past
      → Represents new (Opened stamp ∷ past) → new.rows ≡ old.rows → HasGoneOn old new
  closed : {old new : StoreView} (past : List Step) (id : ℕ) → Represents old past
      → Represents new (Closed id ∷ past) → new.rows ≡ old.rows → HasGoneOn old new
  all_closed : {old : StoreView} → HasGoneOn old (without_snapshots old)
  vacuumed : {old new : StoreView} (past : List Step) (at : ℕ) → Represents old past
      → Represents new (Vacuumed at ∷ past) → IsWithin old.rows new.rows → HasGoneOn old new
  part_vacuumed : {old new : StoreView} (past : List Step) (at dropped : ℕ) → Represents old past
      → Represents new (PartVacuumed at dropped ∷ past) → IsWithin old.rows new.rows → HasGoneOn old new
  later : {old mid new : StoreView} → HasGoneOn old mid → HasGoneOn mid new → HasGoneOn old new
