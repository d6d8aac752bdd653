-- The own past of the store of the keys of a kind, which was a part of a whole store and went on.
use Rattle.std.specs.Prelude.{ℕ, Bool, List, ◌∷◌}
use Rattle.hlc_node.specs.declared.item.Item.{Item}
use Rattle.hlc_core.specs.Past.{Step, Took, Opened, Closed, Vacuumed, PartVacuumed, Joined, horizon}
use Rattle.hlc_split.specs.Split.{item_in, past_in}

-- The past of the whole store, and that of the store of these keys: it began as a part of the whole (`RepresentsPart`),
-- took, opened, closed and joined what the whole did since, and was vacuumed when it chose, in full or in part. The
-- whole was not vacuumed since.
pub data IsOwnPast (is_of : List ℕ → Bool) : List Step → List Step → Type 0 where
  began : (past : List Step) (dropped : ℕ)
      → IsOwnPast is_of past (PartVacuumed (horizon past) dropped ∷ past_in is_of past)
  took : {past own : List Step} (item : Item) → IsOwnPast is_of past own
      → IsOwnPast is_of (Took item ∷ past) (Took (item_in is_of item) ∷ own)
  opened : {past own : List Step} (stamp : ℕ) → IsOwnPast is_of past own
      → IsOwnPast is_of (Opened stamp ∷ past) (Opened stamp ∷ own)
  closed : {past own : List Step} (id : ℕ) → IsOwnPast is_of past own
      → IsOwnPast is_of (Closed id ∷ past) (Closed id ∷ own)
  joined : {past own : List Step} (node start : ℕ) → IsOwnPast is_of past own
      → IsOwnPast is_of (Joined node start ∷ past) (Joined node start ∷ own)
  vacuumed : {past own : List Step} (at : ℕ) → IsOwnPast is_of past own → IsOwnPast is_of past (Vacuumed at ∷ own)
  part_dropped : {past own : List Step} (at dropped : ℕ) → IsOwnPast is_of past own
      → IsOwnPast is_of past (PartVacuumed at dropped ∷ own)
