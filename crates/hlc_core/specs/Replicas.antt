-- What replicas of one log have in common: the same items of each node, and the same nodes that joined at the same
-- starts, in any order between the links, with any snapshots and vacuums between.
use Rattle.std.specs.Prelude.{◌≡◌, ℕ, List, [], ◌∷◌, ◌++◌, ◌==◌, if◌then◌else◌}
use Rattle.hlc_node.specs.declared.item.Item.{Item}
use Rattle.hlc_core.specs.Past.{Step, Began, initial_nodes, Took, Joined, IsLegal}
use Rattle.hlc_core.specs.StoreView.{StoreView}

-- the accepted items of a node, the last one first
abbrev pub items_of : ℕ → List Step → List Item
items_of n [] = []
items_of n (Took item ∷ past) = if item.node == n then item ∷ items_of n past else items_of n past
items_of n (_ ∷ past) = items_of n past

-- the nodes that joined, each with its start, the last one first
abbrev pub joins_of : List Step → List (ℕ × ℕ)
joins_of [] = []
joins_of (Joined node start ∷ past) = (node, start) ∷ joins_of past
joins_of (_ ∷ past) = joins_of past

-- the state that a past begins with, none if it begins with nodes; a legal past has one at most
abbrev pub begun : List Step → List StoreView
begun [] = []
begun (Began kept ∷ past) = kept ∷ begun past
begun (_ ∷ past) = begun past

-- the same state at the start, or the same number of nodes; the same nodes joined at the same starts, and the same
-- items of each node were accepted
pub record AreReplicas (past other : List Step) : Type 0 where
  pub begun : begun past ≡ begun other
  pub initial_nodes : initial_nodes past ≡ initial_nodes other
  pub joins : joins_of past ≡ joins_of other
  pub items : (n : ℕ) → items_of n past ≡ items_of n other

-- two pasts of one log, each perhaps further than the other on some links: without a refusal each can go on until they
-- are replicas
pub record CanMeet (past other : List Step) : Type 0 where
  pub more : List Step
  pub rest : List Step
  pub legal : IsLegal (more ++ past)
  pub other_legal : IsLegal (rest ++ other)
  pub meet : AreReplicas (more ++ past) (rest ++ other)
