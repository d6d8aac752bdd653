-- Two pasts that are alike: the same nodes at the start and that joined, the same links, floor and snapshots, whatever
-- their writes and their vacuums.
use Rattle.std.proofs.Common.{◌≡◌, ℕ, ◌+◌, Bool, List, ◌∷◌, max, refl, ap, ap₂, ◌==◌, if◌then◌else◌}
use Rattle.hlc_node.specs.{declared.item.Item.Item, declared.item.Body.Body, Items.an_item, Items.retires}
use Rattle.hlc_heads.proofs.LowLemmas.{low-same}
use Rattle.hlc_snapshot.specs.RegistryView.{without}
use Rattle.hlc_core.specs.Past.{Step, Started, Began, Took, Opened, Closed, Joined, initial_nodes, numbered, count}
use Rattle.hlc_core.specs.Past.{head, retired, top, floor, last_id, open_snapshots}
use Rattle.hlc_core.specs.StoreView.{StoreView}

-- No vacuum, and no part of one, changes anything of this.
abbrev pub AreAlike : List Step → List Step → Type 0
AreAlike past other =
    (initial_nodes past ≡ initial_nodes other) × (numbered past ≡ numbered other)
    × ((n : ℕ) → (count n past ≡ count n other) × (head n past ≡ head n other) × (retired n past ≡ retired n other))
    × (top past ≡ top other) × (last_id past ≡ last_id other) × (open_snapshots past ≡ open_snapshots other)

pub alike-itself : (past : List Step) → AreAlike past past
alike-itself past = (refl, refl, λ n. (refl, refl, refl), refl, refl, refl)

pub alike-started : (past other : List Step) (nodes : ℕ) → AreAlike past other
    → AreAlike (Started nodes ∷ past) (Started nodes ∷ other)
alike-started past other nodes are = (refl, ap (λ k. k + nodes) are.1, are.2, are.3, are.4, are.5)

pub alike-began : (past other : List Step) (kept : StoreView) → AreAlike (Began kept ∷ past) (Began kept ∷ other)
alike-began past other kept = (refl, refl, λ n. (refl, refl, refl), refl, refl, refl)

-- the bodies may differ, if both or neither end the link
pub alike-took : (past other : List Step) (item : Item) (body : Body) → retires body ≡ retires item.body
    → AreAlike past other
    → AreAlike (Took (an_item item.node item.number item.stamp body) ∷ past) (Took item ∷ other)
alike-took past other item body ends are = (
  are.0,
  are.1,
  λ n. (
    ap (λ k. if item.node == n then k + 1 else k) (are.2 n).0,
    ap (λ k. if item.node == n then item.stamp else k) (are.2 n).1,
    ap₂ (λ (x : Bool) (y : Bool). if item.node == n then x else y) ends (are.2 n).2,
  ),
  ap (λ k. max k item.stamp) are.3,
  are.4,
  are.5,
)

pub alike-joined : (past other : List Step) (node start : ℕ) → AreAlike past other
    → AreAlike (Joined node start ∷ past) (Joined node start ∷ other)
alike-joined past other node start are = (
  are.0,
  ap (λ k. k + 1) are.1,
  λ n. ((are.2 n).0, ap (λ k. if node == n then start else k) (are.2 n).1, (are.2 n).2),
  ap (λ k. max k start) are.3,
  are.4,
  are.5,
)

pub alike-opened : (past other : List Step) (stamp : ℕ) → AreAlike past other
    → AreAlike (Opened stamp ∷ past) (Opened stamp ∷ other)
alike-opened past other stamp are =
    (are.0, are.1, are.2, are.3, ap (λ k. k + 1) are.4, rw (are.5, are.4) refl)

pub alike-closed : (past other : List Step) (id : ℕ) → AreAlike past other
    → AreAlike (Closed id ∷ past) (Closed id ∷ other)
alike-closed past other id are = (are.0, are.1, are.2, are.3, are.4, ap (λ xs. without id xs) are.5)

-- so their floors are the same
pub floors-alike : (past other : List Step) → AreAlike past other → floor past ≡ floor other
floors-alike past other are =
    low-same (λ n. head n past) (λ n. head n other) (λ n. retired n past) (λ n. retired n other) (numbered past)
    (numbered other) (top past) (top other) are.1 are.3 (λ n within. ((are.2 n).1, (are.2 n).2))
