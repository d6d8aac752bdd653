-- When two checkpoints are joined into one, and the first reason why they are not.
use Rattle.std.specs.Prelude.{◌≡◌, ◌≢◌, ℕ, Bool, List, [], ◌∷◌, codes, true, All, MatchOption, ⊤, slice_get}
use Rattle.hlc_rows.specs.declared.row.Row.{Row}
use Rattle.hlc_core.specs.StoreView.{StoreView}
use Rattle.hlc_split.specs.{Split.is_under, Split.is_from, declared.joining.MergeFault.MergeFault}
use Rattle.hlc_split.specs.declared.joining.MergeFault.TheVariants.{LinksDiffer, SnapshotsDiffer, HorizonsDiffer}
use Rattle.hlc_split.specs.declared.joining.MergeFault.TheVariants.{KeysOverlap}

-- both have as many nodes at the start, and the same progress of each link
abbrev pub HaveSameLinks : StoreView → StoreView → Type 0
HaveSameLinks left right = (left.initial_nodes ≡ right.initial_nodes) × (left.links ≡ right.links)

-- both have the same open snapshots, and the same last id
abbrev pub HaveSameSnapshots : StoreView → StoreView → Type 0
HaveSameSnapshots left right = (left.last_id ≡ right.last_id) × (left.snapshots ≡ right.snapshots)

-- the keys of the one list are below the first key of the other, and no key of the other is
abbrev pub AreDivided : List Row → List Row → Type 0
AreDivided left right = MatchOption (slice_get right 0) ⊤ (λ first.
    All (λ row. is_under first.key row.key ≡ true) left × All (λ row. is_from first.key row.key ≡ true) right)

-- Of two lists that are divided, where the right one is this, a key is of the left one: it is below the first key of
-- the right one, or that has none.
abbrev pub is_of_left : List Row → List ℕ → Bool
is_of_left [] key = true
is_of_left (first ∷ rest) key = is_under first.key key

-- links, snapshots and horizons are equal, and the keys are divided
abbrev pub AreJoinable : StoreView → StoreView → Type 0
AreJoinable left right =
    HaveSameLinks left right × HaveSameSnapshots left right × (left.horizon ≡ right.horizon)
    × AreDivided left.rows right.rows

-- the first reason why they are not joined
abbrev pub IsReason : StoreView → StoreView → MergeFault → Type 0
IsReason left right LinksDiffer = HaveSameLinks left right → ⊥
IsReason left right SnapshotsDiffer = HaveSameLinks left right × (HaveSameSnapshots left right → ⊥)
IsReason left right HorizonsDiffer =
    HaveSameLinks left right × HaveSameSnapshots left right × (left.horizon ≢ right.horizon)
IsReason left right KeysOverlap =
    HaveSameLinks left right × HaveSameSnapshots left right × (left.horizon ≡ right.horizon)
    × (AreDivided left.rows right.rows → ⊥)

-- the number of a reason
abbrev pub merge_code : MergeFault → ℕ
merge_code LinksDiffer = 1
merge_code SnapshotsDiffer = 2
merge_code HorizonsDiffer = 3
merge_code KeysOverlap = 4

-- its text
abbrev pub merge_text : MergeFault → List ℕ
merge_text LinksDiffer = codes "the links differ"
merge_text SnapshotsDiffer = codes "the open snapshots differ"
merge_text HorizonsDiffer = codes "the horizons differ"
merge_text KeysOverlap = codes "the keys of the left are not all below those of the right"
