-- The least head of each group of nodes that have not retired.
use Rattle.std.specs.Prelude.{◌≡◌, ◌≢◌, ℕ, ◌+◌, ◌*◌, ◌/◌, ◌<◌, ◌≤◌, true, false, List, length, Option, Some, None}
use Rattle.std.specs.Prelude.{MatchOption, slice_index_or}
use Rattle.hlc_intake.specs.IntakeView.{IntakeView}
use Rattle.hlc_heads.specs.{declared.groups.TheConstants.GROUP, Heads.link_at}

-- the least head of the nodes from the first number on and below the second one that have not retired, if there is one
abbrev pub IsLeastIn : List IntakeView → ℕ → ℕ → Option ℕ → Type 0
IsLeastIn links from to found =
    MatchOption found ((k : ℕ) → from ≤ k → k < to → (link_at links k).retired ≡ true)
    (λ low.
    ((k : ℕ) × (from ≤ k) × (k < to) × (k < length links) × ((link_at links k).retired ≡ false)
    × ((link_at links k).head ≡ low))
    × ((k : ℕ) → from ≤ k → k < to → (link_at links k).retired ≡ false
    → low ≤ (link_at links k).head))

-- the least head of this group
abbrev pub group_at : List (Option ℕ) → ℕ → Option ℕ
group_at groups group = slice_index_or groups group None

-- they are the least heads of the groups
abbrev pub AreGroups : List IntakeView → List (Option ℕ) → Type 0
AreGroups links groups =
    (group : ℕ) → group < GROUP
    → IsLeastIn links (group * GROUP) (group * GROUP + GROUP) (group_at groups group)

-- the least one of the first groups, if there is one
abbrev pub IsLeastOf : ℕ → List (Option ℕ) → Option ℕ → Type 0
IsLeastOf count groups found =
    MatchOption found ((group : ℕ) → group < count → group_at groups group ≡ None)
    (λ low.
    ((group : ℕ) × (group < count) × (group_at groups group ≡ Some low))
    × ((group other : ℕ) → group < count → group_at groups group ≡ Some other → low ≤ other))

-- they are the least heads of the groups, but that of this node's group may still be the node's former head
abbrev pub AreOthers : List IntakeView → List (Option ℕ) → ℕ → ℕ → Type 0
AreOthers links groups node was =
    (group : ℕ) → group < GROUP
    → (group ≡ node / GROUP → group_at groups group ≢ Some was)
    → IsLeastIn links (group * GROUP) (group * GROUP + GROUP) (group_at groups group)
