-- The links of all nodes, and the floor, which is the least of their heads.
use Rattle.std.specs.Prelude.{◌≡◌, ℕ, ◌+◌, ◌==◌, ◌<◌, ◌≤◌, ◌⊎◌, ◌++◌, if◌then◌else◌, Bool, true, false, List, [], ◌∷◌}
use Rattle.std.specs.Prelude.{length, max, replicate, slice_set, slice_index_or, Result, Ok, Err}
use Rattle.std.specs.declared.alloc.AllocError.{AllocError}
use Rattle.hlc_intake.specs.IntakeView.{IntakeView}
use Rattle.hlc_values.specs.declared.bounds.TheConstants.{NUMBER_BOUND}
use Rattle.hlc_heads.specs.{Low.low, declared.heads.NodesOutOfRange.NodesOutOfRange}
use Rattle.hlc_heads.specs.declared.heads.TheConstants.{MAX_INITIAL_NODES, MAX_NODES}
use Rattle.hlc_heads.specs.declared.heads.JoinFault.{JoinFault, TheVariants.TooManyNodes, TheVariants.BelowFloor}

-- the receipt of an accepted item: its node, its stamp, and whether it was the node's last one
pub record AcceptedView : Type 0 where
  pub node : ℕ
  pub stamp : ℕ
  pub retires : Bool

-- the link of each node; and the greatest stamp of an accepted item or of a start, 0 if there is none
pub record HeadsView : Type 0 where
  pub links : List IntakeView
  pub top : ℕ

-- there is a link, and there are no more links than node numbers
pub record IsSized (marks : HeadsView) : Type 0 where
  pub some : 0 < length marks.links
  pub few : length marks.links ≤ MAX_NODES

-- a link with this progress
abbrev pub a_link : ℕ → ℕ → Bool → IntakeView
a_link next head retired = record { next = next; head = head; retired = retired }

-- in place of the link of a node that does not exist: one that has retired
abbrev pub no_link : IntakeView
no_link = a_link 0 0 true

-- the link of this node
abbrev pub link_at : List IntakeView → ℕ → IntakeView
link_at links node = slice_index_or links node no_link

-- the links after that of this node advanced to this one
abbrev pub advanced : HeadsView → ℕ → IntakeView → HeadsView
advanced marks node link = record { links = slice_set marks.links node link; top = max marks.top link.head }

-- the number after this one, or this one if it is the last
abbrev pub number_after : ℕ → ℕ
number_after number = if number == NUMBER_BOUND then number else number + 1

-- the links after the next item of this node, with this stamp, was accepted, which may be the node's last one
abbrev pub marked : HeadsView → ℕ → ℕ → Bool → HeadsView
marked marks node stamp last = advanced marks node (a_link (number_after (link_at marks.links node).next) stamp last)

-- the links with one more, whose head is its start
abbrev pub joined : HeadsView → ℕ → HeadsView
joined marks start = record { links = marks.links ++ a_link 0 start false ∷ []; top = max marks.top start }

-- every node has retired
abbrev pub AllRetired : List IntakeView → Type 0
AllRetired links = (k : ℕ) → k < length links → (link_at links k).retired ≡ true

-- the least head of the nodes that have not retired
pub record IsLeast (links : List IntakeView) (low : ℕ) : Type 0 where
  pub is_head : (k : ℕ) × (k < length links) × ((link_at links k).retired ≡ false)
      × ((link_at links k).head ≡ low)
  pub least : (k : ℕ) → k < length links → (link_at links k).retired ≡ false
      → low ≤ (link_at links k).head

-- The floor is the least head of the nodes that have not retired; if all have, it is the top. Each of them retired by
-- an item above its start, so the top is the greatest stamp of an accepted item.
abbrev pub IsFloor : HeadsView → ℕ → Type 0
IsFloor marks floor = IsLeast marks.links floor ⊎ (AllRetired marks.links × (floor ≡ marks.top))

-- the floor of these links
abbrev pub floor_of : HeadsView → ℕ
floor_of marks =
    low (λ k. (link_at marks.links k).head) (λ k. (link_at marks.links k).retired) (length marks.links) marks.top

-- this many links are made, each with the head 0; or the number is 0 or too large; or there is no memory
abbrev pub Makes : ℕ → Result (Result HeadsView NodesOutOfRange) AllocError → Type 0
Makes count (Ok (Ok marks)) =
    (0 < count) × (count ≤ MAX_INITIAL_NODES)
    × (marks ≡ record { links = replicate count (a_link 0 0 false); top = 0 })
Makes count (Ok (Err fault)) = (count ≡ 0) ⊎ (MAX_INITIAL_NODES < count)
Makes count (Err shortage) = (0 < count) × (count ≤ MAX_INITIAL_NODES)

-- a node joined at the floor, with the next number; or no number is left; or there is no memory
abbrev pub Joins : HeadsView → HeadsView → Result (Result (ℕ × ℕ) JoinFault) AllocError → Type 0
Joins old new (Ok (Ok made)) =
    (length old.links < MAX_NODES) × (made.0 ≡ length old.links) × IsFloor old made.1
    × (new ≡ joined old made.1)
Joins old new (Ok (Err TooManyNodes)) = (MAX_NODES ≤ length old.links) × (new ≡ old)
Joins old new (Ok (Err (BelowFloor floor))) = ⊥
Joins old new (Err shortage) = (length old.links < MAX_NODES) × (new ≡ old)

-- a node joined at this start, with the next number; or no number is left; or the start is below the floor, which is
-- returned; or there is no memory
abbrev pub JoinsAt : HeadsView → HeadsView → ℕ → Result (Result ℕ JoinFault) AllocError → Type 0
JoinsAt old new start (Ok (Ok node)) =
    (length old.links < MAX_NODES) × (floor_of old ≤ start) × (node ≡ length old.links)
    × (new ≡ joined old start)
JoinsAt old new start (Ok (Err TooManyNodes)) = (MAX_NODES ≤ length old.links) × (new ≡ old)
JoinsAt old new start (Ok (Err (BelowFloor floor))) =
    (length old.links < MAX_NODES) × (floor ≡ floor_of old) × (start < floor) × (new ≡ old)
JoinsAt old new start (Err shortage) = (length old.links < MAX_NODES) × (floor_of old ≤ start) × (new ≡ old)
