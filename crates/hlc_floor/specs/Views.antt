-- What a caller sees of a board's feeders and passes.
use Rattle.std.specs.Prelude.{◌≡◌, ◌≢◌, ℕ, zero, suc, ◌<◌, ◌≤◌, List, [], ◌∷◌, ◌++◌, ⊤, replicate, slice_index}
use Rattle.std.specs.Prelude.{if◌then◌else◌}
use Rattle.atomic_table.specs.Seated.{TableId}
use Rattle.hlc_heads.specs.Heads.{AcceptedView}
use Rattle.hlc_floor.specs.Board.{found_at}

-- a feeder of a board: its node, and the word that it raised last
pub record FeederView : Type 0 where
  pub board : TableId
  pub node : ℕ
  pub raised : ℕ

-- a pass of a board: for each node the stamp that it saw last, and what its loads found, the first of them first
pub record FloorPassView : Type 0 where
  pub board : TableId
  pub seen : List ℕ
  pub found : List (List ℕ)

-- the word that the board shows for an accepted item: its stamp, or the greatest word if it was its node's last one
abbrev pub word_of : AcceptedView → ℕ
word_of accepted = if accepted.retires then 18446744073709551615 else accepted.stamp

-- a feeder of this board and this node, which raised this last
abbrev pub post : TableId → ℕ → ℕ → FeederView
post board node raised = record { board = board; node = node; raised = raised }

-- a pass of this board, which saw these last, and whose loads found these
abbrev pub sight : TableId → List ℕ → List (List ℕ) → FloorPassView
sight board seen found = record { board = board; seen = seen; found = found }

-- a pass that has seen no word
abbrev pub blind : TableId → FloorPassView
blind board = sight board (replicate board.words 0) (replicate board.words [])

-- the feeders of the first n nodes, in order, before they raised anything
abbrev pub posts : TableId → ℕ → List FeederView
posts board zero = []
posts board (suc n) = posts board n ++ post board n 0 ∷ []

-- the feeders are of this board
abbrev pub FeedersOf : TableId → List FeederView → Type 0
FeedersOf board [] = ⊤
FeedersOf board (feeder ∷ feeders) = (feeder.board ≡ board) × FeedersOf board feeders

-- the passes are of this board
abbrev pub PassesOf : TableId → List FloorPassView → Type 0
PassesOf board [] = ⊤
PassesOf board (pass ∷ passes) = (pass.board ≡ board) × PassesOf board passes

-- one load of the word of a node found n there. Nothing else of what was seen or found changed
pub record LooksAt (node n : ℕ) (before after : FloorPassView) : Type 0 where
  pub board : after.board ≡ before.board
  pub sees : slice_index after.seen node ≡ n
  pub finds : found_at after.found node ≡ found_at before.found node ++ n ∷ []
  pub rises : slice_index before.seen node ≤ n
  pub seen_else : (k : ℕ) → k ≢ node → slice_index after.seen k ≡ slice_index before.seen k
  pub found_else : (k : ℕ) → k ≢ node → found_at after.found k ≡ found_at before.found k

-- n is the least of the first `count` numbers
pub record IsLeast (count : ℕ) (xs : List ℕ) (n : ℕ) : Type 0 where
  pub among : (k : ℕ) × (k < count) × (slice_index xs k ≡ n)
  pub below : (k : ℕ) → k < count → n ≤ slice_index xs k
