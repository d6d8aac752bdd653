-- The feeders and passes that are made with a board are of that board, and remain so after the last one is removed.
-- This has at most one proof, so a ghost field may contain it. Each lemma goes through the list.
use Rattle.std.proofs.Common.{◌≡◌, ℕ, zero, suc, List, [], ◌∷◌, ◌++◌, replicate, refl}
use Rattle.std.proofs.Props.{props}
use Rattle.atomic_table.specs.Seated.{TableId}
use Rattle.hlc_floor.specs.Views.{FeederView, FloorPassView, post, posts, blind, FeedersOf, PassesOf}

pub feeders_last : (board : TableId) (xs : List FeederView) (x : FeederView) → FeedersOf board (xs ++ x ∷ [])
    → FeedersOf board xs × (x.board ≡ board)
feeders_last board [] x h = (tt, h.0)
feeders_last board (y ∷ ys) x h = let rest = feeders_last board ys x h.1 in ((h.0, rest.0), rest.1)

pub passes_last : (board : TableId) (xs : List FloorPassView) (x : FloorPassView) → PassesOf board (xs ++ x ∷ [])
    → PassesOf board xs × (x.board ≡ board)
passes_last board [] x h = (tt, h.0)
passes_last board (y ∷ ys) x h = let rest = passes_last board ys x h.1 in ((h.0, rest.0), rest.1)

feeders_more : (board : TableId) (xs : List FeederView) (x : FeederView) → FeedersOf board xs → x.board ≡ board
    → FeedersOf board (xs ++ x ∷ [])
feeders_more board [] x h is = (is, tt)
feeders_more board (y ∷ ys) x h is = (h.0, feeders_more board ys x h.1 is)

pub feeders_new : (board : TableId) (n : ℕ) → FeedersOf board (posts board n)
feeders_new board zero = tt
feeders_new board (suc n) = feeders_more board (posts board n) (post board n 0) (feeders_new board n) refl

pub passes_new : (board : TableId) (n : ℕ) → PassesOf board (replicate n (blind board))
passes_new board zero = tt
passes_new board (suc n) = (refl, passes_new board n)

pub feeders_prop : (board : TableId) (xs : List FeederView) → IsProp (FeedersOf board xs)
feeders_prop board [] = Prim.hlevel props
feeders_prop board (x ∷ xs) = let rest = feeders_prop board xs in Prim.hlevel (props, rest)

pub passes_prop : (board : TableId) (xs : List FloorPassView) → IsProp (PassesOf board xs)
passes_prop board [] = Prim.hlevel props
passes_prop board (x ∷ xs) = let rest = passes_prop board xs in Prim.hlevel (props, rest)
