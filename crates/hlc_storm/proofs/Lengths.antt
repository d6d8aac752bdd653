-- Lengths: a list is one longer than what is left where its last element is removed, and a board of this many nodes has
-- as many feeders.
use Rattle.std.proofs.Common.{◌≡◌, ◌∙◌, ℕ, zero, suc, ◌+◌, List, [], ◌∷◌, ◌++◌, length, ap, refl, arith, length-append}
use Rattle.atomic_table.specs.Seated.{TableId}
use Rattle.hlc_floor.specs.Views.{post, posts}

pub last_off : {A : Type 0} (xs ys : List A) (x : A) → xs ≡ ys ++ x ∷ [] → length xs ≡ length ys + 1
last_off xs ys x is = ap length is ∙ length-append ys (x ∷ [])

pub posts_length : (board : TableId) (n : ℕ) → length (posts board n) ≡ n
posts_length board zero = refl
posts_length board (suc n) =
    last_off (posts board (suc n)) (posts board n) (post board n 0) refl
    ∙ (let before = posts_length board n in let e : length (posts board n) + 1 ≡ suc n = omega (arith, before) in e)
