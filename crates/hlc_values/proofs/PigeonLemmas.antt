-- If each of some things is served by a member of a list, and no member serves two things that are apart, then the
-- things weigh no more than the list: remove the member that serves the first thing from the list, and go on with the
-- rest. With a weight of 1 each, there are no more things than members.
use Rattle.std.proofs.Common.{◌≡◌, ℕ, ◌+◌, ◌<◌, ◌≤◌, List, [], ◌∷◌, length, get_or, refl, sym, ap, subst, arith}
use Rattle.std.proofs.Common.{Contains, sum_by, remove}
use Rattle.std.proofs.lemmas.List.{Edits.length-remove, Sums.sum_by-cons, Sums.sum_by-remove}
use Rattle.hlc_values.proofs.MemberLemmas.{Contains-first, Contains-rest, Contains-remove}

-- each is apart from each later one
abbrev pub AreApart : {X : Type 0} → (X → X → Type 0) → List X → Type 0
AreApart D [] = Unit {0}
AreApart {X} D (x ∷ xs) = ((y : X) → Contains xs y → D x y) × AreApart D xs

-- a member of ys that serves x
abbrev pub Served : {X Y : Type 0} → (X → Y → Type 0) → List Y → X → Type 0
Served {X} {Y} R ys x = (y : Y) × Contains ys y × R x y

-- when the member that serves the first thing is removed, the rest are still served
rest_served : {X Y : Type 0} (D : X → X → Type 0) (R : X → Y → Type 0)
    → ((x z : X) (y : Y) → D x z → R x y → R z y → ⊥)
    → (x : X) (xs : List X) (ys : List Y) → AreApart D (x ∷ xs) → ((z : X) → Contains (x ∷ xs) z → Served R ys z)
    → (s : Served R ys x) (z : X) → Contains xs z → Served R (remove ys s.1.0) z
rest_served {X} {Y} D R once x xs ys apart each s z i =
    let t : Served R ys z = each z (Contains-rest x z xs i) in (
      t.0,
      Contains-remove ys s.1.0 s.0 t.0 s.1.1 s.1.2 t.1
          (λ e. once x z s.0 (apart.0 z i) s.2 (subst (λ w. R z w) (sym e) t.2)),
      t.2,
    )

pub served : {X Y : Type 0} (D : X → X → Type 0) (R : X → Y → Type 0) (f : X → ℕ) (g : Y → ℕ)
    → ((x : X) (y : Y) → R x y → f x ≤ g y)
    → ((x z : X) (y : Y) → D x z → R x y → R z y → ⊥)
    → (xs : List X) (ys : List Y) → AreApart D xs → ((x : X) → Contains xs x → Served R ys x)
    → sum_by f xs ≤ sum_by g ys
served D R f g le once [] ys apart each = omega arith
served {X} {Y} D R f g le once (x ∷ xs) ys apart each =
    let s : Served R ys x = each x (Contains-first x xs) in
    let y : Y = s.0 in
    let k : ℕ = s.1.0 in
    let l : k < length ys = s.1.1 in
    let here : get_or ys k y ≡ y = s.1.2 in
    let rest = rest_served D R once x xs ys apart each s in
    let h : sum_by f xs ≤ sum_by g (remove ys k) = served D R f g le once xs (remove ys k) apart.1 rest in
    let m : sum_by g (remove ys k) + g (get_or ys k y) ≡ sum_by g ys = sum_by-remove g ys k y l in
    let e : g (get_or ys k y) ≡ g y = ap g here in
    let n : f x ≤ g y = le x y s.2 in
    let c : sum_by f (x ∷ xs) ≡ f x + sum_by f xs = sum_by-cons f x xs in
    omega arith

pub sum_by_one : {X : Type 0} (xs : List X) → sum_by (λ _. 1) xs ≡ length xs
sum_by_one [] = refl
sum_by_one (x ∷ xs) = let h = sum_by_one xs in let c = sum_by-cons (λ _. 1) x xs in omega arith

-- if there are as many things as members, all of ys serve, and the weights are equal
pub served_all : {X Y : Type 0} (D : X → X → Type 0) (R : X → Y → Type 0) (f : X → ℕ) (g : Y → ℕ)
    → ((x : X) (y : Y) → R x y → f x ≡ g y)
    → ((x z : X) (y : Y) → D x z → R x y → R z y → ⊥)
    → (xs : List X) (ys : List Y) → AreApart D xs → ((x : X) → Contains xs x → Served R ys x)
    → length xs ≡ length ys → sum_by f xs ≡ sum_by g ys
served_all D R f g same once [] [] apart each e = refl
served_all D R f g same once [] (y ∷ ys) apart each e = absurd (omega arith)
served_all {X} {Y} D R f g same once (x ∷ xs) ys apart each e =
    let s : Served R ys x = each x (Contains-first x xs) in
    let y : Y = s.0 in
    let k : ℕ = s.1.0 in
    let l : k < length ys = s.1.1 in
    let here : get_or ys k y ≡ y = s.1.2 in
    let rest = rest_served D R once x xs ys apart each s in
    let n : length (remove ys k) + 1 ≡ length ys = length-remove ys k l in
    let h : sum_by f xs ≡ sum_by g (remove ys k) =
    served_all D R f g same once xs (remove ys k) apart.1 rest (omega arith) in
    let m : sum_by g (remove ys k) + g (get_or ys k y) ≡ sum_by g ys = sum_by-remove g ys k y l in
    let p : g (get_or ys k y) ≡ g y = ap g here in
    let q : f x ≡ g y = same x y s.2 in
    let c : sum_by f (x ∷ xs) ≡ f x + sum_by f xs = sum_by-cons f x xs in
    omega arith
