-- Ascending points by their positions: the point before another is just before it, and the last one is the greatest.
use Rattle.std.proofs.Common.{Contains, Option, Some, None, length, get_or, refl, sym, ap, ◌∙◌, subst, inl, inr, arith}
use Rattle.std.proofs.Common.{◌≡◌, ℕ, ◌≤◌, List, [], ◌∷◌, suc, ◌-◌, ◌<◌}
use Rattle.std.proofs.lemmas.{Bool.cases_lt, Bool.cases_order, List.get_or_default}
use Rattle.std.proofs.lemmas.List.Elements.{All-contains, Contains-get_or, All-from_get_or, All-get_or}
use Rattle.std.proofs.lemmas.Map.Keys.{sorted_from_strictly_increasing, below_from_sorted}
use Rattle.hlc_clock.specs.Points.{IsPointBefore, PointsAscend, last_point}

pub rising : (points : List ℕ) → PointsAscend points → (i j : ℕ) → i < j → j < length points
    → get_or points i 0 < get_or points j 0
rising points rise i j below lt =
    below_from_sorted points i j 0 (sorted_from_strictly_increasing points rise.1) below lt

pub first_point : (points : List ℕ) (i at : ℕ) → PointsAscend points → i < length points → get_or points i 0 ≡ at
    → i ≡ 0 → IsPointBefore points None at
first_point points i at rise lt is first =
    All-from_get_or (λ q. at ≤ q) points 0 (λ k l.
    elim (cases_order i k) [
      | inl e ↦ let h = ap (λ n. get_or points n 0) e in omega arith
      | inr (inl b) ↦ let h = rising points rise i k b l in omega arith
      | inr (inr a) ↦ absurd (omega arith)
    ])

pub first_only : (points : List ℕ) (i at : ℕ) → PointsAscend points → i < length points → get_or points i 0 ≡ at
    → IsPointBefore points None at → i ≡ 0
first_only points i at rise lt is none =
    elim (cases_lt 0 i) [
      | inl b ↦ let h = rising points rise 0 i b lt in let m = All-get_or (λ q. at ≤ q) points 0 0 rise.0 none in
          absurd (omega arith)
      | inr z ↦ omega arith
    ]

pub next_point : (points : List ℕ) (i at b : ℕ) → PointsAscend points → i < length points → get_or points i 0 ≡ at
    → 0 < i → get_or points (i - 1) 0 ≡ b → IsPointBefore points (Some b) at
next_point points i at b rise lt is pos before = (
  subst (Contains points) before (Contains-get_or points (i - 1) 0 (omega arith)),
  (let h = rising points rise (i - 1) i (omega arith) lt in omega arith),
  All-from_get_or (λ q. q < at → q ≤ b) points 0 (λ k l below.
      elim (cases_order k (i - 1)) [
        | inl e ↦ let h = ap (λ n. get_or points n 0) e in omega arith
        | inr (inl m) ↦ let h = rising points rise k (i - 1) m (omega arith) in omega arith
        | inr (inr a) ↦ elim (cases_order i k) [
          | inl e ↦ let h = ap (λ n. get_or points n 0) e in absurd (omega arith)
          | inr (inl m) ↦ let h = rising points rise i k m l in absurd (omega arith)
          | inr (inr m) ↦ absurd (omega arith)
        ]
      ]),
)

pub next_only : (points : List ℕ) (i at b : ℕ) → PointsAscend points → i < length points → get_or points i 0 ≡ at
    → IsPointBefore points (Some b) at → (0 < i) × (get_or points (i - 1) 0 ≡ b)
next_only points i at b rise lt is ((j, l, e), below, most) =
    let f : get_or points j 0 ≡ b = get_or_default points j 0 b l ∙ e in
    let j_lt : j < i = elim (cases_order j i) [
      | inl same ↦ let h = ap (λ n. get_or points n 0) same in absurd (omega arith)
      | inr (inl m) ↦ m
      | inr (inr m) ↦ let h = rising points rise i j m l in absurd (omega arith)
    ] in
    let last : get_or points (i - 1) 0 < at = let h = rising points rise (i - 1) i (omega arith) lt in omega arith in
    let upto : get_or points (i - 1) 0 ≤ b =
    All-get_or (λ q. q < at → q ≤ b) points (i - 1) 0 (omega arith) most last in (
      (omega arith),
      elim (cases_order j (i - 1)) [
        | inl same ↦ ap (λ n. get_or points n 0) (sym same) ∙ f
        | inr (inl m) ↦ let h = rising points rise j (i - 1) m (omega arith) in absurd (omega arith)
        | inr (inr m) ↦ absurd (omega arith)
      ],
    )

-- there is only one point before
pub before_one : (points : List ℕ) (p : ℕ) (a b : Option ℕ) → IsPointBefore points a p
    → IsPointBefore points b p → a ≡ b
before_one points p None None h k = refl
before_one points p None (Some b) h k = let l = All-contains (λ q. p ≤ q) points b h k.0 in let m = k.1 in
    absurd (omega arith)
before_one points p (Some a) None h k = let l = All-contains (λ q. p ≤ q) points a k h.0 in let m = h.1 in
    absurd (omega arith)
before_one points p (Some a) (Some b) h k =
    let l : a ≤ b = All-contains (λ q. q < p → q ≤ b) points a k.2 h.0 h.1 in
    let m : b ≤ a = All-contains (λ q. q < p → q ≤ a) points b h.2 k.0 k.1 in
    ap Some (omega arith)

-- the last point by its position
pub last_point-get_or : (points : List ℕ) → last_point points ≡ get_or points (length points - 1) 0
last_point-get_or [] = refl
last_point-get_or (p ∷ []) = refl
last_point-get_or (p ∷ q ∷ points) =
    let step : suc (length (q ∷ points) - 1) ≡ length (p ∷ q ∷ points) - 1 = omega arith in
    last_point-get_or (q ∷ points) ∙ ap (λ n. get_or (p ∷ q ∷ points) n 0) step

-- each point is at or below the last
pub last_upper : (points : List ℕ) → PointsAscend points → (p : ℕ) → Contains points p → p ≤ last_point points
last_upper points rise p (i, l, e) =
    let f : get_or points i 0 ≡ p = get_or_default points i 0 p l ∙ e in
    let g = last_point-get_or points in
    elim (cases_order i (length points - 1)) [
      | inl same ↦ let h = ap (λ n. get_or points n 0) same in omega arith
      | inr (inl m) ↦ let h = rising points rise i (length points - 1) m (omega arith) in omega arith
      | inr (inr m) ↦ absurd (omega arith)
    ]

-- for the binary search: ascending points never fall; a stamp at a position is a point, and one between two is not
pub never_falling : (points : List ℕ) → PointsAscend points → (i j : ℕ) → i ≤ j → j < length points
    → get_or points i 0 ≤ get_or points j 0
never_falling points rise i j le lt =
    elim (cases_order i j) [
      | inl same ↦ let h = ap (λ n. get_or points n 0) same in omega arith
      | inr (inl below) ↦ let h = rising points rise i j below lt in omega arith
      | inr (inr above) ↦ absurd (omega arith)
    ]

pub place_of : (points : List ℕ) (i at : ℕ) → i < length points → get_or points i 0 ≡ at → Contains points at
place_of points i at lt is = subst (Contains points) is (Contains-get_or points i 0 lt)

pub no_place : (points : List ℕ) (at i : ℕ) → (i ≤ length points) × ((k : ℕ) → k < i → get_or points k 0 < at)
    × ((k : ℕ) → i ≤ k → k < length points → at < get_or points k 0) → Contains points at → ⊥
no_place points at i (within, below, above) (k, lt, is) =
    let own : get_or points k 0 ≡ at = get_or_default points k 0 at lt ∙ is in
    elim (cases_lt k i) [
      | inl before ↦ let h = below k before in omega arith
      | inr after ↦ let h = above k after lt in omega arith
    ]

pub last_point-is : (points : List ℕ) (last : ℕ) → 0 < length points → last ≡ get_or points (length points - 1) last
    → last ≡ last_point points
last_point-is points last some is = is ∙ get_or_default points (length points - 1) last 0 (omega arith)
    ∙ sym (last_point-get_or points)

pub place_before : (points : List ℕ) (i before : ℕ) → i - 1 < length points → before ≡ get_or points (i - 1) before
    → get_or points (i - 1) 0 ≡ before
place_before points i before lt is = get_or_default points (i - 1) 0 before lt ∙ sym is
