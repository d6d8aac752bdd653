-- The newest of some first positions, together with the newest of the rest, is the newest of all.
use Rattle.std.proofs.Common.{◌≡◌, ℕ, ◌+◌, ◌-◌, ◌<◌, ◌≤◌, List, Option, Some, IfSome, MatchOption, get_or-drop}
use Rattle.std.proofs.Common.{length-drop, take_all, None, length, get_or, drop, take, sym, ap, ◌∙◌, subst, ◌⊎◌, inl}
use Rattle.std.proofs.Common.{inr, arith}
use Rattle.std.proofs.lemmas.{Bool.cases_lt, List.get_or_default, Option.none-some, Option.same_Some}
use Rattle.hlc_lanes.specs.Newest.{IsNewest}
use Rattle.hlc_table_order.specs.Newest.{NotAbove, IsNewestBelow, IsGreatestAt}

pub not_above_itself : (ss ns : List ℕ) (p : ℕ) → NotAbove ss ns p p
not_above_itself ss ns p = (omega arith, λ e. omega arith, λ e f. omega arith)

pub not_above_trans : (ss ns : List ℕ) (p q r : ℕ) → NotAbove ss ns p q → NotAbove ss ns q r → NotAbove ss ns p r
not_above_trans ss ns p q r (a, b, c) (d, e, f) = (
  omega (arith, a, d),
  λ same.
      let x : get_or ss p 0 ≡ get_or ss q 0 = omega (arith, a, d, same) in
      let y : get_or ss q 0 ≡ get_or ss r 0 = omega (arith, a, d, same) in
      let m = b x in let n = e y in omega (arith, m, n),
  λ same alike.
      let x : get_or ss p 0 ≡ get_or ss q 0 = omega (arith, a, d, same) in
      let y : get_or ss q 0 ≡ get_or ss r 0 = omega (arith, a, d, same) in
      let m = b x in
      let n = e y in
      let u : get_or ns p 0 ≡ get_or ns q 0 = omega (arith, m, n, alike) in
      let v : get_or ns q 0 ≡ get_or ns r 0 = omega (arith, m, n, alike) in
      let k = c x u in let l = f y v in omega (arith, k, l),
)

-- the first remains the best if no later row is above it
pub best_stays : (ss ns : List ℕ) (bound m n : ℕ) (first : Option ℕ) → IsNewestBelow ss ns bound m first → m ≤ n
    → ((q : ℕ) → m ≤ q → q < n
    → MatchOption first (bound < get_or ss q 0) (λ p. get_or ss q 0 ≤ bound → NotAbove ss ns q p))
    → IsNewestBelow ss ns bound n first
best_stays ss ns bound m n None best le further = λ q lt.
    elim (cases_lt q m) [
      | inl below ↦ best q below
      | inr above ↦ further q above lt
    ]
best_stays ss ns bound m n (Some p) (inside, within, top) le further = (
  omega (arith, inside, le),
  within,
  λ q lt seen. elim (cases_lt q m) [
    | inl below ↦ top q below seen
    | inr above ↦ further q above lt seen
  ],
)

-- the better of the first and of the best later row
pub best_joins : (ss ns : List ℕ) (bound m n t r : ℕ) (first : Option ℕ) → IsNewestBelow ss ns bound m first → m ≤ t
    → t < n → get_or ss t 0 ≤ bound → ((q : ℕ) → m ≤ q → q < n → get_or ss q 0 ≤ bound → NotAbove ss ns q t)
    → (r ≡ t) ⊎ (first ≡ Some r) → NotAbove ss ns t r → IfSome first (λ p. NotAbove ss ns p r)
    → IsNewestBelow ss ns bound n (Some r)
best_joins ss ns bound m n t r None best le lt seen top one later other =
    elim one [
      | inl is ↦ subst (λ (k : ℕ). IsNewestBelow ss ns bound n (Some k)) (sym is) (
        lt,
        seen,
        λ q l s. elim (cases_lt q m) [
          | inl below ↦ absurd (let b = best q below in omega (arith, b, s))
          | inr above ↦ top q above l s
        ],
      )
      | inr other_one ↦ absurd (none-some r other_one)
    ]
best_joins ss ns bound m n t r (Some p) (inside, within, greatest) le lt seen top one later other = (
  elim one [
    | inl is ↦ subst (λ k. k < n) (sym is) lt
    | inr is ↦ subst (λ k. k < n) (same_Some p r is) (omega (arith, inside, le, lt))
  ],
  elim one [
    | inl is ↦ subst (λ k. get_or ss k 0 ≤ bound) (sym is) seen
    | inr is ↦ subst (λ k. get_or ss k 0 ≤ bound) (same_Some p r is) within
  ],
  λ q l s. elim (cases_lt q m) [
    | inl below ↦ not_above_trans ss ns q p r (greatest q below s) other
    | inr above ↦ not_above_trans ss ns q t r (top q above l s) later
  ],
)

-- the rows from m on, as the kernels see them

rest_at : (xs : List ℕ) (m q : ℕ) → m ≤ q → get_or (drop m xs) (q - m) 0 ≡ get_or xs q 0
rest_at xs m q le = get_or-drop m xs (q - m) 0
    ∙ ap (λ k. get_or xs k 0) (let e : m + (q - m) ≡ q = omega (arith, le) in e)

rest_long : (xs : List ℕ) (m q : ℕ) → m ≤ q → q < length xs → q - m < length (drop m xs)
rest_long xs m q le lt = rw (length-drop m xs) (omega (arith, le, lt))

pub none_in_rest : (ss ns : List ℕ) (bound m : ℕ) (first : Option ℕ) → m ≤ length ss → IsNewestBelow ss ns bound m first
    → IsNewest (drop m ss) bound None → IsNewestBelow ss ns bound (length ss) first
none_in_rest ss ns bound m first le best above =
    best_stays ss ns bound m (length ss) first best le (λ q from lt.
    let b : bound < get_or ss q 0 =
    subst (λ s. bound < s) (rest_at ss m q from) (above (q - m) 0 (rest_long ss m q from lt)) in
    elim first as (λ o. MatchOption o (bound < get_or ss q 0) (λ p. get_or ss q 0 ≤ bound → NotAbove ss ns q p)) [
      | None ↦ b
      | Some p ↦ λ seen. absurd (omega (arith, b, seen))
    ])

pub rest_is_below : (ss ns : List ℕ) (bound m stamp : ℕ) (first : Option ℕ) → m ≤ length ss
    → IsNewestBelow ss ns bound m first → IsNewest (drop m ss) bound (Some stamp)
    → MatchOption first ⊥ (λ p. stamp < get_or ss p 0) → IsNewestBelow ss ns bound (length ss) first
rest_is_below ss ns bound m stamp None le best (member, within, top) never = absurd never
rest_is_below ss ns bound m stamp (Some p) le best (member, within, top) higher =
    best_stays ss ns bound m (length ss) (Some p) best le (λ q from lt seen.
    let e = rest_at ss m q from in
    let b : get_or ss q 0 ≤ stamp =
    subst (λ s. s ≤ stamp) e (top (q - m) 0 (rest_long ss m q from lt) (subst (λ s. s ≤ bound) (sym e) seen)) in (
      omega (arith, b, higher),
      λ same. absurd (omega (arith, b, higher, same)),
      λ same alike. absurd (omega (arith, b, higher, same)),
    ))

pub no_top : (ss ns : List ℕ) (bound stamp : ℕ) → IsNewest ss bound (Some stamp) → IsGreatestAt ss ns stamp None → ⊥
no_top ss ns bound stamp (member, r, t) nowhere =
    nowhere member.0 member.1 (get_or_default ss member.0 0 stamp member.1 ∙ member.2)

pub top_of_rest : (ss ns : List ℕ) (bound m stamp i r : ℕ) (first : Option ℕ) → m ≤ length ss → length ns ≡ length ss
    → IsNewestBelow ss ns bound m first → IsNewest (drop m ss) bound (Some stamp)
    → IsGreatestAt (drop m ss) (drop m ns) stamp (Some i) → (r ≡ m + i) ⊎ (first ≡ Some r) → NotAbove ss ns (m + i) r
    → IfSome first (λ p. NotAbove ss ns p r) → IsNewestBelow ss ns bound (length ss) (Some r)
top_of_rest ss ns bound m stamp i r first le beside best (member, within, top) (inside, is, great) one later other =
    let here : get_or ss (m + i) 0 ≡ stamp = sym (get_or-drop m ss i 0) ∙ is in
    let node : get_or (drop m ns) i 0 ≡ get_or ns (m + i) 0 = get_or-drop m ns i 0 in
    let long = length-drop m ss in
    best_joins ss ns bound m (length ss) (m + i) r first best (omega arith) (omega (arith, long, inside, le))
    (subst (λ s. s ≤ bound) (sym here) within)
    (λ q from lt seen.
    let e = rest_at ss m q from in
    let f = rest_at ns m q from in
    let l = rest_long ss m q from lt in
    let b : get_or ss q 0 ≤ stamp =
    subst (λ s. s ≤ stamp) e (top (q - m) 0 l (subst (λ s. s ≤ bound) (sym e) seen)) in (
      subst (λ s. get_or ss q 0 ≤ s) (sym here) b,
      λ same. subst (λ n. n ≤ get_or ns (m + i) 0) f
          (subst (λ n. get_or (drop m ns) (q - m) 0 ≤ n) node (great (q - m) l (e ∙ same ∙ here)).0),
      λ same alike. let h = (great (q - m) l (e ∙ same ∙ here)).1 (f ∙ alike ∙ sym node) in omega (arith, h, from),
    ))
    one later other

pub rest_of : (xs : List ℕ) (m : ℕ) → take (length xs - m) (drop m xs) ≡ drop m xs
rest_of xs m = take_all _ _ (omega (arith, length-drop m xs))
