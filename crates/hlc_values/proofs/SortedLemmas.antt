-- Lists in which each member is before each later one: two of them with the same members are equal, since each begins
-- with the member that is before all others. In a list of ascending numbers, a member that no other exceeds is the
-- last.
use Rattle.std.proofs.Common.{◌≡◌, ℕ, suc, ◌+◌, ◌<◌, ◌≤◌, List, [], ◌∷◌, ◌++◌, length, get_or, take, refl, ap, ap₂, sym}
use Rattle.std.proofs.Common.{◌∙◌, subst, inl, inr, arith}
use Rattle.std.specs.{Prelude.Contains, Prelude.◌↔◌, List.AllPairs, List.Sorted.IsStrictlyIncreasing}
use Rattle.std.proofs.lemmas.{Bool.cases_lt, List.take_more, List.take_all, List.get_or_default}
use Rattle.hlc_values.proofs.MemberLemmas.{Contains-none, Contains-first, Contains-rest, Contains-cons_cases}

-- the rest of such a list is such a list, and the first member is before each of the rest
pub AllPairs-rest : {X : Type 0} (R : X → X → Type 0) (x : X) (xs : List X) → AllPairs R (x ∷ xs) → AllPairs R xs
AllPairs-rest R x xs h = λ i j d before within. h (suc i) (suc j) d (omega arith) (omega arith)

pub AllPairs-first : {X : Type 0} (R : X → X → Type 0) (x : X) (xs : List X) (y : X) → AllPairs R (x ∷ xs)
    → Contains xs y → R x y
AllPairs-first R x xs y h (k, within, here) = subst (R x) here (h 0 (suc k) y (omega arith) (omega arith))

module _ {X : Type 0} (R : X → X → Type 0) (one_way : (x y : X) → R x y → R y x → ⊥) where
  heads_same : (x y : X) (xs ys : List X) → AllPairs R (x ∷ xs) → AllPairs R (y ∷ ys) → Contains (y ∷ ys) x
      → Contains (x ∷ xs) y → x ≡ y
  heads_same x y xs ys a b m k =
      elim (Contains-cons_cases y x ys m) [
        | inl is ↦ sym is
        | inr beyond ↦
            elim (Contains-cons_cases x y xs k) [
              | inl is ↦ is
              | inr after ↦ absurd (one_way y x (AllPairs-first R y ys x b beyond) (AllPairs-first R x xs y a after))
            ]
      ]

  -- what is in the rest of one list is in the rest of the other
  rest_same : (x : X) (xs ys : List X) → AllPairs R (x ∷ xs) → ((z : X) → Contains (x ∷ xs) z → Contains (x ∷ ys) z)
      → (z : X) → Contains xs z → Contains ys z
  rest_same x xs ys a same z m =
      elim (Contains-cons_cases x z ys (same z (Contains-rest x z xs m))) [
        | inl is ↦
            absurd (let h : R x x = subst (R x) (sym is) (AllPairs-first R x xs z a m) in one_way x x h h)
        | inr there ↦ there
      ]

  pub same_members : (xs ys : List X) → AllPairs R xs → AllPairs R ys → ((z : X) → Contains xs z ↔ Contains ys z)
      → xs ≡ ys
  same_members [] [] a b same = refl
  same_members [] (y ∷ ys) a b same = absurd (Contains-none y ((same y).1 (Contains-first y ys)))
  same_members (x ∷ xs) [] a b same = absurd (Contains-none x ((same x).0 (Contains-first x xs)))
  same_members (x ∷ xs) (y ∷ ys) a b same =
      let first : x ≡ y =
      heads_same x y xs ys a b ((same x).0 (Contains-first x xs)) ((same y).1 (Contains-first y ys)) in
      let into : (z : X) → Contains (x ∷ xs) z → Contains (x ∷ ys) z =
      λ z m. subst (λ w. Contains (w ∷ ys) z) (sym first) ((same z).0 m) in
      let back : (z : X) → Contains (x ∷ ys) z → Contains (x ∷ xs) z =
      λ z m. (same z).1 (subst (λ w. Contains (w ∷ ys) z) first m) in
      let also : AllPairs R (x ∷ ys) = subst (λ w. AllPairs R (w ∷ ys)) (sym first) b in
      let rest : xs ≡ ys =
      same_members xs ys (AllPairs-rest R x xs a) (AllPairs-rest R y ys b)
      (λ z. (rest_same x xs ys a into z, rest_same x ys xs also back z)) in
      ap₂ (λ w ws. w ∷ ws) first rest

-- a member of an ascending list that no other exceeds is its last
pub last-greatest : (xs : List ℕ) (top : ℕ) → IsStrictlyIncreasing xs → Contains xs top
    → ((x : ℕ) → Contains xs x → x ≤ top) → (earlier : List ℕ) × (xs ≡ earlier ++ top ∷ [])
last-greatest xs top rises (k, within, here) low =
    elim (cases_lt (k + 1) (length xs)) [
      | inl more ↦
          absurd (let up : get_or xs k 0 < get_or xs (k + 1) 0 = rises k more in
          let at : get_or xs k 0 ≡ top = get_or_default xs k 0 top within ∙ here in
          let next : get_or xs (k + 1) 0 ≤ top = low (get_or xs (k + 1) 0)
          (k + 1, more, get_or_default xs (k + 1) (get_or xs (k + 1) 0) 0 more) in omega arith)
      | inr end ↦ (
        take k xs,
        sym (take_all (k + 1) xs end) ∙ take_more xs k top within ∙ ap (λ x. take k xs ++ x ∷ []) here,
      )
    ]
