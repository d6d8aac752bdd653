-- Membership in a list: by its first member and its rest, after a map or a filter, and after a member is removed. A
-- member is identified by its position.
use Rattle.std.proofs.Common.{◌≡◌, ◌≢◌, ℕ, zero, suc, ◌+◌, ◌-◌, ◌<◌, Bool, true, false, cond, List, [], ◌∷◌, length}
use Rattle.std.proofs.Common.{get_or, refl, sym, ap, ◌∙◌, subst, ◌⊎◌, inl, inr, arith, Contains, filter, map, remove}
use Rattle.std.proofs.lemmas.List.Edits.{length-remove, get_or-remove_below, get_or-remove_above}
use Rattle.std.proofs.lemmas.{Bool.cases_order, Bool.cases_Bool, List.get_or_default}

pub Contains-none : {X : Type 0} (x : X) → Contains [] x → ⊥
Contains-none x (k, l, e) = omega (arith, l)

pub Contains-first : {X : Type 0} (x : X) (xs : List X) → Contains (x ∷ xs) x
Contains-first x xs = (0, omega arith, refl)

pub Contains-rest : {X : Type 0} (y x : X) (xs : List X) → Contains xs x → Contains (y ∷ xs) x
Contains-rest y x xs (k, l, e) = (suc k, omega (arith, l), e)

pub Contains-cons_cases : {X : Type 0} (y x : X) (xs : List X) → Contains (y ∷ xs) x → (y ≡ x) ⊎ Contains xs x
Contains-cons_cases y x xs (zero, l, e) = inl e
Contains-cons_cases y x xs (suc k, l, e) = inr (k, omega (arith, l), e)

pub Contains-map : {X Y : Type 0} (f : X → Y) (xs : List X) (x : X) → Contains xs x → Contains (map f xs) (f x)
Contains-map f [] x i = absurd (Contains-none x i)
Contains-map f (y ∷ ys) x i =
    elim (Contains-cons_cases y x ys i) [
      | inl e ↦ subst (λ z. Contains (f z ∷ map f ys) (f x)) (sym e) (Contains-first (f x) (map f ys))
      | inr r ↦ Contains-rest (f y) (f x) (map f ys) (Contains-map f ys x r)
    ]

-- the members that a filter keeps
pub Contains-filter : {X : Type 0} (p : X → Bool) (xs : List X) (x : X) → Contains xs x → p x ≡ true
    → Contains (filter p xs) x
Contains-filter p [] x i t = absurd (Contains-none x i)
Contains-filter p (y ∷ ys) x i t =
    elim (Contains-cons_cases y x ys i) [
      | inl e ↦ rw (ap p e ∙ t) (subst (λ z. Contains (z ∷ filter p ys) x) (sym e) (Contains-first x (filter p ys)))
      | inr r ↦ elim (p y) as (λ b. Contains (cond b (y ∷ filter p ys) (filter p ys)) x) [
        | true ↦ Contains-rest y x _ (Contains-filter p ys x r t)
        | false ↦ Contains-filter p ys x r t
      ]
    ]

pub Contains-from_filter : {X : Type 0} (p : X → Bool) (xs : List X) (x : X) → Contains (filter p xs) x
    → Contains xs x × (p x ≡ true)
Contains-from_filter p [] x i = absurd (Contains-none x i)
Contains-from_filter {X} p (y ∷ ys) x i =
    elim (cases_Bool (p y)) [
      | inl t ↦
          let j : Contains (y ∷ filter p ys) x = subst (λ b. Contains (cond b (y ∷ filter p ys) (filter p ys)) x) t i in
          elim (Contains-cons_cases y x _ j) [
            | inl e ↦ (subst (λ z. Contains (z ∷ ys) x) (sym e) (Contains-first x ys), ap p (sym e) ∙ t)
            | inr r ↦ let h = Contains-from_filter p ys x r in (Contains-rest y x ys h.0, h.1)
          ]
      | inr f ↦
          let j : Contains (filter p ys) x = subst (λ b. Contains (cond b (y ∷ filter p ys) (filter p ys)) x) f i in
          let h = Contains-from_filter p ys x j in (Contains-rest y x ys h.0, h.1)
    ]

-- the other members stay when the member at one position is removed
pub Contains-remove : {X : Type 0} (xs : List X) (i : ℕ) (y x : X) → i < length xs → get_or xs i y ≡ y → Contains xs x
    → (y ≢ x) → Contains (remove xs i) x
Contains-remove xs i y x l here (k, m, e) apart =
    elim (cases_order k i) [
      | inl same ↦ absurd (apart (sym here ∙ get_or_default xs i y x l ∙ ap (λ n. get_or xs n x) (sym same) ∙ e))
      | inr (inl below) ↦ (k, omega (arith, length-remove xs i l), get_or-remove_below xs i x k below l ∙ e)
      | inr (inr above) ↦ (
        k - 1,
        omega (arith, length-remove xs i l),
        get_or-remove_above xs i x (k - 1) (omega arith) l
            ∙ ap (λ n. get_or xs n x) (let r : k - 1 + 1 ≡ k = omega arith in r) ∙ e,
      )
    ]
