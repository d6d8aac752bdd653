-- Lists that are read and written at one index.
use Rattle.std.proofs.Common.{◌≡◌, ℕ, zero, suc, ◌<◌, ◌⊎◌, List, [], ◌∷◌, ◌++◌, length, Some, refl, ap, sym, inl, inr}
use Rattle.std.proofs.Common.{arith}
use Rattle.std.{specs.Prelude.slice_get, specs.Prelude.slice_set, proofs.lemmas.Option.same_Some}

module _ {X : Type 0} where
  pub get-set_at : (xs : List X) (i : ℕ) (x : X) → i < length xs → slice_get (slice_set xs i x) i ≡ Some x
  get-set_at [] i x h = absurd (omega arith)
  get-set_at (y ∷ ys) zero x h = refl
  get-set_at (y ∷ ys) (suc i) x h = get-set_at ys i x (omega arith)

  pub get-set_other : (xs : List X) (i k : ℕ) (x : X) → (k ≡ i → ⊥) → slice_get (slice_set xs i x) k ≡ slice_get xs k
  get-set_other [] i k x other = refl
  get-set_other (y ∷ ys) zero zero x other = absurd (other refl)
  get-set_other (y ∷ ys) zero (suc k) x other = refl
  get-set_other (y ∷ ys) (suc i) zero x other = refl
  get-set_other (y ∷ ys) (suc i) (suc k) x other = get-set_other ys i k x (λ e. other (ap suc e))

  -- to write the element that is already there changes nothing
  pub set-same : (xs : List X) (i : ℕ) (x : X) → slice_get xs i ≡ Some x → slice_set xs i x ≡ xs
  set-same [] i x h = refl
  set-same (y ∷ ys) zero x h = ap (λ z. z ∷ ys) (sym (same_Some y x h))
  set-same (y ∷ ys) (suc i) x h = ap (λ zs. y ∷ zs) (set-same ys i x h)

  pub get-append_left : (xs ys : List X) (i : ℕ) → i < length xs → slice_get (xs ++ ys) i ≡ slice_get xs i
  get-append_left [] ys i h = absurd (omega arith)
  get-append_left (x ∷ xs) ys zero h = refl
  get-append_left (x ∷ xs) ys (suc i) h = get-append_left xs ys i (omega arith)

  pub get-push : (xs : List X) (x : X) → slice_get (xs ++ x ∷ []) (length xs) ≡ Some x
  get-push [] x = refl
  get-push (y ∷ ys) x = get-push ys x

  -- an element after a push is an old one or that one
  pub push-cases : (xs : List X) (y x : X) (i : ℕ) → slice_get (xs ++ y ∷ []) i ≡ Some x
      → (slice_get xs i ≡ Some x) ⊎ ((i ≡ length xs) × (y ≡ x))
  push-cases [] y x zero h = inr (refl, same_Some y x h)
  push-cases [] y x (suc i) h = absurd (cc)
  push-cases (z ∷ zs) y x zero h = inl h
  push-cases (z ∷ zs) y x (suc i) h =
      elim (push-cases zs y x i h) [ inl old ↦ inl old | inr last ↦ inr (ap suc last.0, last.1) ]
