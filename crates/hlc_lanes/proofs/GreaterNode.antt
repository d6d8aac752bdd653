-- The greatest node of one more position: the greater of the two if the position has the stamp, and the earlier one
-- otherwise.
use Rattle.std.proofs.Common.{◌≡◌, ℕ, ◌+◌, ◌<◌, ◌≤◌, ◌∙◌, sym, max, get_or, subst, List, Option, Some, None, arith, inl}
use Rattle.std.proofs.Common.{inr}
use Rattle.std.{specs.Prelude.unwrap_or, proofs.lemmas.Bool.cases_lt, proofs.lemmas.Bool.cases_eq}
use Rattle.hlc_lanes.specs.Places.{IsGreatestNodeBelow}

more : (P : ℕ → Type 0) (i : ℕ) → ((k : ℕ) → k < i → P k) → P i → (k : ℕ) → k < i + 1 → P k
more P i below here k lt =
    elim (cases_eq k i) [
      | inl same ↦ subst P (sym same) here
      | inr other ↦ below k (omega (arith, other))
    ]

yes : (stamps nodes : List ℕ) (stamp i : ℕ) (best : Option ℕ)
    → IsGreatestNodeBelow stamps nodes stamp i best → get_or stamps i 0 ≡ stamp
    → IsGreatestNodeBelow stamps nodes stamp (i + 1) (Some (max (unwrap_or best 0) (get_or nodes i 0)))
yes stamps nodes stamp i None before here = (
  (i, omega arith, here, omega arith),
  more (λ k. get_or stamps k 0 ≡ stamp → get_or nodes k 0 ≤ max 0 (get_or nodes i 0)) i
      (λ k below is. absurd (before k below is)) (λ is. omega arith),
)
yes stamps nodes stamp i (Some best) (found, most) here = (
  elim (cases_lt best (get_or nodes i 0)) [
    | inl larger ↦ (i, omega arith, here, omega arith)
    | inr smaller ↦ (found.0, omega (arith, found.1), found.2, found.3 ∙ omega arith)
  ],
  more (λ k. get_or stamps k 0 ≡ stamp → get_or nodes k 0 ≤ max best (get_or nodes i 0)) i
      (λ k below is. omega (arith, most k below is)) (λ is. omega arith),
)

pub node_yes : (stamps nodes : List ℕ) (stamp i : ℕ) (best next : Option ℕ)
    → IsGreatestNodeBelow stamps nodes stamp i best → get_or stamps i 0 ≡ stamp
    → next ≡ Some (max (unwrap_or best 0) (get_or nodes i 0)) → IsGreatestNodeBelow stamps nodes stamp (i + 1) next
node_yes stamps nodes stamp i best next before here is =
    subst (λ (o : Option ℕ). IsGreatestNodeBelow stamps nodes stamp (i + 1) o) (sym is)
    (yes stamps nodes stamp i best before here)

no : (stamps nodes : List ℕ) (stamp i : ℕ) (best : Option ℕ) → IsGreatestNodeBelow stamps nodes stamp i best
    → (get_or stamps i 0 ≡ stamp → ⊥) → IsGreatestNodeBelow stamps nodes stamp (i + 1) best
no stamps nodes stamp i None before other = more (λ k. get_or stamps k 0 ≡ stamp → ⊥) i before other
no stamps nodes stamp i (Some best) (found, most) other = (
  (found.0, omega (arith, found.1), found.2, found.3),
  more (λ k. get_or stamps k 0 ≡ stamp → get_or nodes k 0 ≤ best) i most (λ is. absurd (other is)),
)

pub node_no : (stamps nodes : List ℕ) (stamp i : ℕ) (best next : Option ℕ)
    → IsGreatestNodeBelow stamps nodes stamp i best → (get_or stamps i 0 ≡ stamp → ⊥) → next ≡ best
    → IsGreatestNodeBelow stamps nodes stamp (i + 1) next
node_no stamps nodes stamp i best next before other is =
    subst (λ (o : Option ℕ). IsGreatestNodeBelow stamps nodes stamp (i + 1) o) (sym is)
    (no stamps nodes stamp i best before other)
