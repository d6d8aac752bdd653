-- What the accepted items of a node say of its link in a past.
use Rattle.std.proofs.Common.{◌≡◌, ◌⊎◌, ℕ, ◌+◌, List, [], ◌∷◌, length, Bool, refl, ap, sym, ◌∙◌, subst, inl, inr, arith}
use Rattle.std.specs.Prelude.{Contains, ◌==◌}
use Rattle.std.proofs.lemmas.Bool.{cases_eq, cond-true, eq-eqb}
use Rattle.std.proofs.lemmas.List.Elements.{Contains-append_cases, Contains-append_left}
use Rattle.hlc_values.proofs.MemberLemmas.{Contains-none, Contains-first, Contains-rest, Contains-cons_cases}
use Rattle.hlc_rows.specs.declared.row.Row.{Row}
use Rattle.hlc_node.specs.declared.item.Item.{Item}
use Rattle.hlc_core.specs.Past.{Step, Began, Took, count, retired, writes, item_rows}
use Rattle.hlc_core.specs.Replicas.{items_of, begun}
use Rattle.hlc_core.proofs.PastLemmas.{retired-same, retired-other, count-other}
use Rattle.hlc_replicas.proofs.ReplicaLemmas.{items-same, items-other}
use Rattle.hlc_ranges.specs.Run.{ends_with, step_rows}

-- an item of a node was accepted
pub items-accepted : (past : List Step) (n : ℕ) (item : Item) → Contains (items_of n past) item
    → Contains past (Took item)
items-accepted [] n item m = absurd (Contains-none item m)
items-accepted (Took first ∷ past) n item m =
    elim (cases_eq first.node n) [
      | inl same ↦
          elim (Contains-cons_cases first item (items_of n past)
          (subst (λ xs. Contains xs item) (items-same n first past same) m)) [
            | inl is ↦ subst (λ x. Contains (Took first ∷ past) (Took x)) is (Contains-first (Took first) past)
            | inr rest ↦ Contains-rest _ _ past (items-accepted past n item rest)
          ]
      | inr other ↦ Contains-rest _ _ past
          (items-accepted past n item (subst (λ xs. Contains xs item) (items-other n first past other) m))
    ]
items-accepted (step ∷ past) n item m = Contains-rest _ _ past (items-accepted past n item m)

-- an accepted write is the row of an accepted item
pub record IsOfItem (past : List Step) (row : Row) : Type 0 where
  pub item : Item
  pub accepted : Contains past (Took item)
  pub of : Contains (item_rows item) row

pub of-more : (past : List Step) (step : Step) (row : Row) → IsOfItem past row → IsOfItem (step ∷ past) row
of-more past step row h =
    record { item = h.item; accepted = Contains-rest step (Took h.item) past h.accepted; of = h.of }

-- the rows of a step are those of its item
pub of-step : (past : List Step) (step : Step) (row : Row) → Contains (step_rows step) row → IsOfItem (step ∷ past) row
of-step past (Took item) row m = record { item = item; accepted = Contains-first (Took item) past; of = m }
of-step past step row m = absurd (Contains-none row m)

-- a write after a step is an old one, or that of the step
pub step-writes : (step : Step) (past : List Step) (row : Row) → begun (step ∷ []) ≡ []
    → Contains (writes (step ∷ past)) row → Contains (writes past) row ⊎ Contains (step_rows step) row
step-writes (Took item) past row none m = Contains-append_cases (writes past) (item_rows item) row m
step-writes (Began kept) past row none m = absurd (cc)
step-writes step past row none m = inl m

-- and an old write stays
pub step-keeps : (step : Step) (past : List Step) (row : Row) → Contains (writes past) row
    → Contains (writes (step ∷ past)) row
step-keeps (Took item) past row m = Contains-append_left (writes past) (item_rows item) row m
step-keeps (Began kept) past row m = Contains-append_left (writes past) kept.rows row m
step-keeps step past row m = m

-- no item of a link was accepted if none was
pub items-untaken : (past : List Step) (n : ℕ) → ((item : Item) → Contains past (Took item) → ⊥) → items_of n past ≡ []
items-untaken past n untaken = empty (items_of n past) refl
  where
    empty : (items : List Item) → items_of n past ≡ items → items ≡ []
    empty [] is = refl
    empty (item ∷ items) is = absurd (untaken item
        (items-accepted past n item (subst (λ xs. Contains xs item) (sym is) (Contains-first item items))))

-- the number of the accepted items of a node grows with them
pub count-step : (step : Step) (past : List Step) (n base : ℕ) → begun (step ∷ []) ≡ []
    → count n past ≡ base + length (items_of n past)
    → count n (step ∷ past) ≡ base + length (items_of n (step ∷ past))
count-step (Began kept) past n base none h = absurd (cc)
count-step (Took item) past n base none h =
    elim (cases_eq item.node n) [
      | inl same ↦
          let a : count n (Took item ∷ past) ≡ count n past + 1 =
          cond-true (item.node == n) (count n past + 1) (count n past) (eq-eqb _ _ same) in
          let b : length (items_of n (Took item ∷ past)) ≡ length (item ∷ items_of n past) =
          ap length (items-same n item past same) in
          let goal : count n (Took item ∷ past) ≡ base + length (items_of n (Took item ∷ past)) = omega arith in goal
      | inr other ↦
          let a : count n (Took item ∷ past) ≡ count n past = count-other n item past other in
          let b : length (items_of n (Took item ∷ past)) ≡ length (items_of n past) =
          ap length (items-other n item past other) in
          let goal : count n (Took item ∷ past) ≡ base + length (items_of n (Took item ∷ past)) = omega arith in goal
    ]
count-step step past n base none h = h

-- and the last of them says whether it has retired
pub retired-step : (step : Step) (past : List Step) (n : ℕ) (before : Bool) → begun (step ∷ []) ≡ []
    → retired n past ≡ ends_with before (items_of n past)
    → retired n (step ∷ past) ≡ ends_with before (items_of n (step ∷ past))
retired-step (Began kept) past n before none h = absurd (cc)
retired-step (Took item) past n before none h =
    elim (cases_eq item.node n) [
      | inl same ↦ retired-same n item past same ∙ sym (ap (ends_with before) (items-same n item past same))
      | inr other ↦ retired-other n item past other ∙ h
          ∙ sym (ap (ends_with before) (items-other n item past other))
    ]
retired-step step past n before none h = h
