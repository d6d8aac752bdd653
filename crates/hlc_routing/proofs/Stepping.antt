-- A step of one store extends the run: the others, and their pasts, stay.
use Rattle.std.proofs.Common.{◌≡◌, ℕ, zero, suc, ◌<◌, ◌≤◌, List, [], ◌∷◌, ◌++◌, length, Some, set, refl, ap, sym, ◌∙◌}
use Rattle.std.proofs.Common.{subst, inl, inr, arith, length-set}
use Rattle.std.{specs.Prelude.slice_get, proofs.lemmas.Bool.cases_eq, proofs.lemmas.Option.slice_get_within}
use Rattle.hlc_core.specs.Past.{Step, Started, Began, Took, Opened, Closed, Vacuumed, PartVacuumed, Joined, numbered}
use Rattle.hlc_core.specs.Past.{IsLegal as IsLegalPast}
use Rattle.hlc_core.specs.{Replicas.begun, StoreView.StoreView, StoreView.Represents as CoreRepresents}
use Rattle.hlc_ranges.specs.Run.{Layout, Turn, Stepped, past_of, IsIssuedStep}
use Rattle.hlc_ranges.proofs.TurnLemmas.{past-same, past-other}
use Rattle.hlc_routing.specs.Ranges.{RangesView, Represents}

pub get-set_same : {X : Type 0} (xs : List X) (i : ℕ) (y : X) → i < length xs → slice_get (set xs i y) i ≡ Some y
get-set_same [] i y within = absurd (omega arith)
get-set_same (x ∷ xs) zero y within = refl
get-set_same (x ∷ xs) (suc i) y within = get-set_same xs i y (omega arith)

pub get-set_other : {X : Type 0} (xs : List X) (i j : ℕ) (y : X) → (i ≡ j → ⊥)
    → slice_get (set xs i y) j ≡ slice_get xs j
get-set_other [] i j y other = refl
get-set_other (x ∷ xs) zero zero y other = absurd (other refl)
get-set_other (x ∷ xs) zero (suc j) y other = refl
get-set_other (x ∷ xs) (suc i) zero y other = refl
get-set_other (x ∷ xs) (suc i) (suc j) y other = get-set_other xs i j y (λ e. other (ap suc e))

pub get-some : {X : Type 0} (xs : List X) (i : ℕ) → i < length xs → (x : X) × (slice_get xs i ≡ Some x)
get-some [] i within = absurd (omega arith)
get-some (x ∷ xs) zero within = (x, refl)
get-some (x ∷ xs) (suc i) within = get-some xs i (omega arith)

pub get-push_before : {X : Type 0} (xs : List X) (y : X) (i : ℕ) → i < length xs
    → slice_get (xs ++ y ∷ []) i ≡ slice_get xs i
get-push_before [] y i within = absurd (omega arith)
get-push_before (x ∷ xs) y zero within = refl
get-push_before (x ∷ xs) y (suc i) within = get-push_before xs y i (omega arith)

pub get-push_here : {X : Type 0} (xs : List X) (y : X) (i : ℕ) → length xs ≡ i → slice_get (xs ++ y ∷ []) i ≡ Some y
get-push_here [] y zero e = refl
get-push_here [] y (suc i) e = absurd (omega arith)
get-push_here (x ∷ xs) y zero e = absurd (omega arith)
get-push_here (x ∷ xs) y (suc i) e = get-push_here xs y i (omega arith)

pub some-same : {X : Type 0} (x y : X) → Some x ≡ Some y → x ≡ y
some-same x y e = cc

-- no step takes a number back, but for a state
pub numbered-grows : (step : Step) (past : List Step) → begun (step ∷ []) ≡ []
    → numbered past ≤ numbered (step ∷ past)
numbered-grows (Started nodes) past none = omega arith
numbered-grows (Began kept) past none = absurd (cc)
numbered-grows (Took item) past none = omega arith
numbered-grows (Opened stamp) past none = omega arith
numbered-grows (Closed id) past none = omega arith
numbered-grows (Vacuumed at) past none = omega arith
numbered-grows (PartVacuumed at dropped) past none = omega arith
numbered-grows (Joined node start) past none = omega arith

-- and before a state there are no numbers
pub numbered-legal : (step : Step) (past : List Step) → IsLegalPast (step ∷ past)
    → numbered past ≤ numbered (step ∷ past)
numbered-legal (Started nodes) past legal = omega arith
numbered-legal (Began kept) past legal =
    let none : numbered past ≡ 0 = ap numbered legal.0 in
    let goal : numbered past ≤ numbered (Began kept ∷ past) = omega arith in goal
numbered-legal (Took item) past legal = omega arith
numbered-legal (Opened stamp) past legal = omega arith
numbered-legal (Closed id) past legal = omega arith
numbered-legal (Vacuumed at) past legal = omega arith
numbered-legal (PartVacuumed at dropped) past legal = omega arith
numbered-legal (Joined node start) past legal = omega arith

pub numbered-later : (layout : Layout) (run : List Turn) (s t : ℕ) (step : Step)
    → numbered (past_of layout s run) ≤ numbered (step ∷ past_of layout s run)
    → numbered (past_of layout t run) ≤ numbered (past_of layout t (Stepped s step ∷ run))
numbered-later layout run s t step grows =
    elim (cases_eq s t) [
      | inl e ↦ subst (λ past. numbered (past_of layout t run) ≤ numbered past) (sym (past-same layout t s step run e))
          (subst (λ k. numbered (past_of layout k run) ≤ numbered (step ∷ past_of layout k run)) e grows)
      | inr e ↦ subst (λ past. numbered (past_of layout t run) ≤ numbered past) (sym (past-other layout t s step run e))
          (omega arith)
    ]

-- the stores after one of them changed
abbrev pub with_store : RangesView → ℕ → StoreView → RangesView
with_store old s new = record { division = old.division; stores = set old.stores s new }

-- what a store represents after a step, the stores represent after the same step of it
pub steps : (layout : Layout) (old : RangesView) (run : List Turn) (s : ℕ) (store new : StoreView) (step : Step)
    → Represents layout old run → slice_get old.stores s ≡ Some store
    → CoreRepresents new (step ∷ past_of layout s run) → IsIssuedStep s step run
    → Represents layout (with_store old s new) (Stepped s step ∷ run)
steps layout old run s store new step h at represents issued' =
    let inside : s < length old.stores = slice_get_within old.stores s store at in
    let many : length old.stores ≡ layout.stores = h.many in
    record {
      legal = ((omega arith, represents.legal, issued'), h.legal);
      many = length-set old.stores s new ∙ many;
      pasts = λ t other there.
          elim (cases_eq s t) [
            | inl e ↦
                (let is : new ≡ other = some-same new other
                (sym (get-set_same old.stores s new inside) ∙ ap (slice_get (set old.stores s new)) e ∙ there) in
                subst (λ x. CoreRepresents x (past_of layout t (Stepped s step ∷ run))) is
                (subst (λ p. CoreRepresents new p) (sym (past-same layout t s step run e))
                (subst (λ k. CoreRepresents new (step ∷ past_of layout k run)) e represents)))
            | inr e ↦ subst (λ p. CoreRepresents other p) (sym (past-other layout t s step run e))
                (h.pasts t other (sym (get-set_other old.stores s t new e) ∙ there))
          ];
      routed = h.routed;
    }
