-- A witness that is a change, and above those before it, has no fault, since each fault denies one of the two; so among
-- ascending changes none has one.
use Rattle.std.proofs.Common.{All, length, get_or, sym, ap, ◌∙◌, subst, arith, ◌≡◌, ◌<◌, ◌++◌, ℕ, List, ◌∷◌}
use Rattle.std.proofs.Common.{length-append, inl, inr}
use Rattle.std.proofs.{Math.Seq.get_or-append_seam, lemmas.List.get_or_append_left, lemmas.Map.Keys.Less-from_sorted}
use Rattle.hlc_rows.specs.declared.row.Row.{Row}
use Rattle.hlc_witness.specs.Changes.{ChangesAscend, IsChange, change_cmp}
use Rattle.hlc_witness.specs.Reasons.{IsAbove, IsFault}
use Rattle.hlc_witness.specs.declared.{reason.NotShown.NotShown, witness.Witness.Witness}

change_no_fault : (rows : List Row) (points : List ℕ) (front : List Witness) (witness : Witness) (reason : NotShown)
    → IsAbove front witness → IsChange rows points witness → IsFault rows points front witness reason → ⊥
change_no_fault rows points front witness reason above is (inl fault) = fault.0 above
change_no_fault rows points front witness reason above is (inr (_, inl fault)) = fault.0 is.place
change_no_fault rows points front witness reason above is (inr (_, inr fault)) = is.differs fault.1.0

-- in an ascending list each is above those before it
front_below : (front back : List Witness) (witness : Witness) → ChangesAscend (front ++ witness ∷ back)
    → IsAbove front witness
front_below front back witness up k d lt =
    let within : length front < length (front ++ witness ∷ back) =
    omega (arith, length-append front (witness ∷ back)) in
    ap (λ (w : Witness). change_cmp w witness) (sym (get_or_append_left front (witness ∷ back) d k lt))
    ∙ ap (change_cmp (get_or (front ++ witness ∷ back) k d)) (sym (get_or-append_seam front witness back d))
    ∙ Less-from_sorted change_cmp (front ++ witness ∷ back) k (length front) d up lt within

pub changes_no_fault : (rows : List Row) (points : List ℕ) (all front back : List Witness) (witness : Witness)
    (reason : NotShown) → all ≡ front ++ witness ∷ back → ChangesAscend all → All (IsChange rows points) all
    → IsFault rows points front witness reason → ⊥
changes_no_fault rows points all front back witness reason is up each =
    let within : length front < length (front ++ witness ∷ back) =
    omega (arith, length-append front (witness ∷ back)) in
    let each_here : All (IsChange rows points) (front ++ witness ∷ back) =
    subst (All (IsChange rows points)) is each in
    change_no_fault rows points front witness reason (front_below front back witness (subst ChangesAscend is up))
    (subst (IsChange rows points) (get_or-append_seam front witness back witness)
    (each_here (length front) witness within))
