-- Each link of a core follows the items that it accepted.
use Rattle.std.proofs.Common.{◌≡◌, ℕ, zero, suc, ◌+◌, ◌<◌, List, [], ◌∷◌, ◌++◌, length, max, get_or, false, Some, None}
use Rattle.std.proofs.Common.{Option, Ok, Err, Result, refl, ap, sym, ◌∙◌, subst, inl, inr, arith}
use Rattle.std.specs.Prelude.{slice_get, slice_set, MatchOption, MatchResult}
use Rattle.std.proofs.lemmas.Option.{slice_get-get_or, slice_get_past}
use Rattle.std.proofs.lemmas.Bool.{cond-true, cond-false, eq-eqb, ne_eqb, le-leb, cases_lt, cases_eq}
use Rattle.hlc_node.specs.{declared.item.Item.Item, Items.body_refusal, Items.retires}
use Rattle.hlc_intake.specs.IntakeView.{IntakeView}
use Rattle.hlc_values.specs.declared.bounds.TheConstants.{NUMBER_BOUND}
use Rattle.hlc_heads.specs.Heads.{a_link, no_link, number_after}
use Rattle.hlc_events.specs.declared.fault.CoreFault.{CoreFault, TheVariants.NoNode}
use Rattle.hlc_core.specs.Past.{Step, Took, numbered, count, head, retired, item_rows, link_refusal, item_refusal}
use Rattle.hlc_core.specs.{StoreView.StoreView, StoreView.Represents, Calls.Checks}
use Rattle.hlc_core.proofs.PastLemmas.{admissible, on_link}

-- the link of a node, from the past
abbrev link_of : ℕ → List Step → IntakeView
link_of n past = a_link (count n past) (head n past) (retired n past)

pub get-append_left : (xs ys : List IntakeView) (i : ℕ) → i < length xs → slice_get (xs ++ ys) i ≡ slice_get xs i
get-append_left [] ys i h = absurd (omega arith)
get-append_left (x ∷ xs) ys zero h = refl
get-append_left (x ∷ xs) ys (suc i) h = get-append_left xs ys i (omega arith)

pub get-push : (xs : List IntakeView) (x : IntakeView) → slice_get (xs ++ x ∷ []) (length xs) ≡ Some x
get-push [] x = refl
get-push (y ∷ xs) x = get-push xs x

get-set_at : (links : List IntakeView) (i : ℕ) (link : IntakeView) → i < length links
    → slice_get (slice_set links i link) i ≡ Some link
get-set_at [] i link h = absurd (omega arith)
get-set_at (x ∷ links) zero link h = refl
get-set_at (x ∷ links) (suc i) link h = get-set_at links i link (omega arith)

get-set_other : (links : List IntakeView) (i k : ℕ) (link : IntakeView) → (k ≡ i → ⊥)
    → slice_get (slice_set links i link) k ≡ slice_get links k
get-set_other [] i k link other = refl
get-set_other (x ∷ links) zero zero link other = absurd (other refl)
get-set_other (x ∷ links) (suc i) (suc k) link other = get-set_other links i k link (λ e. other (ap suc e))
get-set_other (x ∷ links) _ _ link other = refl

-- the result of a look-up of an item's link
abbrev pub LooksUp : Option IntakeView → Item → Result Unit CoreFault → Type 0
LooksUp found item result =
    MatchOption found (result ≡ Err NoNode)
    (λ link. MatchResult result
    (λ _. link_refusal link.retired link.next link.head item ≡ None)
    (λ fault. link_refusal link.retired link.next link.head item ≡ Some fault))

-- what is true of an item that its link admits, whatever took place
pub record IsAdmitted (links : List IntakeView) (item : Item) : Type 0 where
  pub within : item.node < length links
  pub here : (get_or links item.node no_link).retired ≡ false
  pub number : item.number ≡ (get_or links item.node no_link).next
  pub rising : (get_or links item.node no_link).head < item.stamp
  pub limits : body_refusal item.body ≡ None
  pub after : number_after (get_or links item.node no_link).next ≡ item.number + 1

pub admitted : (links : List IntakeView) (item : Item) {done : Unit {0}}
    → LooksUp (slice_get links item.node) item (Ok done) → IsAdmitted links item
admitted links item {done} looked =
    elim (cases_lt item.node (length links)) [
      | inl below ↦
          let found = subst (λ o. LooksUp o item (Ok done)) (slice_get-get_or links item.node no_link below) looked in
          let is = admissible _ _ _ item found in record {
            within = below;
            here = is.here;
            number = is.number;
            rising = is.stamp;
            limits = is.limits;
            after = ap number_after (sym is.number) ∙ cond-false _ _ _ (ne_eqb item.number NUMBER_BOUND is.left);
          }
      | inr outside ↦
          absurd (let missed : ◌≡◌ {A = Result Unit CoreFault} (Ok done) (Err NoNode) =
          subst (λ o. LooksUp o item (Ok done)) (slice_get_past links item.node outside) looked in cc)
    ]

-- if the core represents a past, such an item is not refused there
pub admitted-expected : (kept : StoreView) (past : List Step) (item : Item) {done : Unit {0}} → Represents kept past
    → LooksUp (slice_get kept.links item.node) item (Ok done) → item_refusal past item ≡ None
admitted-expected kept past item {done} h looked =
    let within : item.node < length kept.links = (admitted kept.links item looked).within in
    let found = subst (λ o. LooksUp o item (Ok done)) (h.links.each item.node within) looked in
    on_link past item (let m = h.links.many in omega (arith, m)) ∙ found

-- and the fault is the expected refusal there
pub fault-expected : (kept : StoreView) (past : List Step) (item : Item) (fault : CoreFault) → Represents kept past
    → LooksUp (slice_get kept.links item.node) item (Err fault) → item_refusal past item ≡ Some fault
fault-expected kept past item fault h looked =
    elim (cases_lt item.node (length kept.links)) [
      | inl below ↦
          let found : LooksUp (Some (link_of item.node past)) item (Err fault) =
          subst (λ o. LooksUp o item (Err fault)) (h.links.each item.node below) looked in
          on_link past item (let m = h.links.many in omega (arith, m)) ∙ found
      | inr outside ↦
          let missed : ◌≡◌ {A = Result Unit CoreFault} (Err fault) (Err NoNode) =
          subst (λ o. LooksUp o item (Err fault)) (slice_get_past kept.links item.node outside) looked in
          cond-true _ _ _ (le-leb (numbered past) item.node (let m = h.links.many in omega (arith, m)))
          ∙ (let same : NoNode ≡ fault = cc in ap Some same)
    ]

-- so a check returns the expected refusal
pub checks : (kept : StoreView) (past : List Step) (item : Item) (result : Result Unit CoreFault) → Represents kept past
    → LooksUp (slice_get kept.links item.node) item result → Checks item past result
checks kept past item (Ok done) h looked = admitted-expected kept past item h looked
checks kept past item (Err fault) h looked = fault-expected kept past item fault h looked

pub links-took : (links : List IntakeView) (past : List Step) (item : Item) (number : ℕ)
    → number ≡ count item.node past → item.node < length links
    → ((n : ℕ) → n < length links → slice_get links n ≡ Some (link_of n past))
    → (n : ℕ) → n < length links
    → slice_get (slice_set links item.node (a_link (number + 1) item.stamp (retires item.body))) n
    ≡ Some (link_of n (Took item ∷ past))
links-took links past item number next within h n lt =
    elim (cases_eq item.node n) [
      | inl same ↦
          let hit = eq-eqb item.node n same in
          let link : ℕ → IntakeView = λ k. a_link (count k past + 1) item.stamp (retires item.body) in
          rw (hit, next) (subst (λ k. slice_get (slice_set links item.node (link item.node)) k ≡ Some (link k)) same
          (get-set_at links item.node (link item.node) within))
      | inr other ↦
          let miss = ne_eqb item.node n other in
          rw miss (get-set_other links item.node n _ (λ e. other (sym e)) ∙ h n lt)
    ]

abbrev pub after_item : StoreView → Item → StoreView
after_item kept item = record kept {
  links = slice_set kept.links item.node (a_link (item.number + 1) item.stamp (retires item.body));
  top = max kept.top item.stamp;
  rows = kept.rows ++ item_rows item;
}
