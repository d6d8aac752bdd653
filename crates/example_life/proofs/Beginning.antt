-- The halves of a checkpoint begin a run, and so does a machine of one of its nodes, which is in both.
use Rattle.std.proofs.Common.{◌≡◌, ℕ, zero, suc, ◌<◌, false, List, [], ◌∷◌, Some, length, refl, ap, sym, ◌∙◌}
use Rattle.std.proofs.Common.{subst, arith, slice_get}
use Rattle.std.proofs.lemmas.Option.{get_or_from_slice_get, slice_get_within}
use Rattle.hlc.specs.Node.{NodeView}
use Rattle.hlc.specs.Store.{StoreView, Began, Represents as CoreRepresents}
use Rattle.hlc.specs.Ranges.{Layout, RangesView, MachineView, Represents, ByKeys, IsMachineOf, layout_from, halves_of}
use Rattle.hlc.specs.Ranges.{AreRestored, IsFirstNode, IsFirstMachine, part_of, is_under, is_from}
use Rattle.hlc_intake.specs.IntakeView.{IntakeView}
use Rattle.hlc_heads.specs.Heads.{a_link}
use Rattle.hlc_core.specs.Past.{link_in}
use Rattle.example_life.specs.Life.{HaveGoneOn, GoesOnFrom}

-- what both of two values are
each-of_two : {X : Type 0} (P : ℕ → X → Type 0) (a b : X) → P 0 a → P 1 b → (s : ℕ) (x : X)
    → slice_get (a ∷ b ∷ []) s ≡ Some x → P s x
each-of_two P a b p q zero x e = let same : a ≡ x = cc in subst (P 0) same p
each-of_two P a b p q (suc zero) x e = let same : b ≡ x = cc in subst (P 1) same q
each-of_two P a b p q (suc (suc s)) x e = absurd (cc)

-- each machine has the nodes of one number, and its clock is at the head of their links
abbrev pub clocks : StoreView → ℕ → ℕ
clocks kept n = (link_in kept n).head

abbrev pub first_layout : List ℕ → StoreView → Layout
first_layout bound kept = layout_from (halves_of kept bound) (λ s n. n) (clocks kept)

pub both-restored : (bound : List ℕ) (kept low high : StoreView) (ranges : RangesView)
    → CoreRepresents low (Began (part_of (is_under bound) kept) ∷ [])
    → CoreRepresents high (Began (part_of (is_from bound) kept) ∷ [])
    → ranges ≡ record { division = ByKeys (bound ∷ []); stores = low ∷ high ∷ [] }
    → AreRestored (halves_of kept bound) ranges
both-restored bound kept low high ranges l h is =
    subst (AreRestored (halves_of kept bound)) (sym is)
    (record {
      division = refl;
      many = refl;
      pasts = λ s state store e there.
          each-of_two (λ t a. slice_get (low ∷ high ∷ []) t ≡ Some store → CoreRepresents store (Began a ∷ []))
          (part_of (is_under bound) kept) (part_of (is_from bound) kept)
          (λ first. (let same : low ≡ store = cc in rw same at l))
          (λ second. (let same : high ≡ store = cc in rw same at h)) s state e there;
    })

pub first-machine : (bound : List ℕ) (kept : StoreView) (number : ℕ) (node : NodeView)
    → GoesOnFrom kept.links number node
    → IsFirstMachine (first_layout bound kept) number (record { last = node.last; nodes = node ∷ node ∷ [] })
first-machine bound kept number node from =
    let layout : Layout = first_layout bound kept in
    let link : IntakeView = from.link in
    let made : NodeView = record { id = number; last = link.head; next = link.next; retired = false } in
    let is : link_in kept number ≡ link =
    get_or_from_slice_get kept.links number link (a_link 0 0 false) from.at in
    let inside : number < length kept.links = slice_get_within kept.links number link from.at in
    let next : made.next ≡ (link_in kept number).next = sym (ap (λ (l : IntakeView). l.next) is) in
    let gone : made.retired ≡ (link_in kept number).retired =
    sym (ap (λ (l : IntakeView). l.retired) is ∙ from.active) in
    let head : clocks kept number ≡ made.last = ap (λ (l : IntakeView). l.head) is in
    subst (λ (n : NodeView). IsFirstMachine layout number (record { last = n.last; nodes = n ∷ n ∷ [] })) (sym from.is)
    (record {
      many = refl;
      nodes = each-of_two (IsFirstNode layout) made made (record { inside = inside; next = next; retired = gone })
          (record { inside = inside; next = next; retired = gone });
      machines = each-of_two (λ _ n. n.id ≡ number) made made refl refl;
      clock = omega (arith, head);
    })

pub have-begun : (bound : List ℕ) (kept : StoreView) (number : ℕ) (ranges : RangesView) (machine : MachineView)
    → Represents (first_layout bound kept) ranges [] → IsMachineOf (first_layout bound kept) [] number machine
    → ranges.division ≡ ByKeys (bound ∷ []) → HaveGoneOn kept.rows bound [] ranges machine
have-begun bound kept number ranges machine represents writes divided = record {
  layout = first_layout bound kept;
  run = [];
  number = number;
  represents = represents;
  writes = writes;
  two = refl;
  own = λ s n. refl;
  divided = divided;
  issued = refl;
}
