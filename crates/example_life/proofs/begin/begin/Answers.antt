-- Both halves were restored, and the machine goes on from the checkpoint's links.
use Rattle.std.proofs.Common.{List, [], ◌∷◌, ◌++◌, ap, ap₂, ◌∙◌, sym, subst, arith}
use Rattle.hlc.specs.Store.{StoreView, Began, Represents}
use Rattle.hlc.specs.Ranges.{RangesView, MachineView, DivisionView, IsMachineOf, halves_of}
use Rattle.hlc_intake.specs.IntakeView.{IntakeView}
use Rattle.example_life.specs.Life.{GoesOnFrom}
use Rattle.example_life.proofs.Beginning.{both-restored, clocks, first_layout, first-machine, have-begun}
use Rattle.example_life.proofs.begin.begin.Goals as goal

pub returns-in-Some : goal.returns-in-Some
returns-in-Some c =
    let kept = c.args.kept in
    let bound = c.args.bound.now in
    let low = c.in_ok-restored in
    let high = c.in_ok-restored-2 in
    let parts = c.in_ok-below.ensures in
    let stores = c.in_ok-push-2.ensures.items
    ∙ ap (λ (xs : List StoreView). xs ++ high.field-0 ∷ [])
    (c.in_ok-push.ensures.items ∙ ap (λ (xs : List StoreView). xs ++ low.field-0 ∷ []) c.new-stores.ensures.items) in
    let is = c.in-Some.ensures.ok
    ∙ ap₂ (λ (d : DivisionView) (xs : List StoreView). record { division = d; stores = xs }) c.in_ok-divided_at.ensures
    stores in
    let restored = both-restored bound kept low.field-0 high.field-0 _
    (subst (λ (s : StoreView). Represents low.field-0 (Began s ∷ [])) parts.below low.ensures.began)
    (subst (λ (s : StoreView). Represents high.field-0 (Began s ∷ [])) parts.rest high.ensures.began) is in
    let law = c.parts_begin_ranges.ensures in
    let states = law.halves kept bound (λ s n. n) (clocks kept) c.in-None.ensures (λ s n. omega arith) in
    have-begun bound kept c.args.number _ _
    (law.restored (halves_of kept bound) _ (λ s n. n) (clocks kept) states restored)
    (subst (λ (m : MachineView). IsMachineOf (first_layout bound kept) [] c.args.number m)
    (sym c.in_ok-machine.ensures)
    (c.first_machines_begin_a_run.ensures (first_layout bound kept) c.args.number _
    (first-machine bound kept c.args.number c.in_ok-node.node
    (subst (λ (xs : List IntakeView). GoesOnFrom xs c.args.number c.in_ok-node.node) c.links.ensures
    c.in_ok-node.ensures))))
    (ap (λ (r : RangesView). r.division) is)
