-- The store's step extends the run, or the store refuses the item.
use Rattle.std.proofs.{Common.◌∷◌, Common.refl, Common.subst, Common.rules, lemmas.Option.slice_get_read}
use Rattle.std.specs.Prelude.{OnOk, IfErr}
use Rattle.hlc_core.specs.Past.{Took}
use Rattle.hlc_ranges.specs.Run.{Stepped, past_of}
use Rattle.hlc_routing.specs.Ranges.{RangesView, Represents, IsOfStore, IsRefusedFor, HasTaken}
use Rattle.hlc_routing.specs.declared.fault.RangesFault.TheVariants.{Store}
use Rattle.hlc_routing.proofs.{Stepping.with_store, Accepting.accepted, Accepting.refused, Accepting.taken}
use Rattle.hlc_routing.proofs.ranges.Ranges.accept.Goals.{in-Ok, in-Err}
use Rattle.hlc_routing.proofs.ranges.Ranges.accept.Goals as goal

pub returns-clause-represents : goal.returns-clause-represents
returns-clause-represents c = λ layout run h issued'.
    let h' = rw (← c.self.view_is) at h in
    let lent = c.in-Some.ensures.item in
    let at = slice_get_read c.self.inside.stores.items _ c.args.store c.in-Some.core.now refl lent.3.0 lent.1 in
    let view : RangesView = record { division = c.self.inside.division; stores = c.self.inside.stores.items } in
    let all' = accepted layout view run c.args.store c.in-Some.core.now c.accept.new.self c.args.item c.accept.result
    h' at
    (c.accept.ensures.represents (past_of layout c.args.store run) (h'.pasts c.args.store
    c.in-Some.core.now at)) issued' in
    elim c.match-accept.branch [
      | in-Ok w ↦ rw w.result-is (subst (λ r. OnOk r (Represents layout
          (with_store view c.args.store c.accept.new.self) (Stepped c.args.store (Took c.args.item) ∷ run)))
          w.in-Ok.is all')
      | in-Err w ↦ rw w.result-is tt
    ]

pub returns-clause-err : goal.returns-clause-err
returns-clause-err c =
    let lent = c.in-Some.ensures.item in
    let at = slice_get_read c.self.inside.stores.items _ c.args.store c.in-Some.core.now refl lent.3.0 lent.1 in
    let of : IsOfStore c.self.inside.division c.args.store c.args.item.body = search rules in
    let view : RangesView = record { division = c.self.inside.division; stores = c.self.inside.stores.items } in
    let all' = refused view c.args.store c.in-Some.core.now c.accept.new.self c.args.item c.accept.result at of
    c.accept.ensures.represents in
    elim c.match-accept.branch [
      | in-Ok w ↦ rw w.result-is tt
      | in-Err w ↦ rw (w.result-is, ← c.self.view_is)
          (subst (λ r. IfErr r (λ fault. IsRefusedFor view c.args.store c.args.item (Store fault.0))) w.in-Err.is all')
    ]

pub returns-clause-takes : goal.returns-clause-takes
returns-clause-takes c =
    let lent = c.in-Some.ensures.item in
    let at = slice_get_read c.self.inside.stores.items _ c.args.store c.in-Some.core.now refl lent.3.0 lent.1 in
    let view : RangesView = record { division = c.self.inside.division; stores = c.self.inside.stores.items } in
    let all' = taken view c.args.store c.in-Some.core.now c.accept.new.self c.args.item c.accept.result at
    c.accept.ensures.represents in
    elim c.match-accept.branch [
      | in-Ok w ↦ rw (w.result-is, ← c.self.view_is) (subst (λ r. OnOk r (HasTaken view
          (with_store view c.args.store c.accept.new.self) c.args.store c.args.item)) w.in-Ok.is all')
      | in-Err w ↦ rw w.result-is tt
    ]
