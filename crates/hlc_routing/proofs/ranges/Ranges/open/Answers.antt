-- The store's step extends the run, or the store refuses it.
use Rattle.std.proofs.{Common.refl, Common.subst, lemmas.Option.slice_get_read}
use Rattle.hlc_core.specs.Calls.{Opens}
use Rattle.hlc_ranges.specs.Run.{past_of}
use Rattle.hlc_routing.{specs.Ranges.RangesView, proofs.Accepting.opened, proofs.Accepting.not-opened}
use Rattle.hlc_routing.proofs.ranges.Ranges.open.Goals.{in-Ok, in-Err}
use Rattle.hlc_routing.proofs.ranges.Ranges.open.Goals as goal

pub returns-clause-represents : goal.returns-clause-represents
returns-clause-represents c = λ layout run h.
    let h' = rw (← c.self.view_is) at h in
    let lent = c.in-Some.ensures.item in
    let at = slice_get_read c.self.inside.stores.items _ c.args.store c.in-Some.core.now refl lent.3.0 lent.1 in
    let view : RangesView = record { division = c.self.inside.division; stores = c.self.inside.stores.items } in
    let opens = c.open.ensures.represents (past_of layout c.args.store run) (h'.pasts c.args.store
    c.in-Some.core.now at) in
    elim c.match-open.branch [
      | in-Ok w ↦ rw w.result-is (opened layout view run c.args.store c.in-Some.core.now c.open.new.self c.args.stamp _
          h' at
          (subst (λ r. Opens c.open.new.self c.args.stamp (past_of layout c.args.store run) r)
          w.in-Ok.is opens))
      | in-Err w ↦ rw (w.result-is, ← c.self.view_is) (not-opened layout view view run c.args.store c.in-Some.core.now
          c.open.new.self c.args.stamp _ h' at
          (subst (λ r. Opens c.open.new.self c.args.stamp (past_of layout c.args.store run) r)
          w.in-Err.is opens))
    ]
