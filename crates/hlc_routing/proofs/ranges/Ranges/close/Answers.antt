-- The store's step extends the run, or the store has no such snapshot.
use Rattle.std.proofs.{Common.refl, Common.subst, lemmas.Option.slice_get_read, lemmas.Option.slice_get_within}
use Rattle.hlc_core.specs.Calls.{Closes}
use Rattle.hlc_ranges.specs.Run.{past_of}
use Rattle.hlc_routing.specs.Ranges.{RangesView}
use Rattle.hlc_routing.proofs.{Accepting.closed, ranges.Ranges.close.Goals.in-Ok, ranges.Ranges.close.Goals.in-Err}
use Rattle.hlc_routing.proofs.ranges.Ranges.close.Goals as goal

pub returns-clause-represents : goal.returns-clause-represents
returns-clause-represents c = λ layout run h.
    let h' = rw (← c.self.view_is) at h in
    let lent = c.in-Some.ensures.item in
    let at = slice_get_read c.self.inside.stores.items _ c.args.store c.in-Some.core.now refl lent.3.0 lent.1 in
    let view : RangesView = record { division = c.self.inside.division; stores = c.self.inside.stores.items } in
    let closes = c.close.ensures.represents (past_of layout c.args.store run)
    (h'.pasts c.args.store c.in-Some.core.now at) in
    elim c.match-close.branch [
      | in-Ok w ↦ rw w.result-is (closed layout view run c.args.store c.in-Some.core.now c.close.new.self c.args.id _
          h' at
          (subst (λ r. Closes c.close.new.self c.args.id (past_of layout c.args.store run) r) w.in-Ok.is closes))
      | in-Err w ↦ rw (w.result-is, ← c.self.view_is) (
        slice_get_within view.stores c.args.store c.in-Some.core.now at,
        subst (λ r. Closes c.close.new.self c.args.id (past_of layout c.args.store run) r) w.in-Err.is closes,
        refl,
      )
    ]
