-- The item that is found is the issued one, and the store takes a copy of it.
use Rattle.std.{proofs.Common.◌∙◌, proofs.Common.sym, proofs.Common.ap, proofs.Common.refl, specs.Prelude.slice_get}
use Rattle.std.proofs.lemmas.Option.{slice_get_read, slice_get_within}
use Rattle.hlc_world.specs.{Store.core_past, declared.reply.Reply.TheVariants.Refused}
use Rattle.hlc_world.proofs.StoreEvents.{found, answered, reply_of}
use Rattle.hlc_world.proofs.world.World.deliver.Goals.{in-Ok, in-Err}
use Rattle.hlc_world.proofs.world.World.deliver.Goals as goal

pub returns-clause-represents : goal.returns-clause-represents
returns-clause-represents c = λ nodes s h.
    let h' = rw (← c.self.view_is) at h in
    let l = c.in-Some.ensures.lookup in
    let node = ap (λ xs. slice_get xs c.args.node) (sym c.as_slice.ensures.value)
    ∙ slice_get_read c.as_slice.result.now _ c.args.node c.in-Some.issuer.now refl l.3.0 l.1 in
    let inside = slice_get_within c.self.inside.nodes.items c.args.node c.in-Some.issuer.now node in
    let at = found nodes _ s c.args.node c.args.number c.in-Some.issuer.now c.in-Some-item.item.now h' inside node
    c.in-Some-item.ensures in
    let all' = answered nodes _ s c.args.node c.args.number c.in-Some-item.item.now h' at c.accept.new.core
    c.accept.result (c.accept.ensures.represents (core_past nodes s) h'.core) in
    elim c.match-accept.branch [
      | in-Ok w ↦ rw (w.result-is ∙ sym (ap reply_of w.in-Ok.is)) all'
      | in-Err w ↦ rw (w.result-is ∙ ap Refused w.from.ensures ∙ sym (ap reply_of w.in-Err.is)) all'
    ]
