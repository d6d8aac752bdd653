-- The node sees the stamp of the message, which is stored under the message's number.
use Rattle.std.proofs.Common.{◌≡◌, refl, sym, ◌∙◌, ap, Some}
use Rattle.std.{proofs.lemmas.Option.slice_get_read, specs.Prelude.slice_get}
use Rattle.hlc_world.specs.declared.reply.Reply.TheVariants.{Received}
use Rattle.hlc_world.proofs.Nodes.{message-there, receive-is, sees, sees_not}
use Rattle.hlc_world.proofs.world.World.receive.Goals.{in-Ok, in-Err}
use Rattle.hlc_world.proofs.world.World.receive.Goals as goal

pub returns-clause-represents : goal.returns-clause-represents
returns-clause-represents c = λ nodes s h.
    let h' = rw (← c.self.view_is) at h in
    let lent = c.in-Some.ensures.item in
    let at = slice_get_read c.self.inside.nodes.items _ c.args.node c.in-Some.issuer.now refl lent.3.0 lent.1 in
    let l = c.in-Some-get.ensures.lookup in
    let kept : slice_get c.self.inside.sent_stamps.items c.args.message ≡ Some c.in-Some-get.sent.now =
    ap (λ xs. slice_get xs c.args.message) (sym c.as_slice.ensures.value)
    ∙ slice_get_read c.as_slice.result.now _ c.args.message c.in-Some-get.sent.now refl l.3.0 l.1 in
    let is = receive-is nodes s c.args.node c.args.reading c.args.message c.in-Some-get.sent.now
    (message-there nodes _ s c.args.message _ h' kept) in
    elim c.match-see.branch [
      | in-Ok w ↦ rw w.result-is (sees nodes _ s c.args.node c.in-Some.issuer.now h' lent.3.0 at _ Received
          c.in-Some-get.sent.now c.args.reading w.in-Ok.stamp c.see.new.self is w.in-Ok.ensures)
      | in-Err w ↦ rw w.result-is (sees_not nodes _ s c.args.node c.in-Some.issuer.now h' lent.3.0 at _ Received
          c.in-Some-get.sent.now c.args.reading c.see.new.self _ is w.in-Err.ensures)
    ]
