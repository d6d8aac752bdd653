-- The node sees the stamp of the open snapshot.
use Rattle.std.proofs.{Common.◌≡◌, Common.refl, Common.sym, Common.Some, lemmas.Option.slice_get_read}
use Rattle.hlc_core.specs.Past.{stamp_of}
use Rattle.hlc_world.specs.{Store.core_past, declared.reply.Reply.TheVariants.Observed}
use Rattle.hlc_world.proofs.Nodes.{observe-is, sees, sees_not}
use Rattle.hlc_world.proofs.world.World.observe.Goals.{in-Ok, in-Err}
use Rattle.hlc_world.proofs.world.World.observe.Goals as goal

pub returns-clause-represents : goal.returns-clause-represents
returns-clause-represents c = λ nodes s h.
    let h' = rw (← c.self.view_is) at h in
    let lent = c.in-Some.ensures.item in
    let at = slice_get_read c.self.inside.nodes.items _ c.args.node c.in-Some.issuer.now refl lent.3.0 lent.1 in
    let there : stamp_of c.args.id (core_past nodes s) ≡ Some c.in-Some-stamp_of.seen =
    sym (c.in-Some-stamp_of.ensures (core_past nodes s) h'.core) in
    let is = observe-is nodes s c.args.node c.args.reading c.args.id c.in-Some-stamp_of.seen there in
    elim c.match-see.branch [
      | in-Ok w ↦ rw w.result-is (sees nodes _ s c.args.node c.in-Some.issuer.now h' lent.3.0 at _ Observed
          c.in-Some-stamp_of.seen c.args.reading w.in-Ok.stamp c.see.new.self is w.in-Ok.ensures)
      | in-Err w ↦ rw w.result-is (sees_not nodes _ s c.args.node c.in-Some.issuer.now h' lent.3.0 at _ Observed
          c.in-Some-stamp_of.seen c.args.reading c.see.new.self _ is w.in-Err.ensures)
    ]
