-- The node issues the item, or returns the expected refusal, and the other nodes do not change.
use Rattle.std.proofs.{Common.refl, lemmas.Option.slice_get_read}
use Rattle.hlc_world.proofs.Nodes.{issues, issues_not}
use Rattle.hlc_world.proofs.world.World.issue.Goals.{in-Ok, in-Err}
use Rattle.hlc_world.proofs.world.World.issue.Goals as goal

pub returns-clause-represents : goal.returns-clause-represents
returns-clause-represents c = λ nodes s h.
    let h' = rw (← c.self.view_is) at h in
    let lent = c.in-Some.ensures.item in
    let at = slice_get_read c.self.inside.nodes.items _ c.args.node c.in-Some.issuer.now refl lent.3.0 lent.1 in
    elim c.match-issue.branch [
      | in-Ok w ↦ rw w.result-is (issues nodes _ s c.args.node c.in-Some.issuer.now h' lent.3.0 at c.args.reading
          c.args.content c.issue.new.self _ w.in-Ok.ensures)
      | in-Err w ↦ rw w.result-is (issues_not nodes _ s c.args.node c.in-Some.issuer.now h' lent.3.0 at
          c.args.reading c.args.content c.issue.new.self _ w.in-Err.ensures)
    ]
