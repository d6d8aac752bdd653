-- A take preserves the rule: the pass is the receiver's, and it has not taken the end.
use Rattle.std.proofs.Common.{◌∙◌, ap}
use Rattle.crossbeam_channel.specs.Claims.{view}
use Rattle.hlc_link.{specs.Link.receiver, proofs.Keeps.takes_as}
use Rattle.hlc_link.proofs.ends.LinkReceiver.take.Goals as goal

pub recv_as-requires-clause-rule : goal.recv_as-requires-clause-rule
recv_as-requires-clause-rule g c = (
  takes_as _ _ _ (c.self.invariant.1 ∙ ap (receiver (view c.self.inside.pass).taken) c.if-self.false),
  λ items views h at. tt,
)
