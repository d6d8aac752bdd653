-- A put preserves the rule: the pass is the sender's, and it has not put the end.
use Rattle.std.proofs.Common.{◌∙◌, ap}
use Rattle.crossbeam_channel.specs.Claims.{view}
use Rattle.hlc_link.{specs.Link.sender, proofs.Keeps.puts_as}
use Rattle.hlc_link.proofs.ends.LinkSender.put.Goals as goal

pub send_as-requires-clause-rule : goal.send_as-requires-clause-rule
send_as-requires-clause-rule g c = (
  puts_as _ _ _ _ _ (c.self.invariant.1 ∙ ap (sender (view c.self.inside.pass).put) c.if-self.false),
  λ items views h at. tt,
)
