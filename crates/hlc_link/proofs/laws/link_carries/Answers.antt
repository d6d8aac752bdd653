-- It is the third clause of the rule.
use Rattle.hlc_link.proofs.Streams.{carries}
use Rattle.hlc_link.proofs.laws.link_carries.Goals as goal

pub returns : goal.returns
returns c = carries
