-- The split preserves the rule: the first pass is the sender's and the receiver's, and each part is one of them.
use Rattle.std.proofs.Common.{rules}
use Rattle.hlc_link.proofs.Keeps.{cuts_as}
use Rattle.hlc_link.proofs.ends.link.Goals as goal

pub another-second-requires-clause-rule : goal.another-second-requires-clause-rule
another-second-requires-clause-rule g c = cuts_as _ _ (search rules)
