-- The split at the first such byte is the part before it, and the split of what comes after it.
use Rattle.hlc_text.proofs.Cuts.{at_first_range, at_none}
use Rattle.hlc_text.proofs.words.cut_near.Goals as goal

pub returns-in_default-clause-parts : goal.returns-in_default-clause-parts
returns-in_default-clause-parts c = at_none c.args.text.now c.args.byte c.in_default.ensures

pub returns-clause-parts : goal.returns-clause-parts
returns-clause-parts c = let e = c.in-Some.ensures in
    at_first_range c.args.text.now c.args.byte c.in-Some.at e.0 e.2 e.1
