-- The line that is cut off is the first.
use Rattle.hlc_text.proofs.LineLemmas.{first_of_lines}
use Rattle.hlc_text.proofs.input.first_line.Goals as goal

pub returns-in-Some-clause-line : goal.returns-in-Some-clause-line
returns-in-Some-clause-line c =
    first_of_lines c.in-Some.line.now c.args.text.now c.in-Some.rest.now c.in-Some.ensures.parts
