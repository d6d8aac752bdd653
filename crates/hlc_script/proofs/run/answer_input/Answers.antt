-- The header is printed, and then the answers to the lines after it.
use Rattle.std.proofs.Common.{Some, None}
use Rattle.hlc_script.proofs.Going.{script_answered}
use Rattle.hlc_script.proofs.run.answer_input.Goals as goal

pub returns-in-None-clause-written : goal.returns-in-None-clause-written
returns-in-None-clause-written g c =
    script_answered c.args.input.now c.in-Some.rest.now c.in-Some.nodes None c.requires c.in-Some.ensures.1
    c.in-Some.ensures.0 c.put_header.ensures (c.in-None.ensures c.in-Some.nodes c.in-Ok.ensures.1)

pub returns-in-Some-bad-clause-written : goal.returns-in-Some-bad-clause-written
returns-in-Some-bad-clause-written g c =
    script_answered c.args.input.now c.in-Some.rest.now c.in-Some.nodes (Some c.in-Some-bad.number) c.requires
    c.in-Some.ensures.1 c.in-Some.ensures.0 c.put_header.ensures
    (c.in-Some-bad.ensures c.in-Some.nodes c.in-Ok.ensures.1)
