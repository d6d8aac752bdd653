-- The two reads and the certificate are printed one after another, and written at the end. Their store represents one
-- past throughout: a read changes nothing, and the vacuum comes last.
use Rattle.std.proofs.Common.{rules}
use Rattle.hlc.proofs.PrintLemmas.{printed_then, printed_finished}
use Rattle.example_embed.proofs.story.run_on.Goals as goal

pub returns : goal.returns
returns g c = λ stood.
    let represents = c.in_ok-early.ensures stood in
    let early = c.in_ok-put_read.ensures.ok represents.0 represents.1 in
    let late = c.in_ok-put_read-2.ensures.ok represents.0 represents.1 in
    let vacuumed = c.in_ok-shown.ensures.printed in
    let printed = printed_then (printed_then early.1 late.1) vacuumed.1 in
    record {
      core = _;
      past = represents.0;
      represents = represents.1;
      vacuumed = _;
      represents_vacuumed = c.in_ok-shown.ensures.represents represents.0 represents.1;
      early = _;
      late = _;
      certificate = vacuumed.0;
      wrote = printed_finished c.new-printer.ensures.start printed c.finish.ensures (search (rules, printed.same));
      certifies = vacuumed.3 represents.0 represents.1;
      answered = vacuumed.2;
    }
