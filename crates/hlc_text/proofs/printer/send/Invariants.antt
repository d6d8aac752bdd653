-- A front of the text is taken and the rest is left. Each write takes a byte, or is the last one.
use Rattle.std.{proofs.Common.◌+◌, proofs.Common.length, specs.Prelude.if◌then◌else◌}
use Rattle.hlc_text.{specs.Watched.inner_of, specs.Watched.has_failed, proofs.Sending.IsBeingSent}
use Rattle.hlc_text.proofs.printer.send.Given as goal

abbrev pub invariant-loop-rest : goal.invariant-loop-rest
invariant-loop-rest g l = IsBeingSent (has_failed l.fn.writer) (has_failed l.writer)
    (g.W.Write.contents (inner_of l.fn.writer)) (g.W.Write.contents (inner_of l.writer)) l.text l.rest

abbrev pub decreases-loop-rest : goal.decreases-loop-rest
decreases-loop-rest g l = length l.rest + (if has_failed l.writer then 0 else 1)
