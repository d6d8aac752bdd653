-- The lines before are those of events, and there are no more of them than bytes.
use Rattle.std.proofs.Common.{◌≤◌, ◌+◌, length}
use Rattle.hlc_text.specs.Lines.{lines_of}
use Rattle.hlc_explain.proofs.LinePlaces.{Passed}
use Rattle.hlc_explain.proofs.line.bad_line.Given as goal

abbrev pub invariant-loop-rest : goal.invariant-loop-rest
invariant-loop-rest l =
    Passed (lines_of l.text) l.before (lines_of l.rest) × (l.before + length l.rest ≤ length l.text)

-- the rest gets shorter
abbrev pub decreases-loop-rest : goal.decreases-loop-rest
decreases-loop-rest l = length l.rest
