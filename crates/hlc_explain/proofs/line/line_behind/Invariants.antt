-- The line that is left after this many lines of the rest is the one that is searched for.
use Rattle.std.{proofs.Common.◌≡◌, proofs.Common.length, specs.Prelude.slice_get}
use Rattle.hlc_text.specs.Lines.{lines_of}
use Rattle.hlc_explain.proofs.line.line_behind.Given as goal

abbrev pub invariant-loop-rest : goal.invariant-loop-rest
invariant-loop-rest l = slice_get (lines_of l.rest) l.left ≡ slice_get (lines_of l.text) l.before

abbrev pub decreases-loop-rest : goal.decreases-loop-rest
decreases-loop-rest l = length l.rest
