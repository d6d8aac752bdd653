-- The lines so far are answered, and the world represents a schedule of them.
use Rattle.std.proofs.Common.{ℕ, [], ◌+◌, ◌≤◌, length}
use Rattle.hlc_world.specs.WorldView.{Represents}
use Rattle.hlc_script.proofs.Going.{Going}
use Rattle.hlc_script.proofs.run.answer_lines.Given as goal

abbrev pub invariant-loop-rest : goal.invariant-loop-rest
invariant-loop-rest g l = record {
  bound : l.number + length l.rest ≤ 2 + length l.text;
  going : (nodes : ℕ) → Represents nodes l.fn.world []
      → Going g.W.Write.contents nodes l.world l.text l.rest l.number l.fn.printer l.printer;
}

abbrev pub decreases-loop-rest : goal.decreases-loop-rest
decreases-loop-rest g l = length l.rest
