-- The pass is still one of this board.
use Rattle.std.proofs.Common.{◌≡◌}
use Rattle.bench_calls.proofs.posts.look_often.Given as goal

abbrev pub invariant-loop : goal.invariant-loop
invariant-loop l = l.pass.board ≡ l.board
