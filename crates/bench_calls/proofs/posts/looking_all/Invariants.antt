-- The passes that are left are the board's.
use Rattle.hlc_floor.specs.Views.{PassesOf}
use Rattle.bench_calls.proofs.posts.looking_all.Given as goal

abbrev pub invariant-loop : goal.invariant-loop
invariant-loop l = PassesOf l.board l.passes.items
