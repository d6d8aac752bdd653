-- The feeders that are left are the board's.
use Rattle.hlc_floor.specs.Views.{FeedersOf}
use Rattle.bench_calls.proofs.posts.raising_all.Given as goal

abbrev pub invariant-loop : goal.invariant-loop
invariant-loop l = FeedersOf l.board l.feeders.items
