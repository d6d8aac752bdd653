-- The feeders that are made with a board are of that board.
use Rattle.std.proofs.Common.{List, subst, sym}
use Rattle.hlc_floor.specs.Views.{FeederView, FeedersOf}
use Rattle.hlc_floor.proofs.PlaceLemmas.{feeders_new}
use Rattle.bench_calls.proofs.desk.run_on_board.Goals as goal

pub raising_all-raising-requires : goal.raising_all-raising-requires
raising_all-raising-requires g c =
    let posted = rw c.in-Ok-Ok.field-0-is at c.in-Ok-Ok.ensures.feeders in
    subst (λ (l : List FeederView). FeedersOf c.in-Ok-Ok.board l) (sym posted) (feeders_new c.in-Ok-Ok.board 64)
