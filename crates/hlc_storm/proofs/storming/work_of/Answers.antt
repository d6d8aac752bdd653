-- A board of this many nodes has as many feeders, and as many passes as were requested.
use Rattle.std.proofs.Common.{◌≡◌, ◌∙◌, ℕ, ◌+◌, IfOk, ap, arith, length, subst}
use Rattle.std.proofs.lemmas.List.{length-replicate}
use Rattle.hlc_floor.specs.Views.{blind}
use Rattle.hlc_storm.proofs.Lengths.{posts_length}
use Rattle.hlc_storm.proofs.storming.work_of.Goals as goal

pub returns-in-Ok-Ok-clause-lists : goal.returns-in-Ok-Ok-clause-lists
returns-in-Ok-Ok-clause-lists g c =
    let nodes = c.args.plan.nodes in
    let readers = c.args.plan.readers in
    let passed = rw c.in-Ok-Ok.field-0-is at c.in-Ok-Ok.ensures.passes in
    let posted = rw c.in-Ok-Ok.field-0-is at c.in-Ok-Ok.ensures.feeders in
    let passes : length c.in-Ok-Ok.passes.items ≡ readers =
    ap length passed ∙ length-replicate readers (blind c.in-Ok-Ok.board) in
    let feeders : length c.in-Ok-Ok.feeders.items ≡ nodes =
    ap length posted ∙ posts_length c.in-Ok-Ok.board nodes in
    let all : length c.in-Ok-Ok.feeders.items + length c.in-Ok-Ok.passes.items + 1 ≡ nodes + readers + 1 =
    omega (arith, passes, feeders) in
    subst (λ (n : ℕ). IfOk c.run_all.result (λ lists. length lists.items ≡ n)) all c.run_all.ensures.lists
