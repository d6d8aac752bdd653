-- Where memory did not run out, each worker that was joined has its list, from the last caller to the first; the
-- outcome has as many, in the order of the callers.
use Rattle.std.proofs.Common.{◌≡◌, ◌∙◌, ℕ, ◌+◌, Bool, false, List, Option, None, Result, Ok, Err, IfOk}
use Rattle.std.proofs.Common.{ap, arith, length, reverse}
use lib.ListN.{length-reverse}
use Rattle.hlc_storm.proofs.joining.join_all.Goals as goal

counted : {A E X W : Type 0} (items : A → List X) (noted : List X) (out_of_memory : Bool) (first : Option W) (n : ℕ)
    (result : Result A E) → IfOk result (λ lists. items lists ≡ reverse noted)
    → IfOk result (λ _. (out_of_memory ≡ false) × (first ≡ None))
    → (out_of_memory ≡ false → length noted ≡ n) → IfOk result (λ lists. length (items lists) ≡ n)
counted items noted out_of_memory first n (Ok lists) is done all = ap length is ∙ length-reverse noted ∙ all done.0
counted items noted out_of_memory first n (Err _) _ _ _ = tt

pub returns-clause-lists : goal.returns-clause-lists
returns-clause-lists g c =
    counted (λ lists. lists.items) c.join_workers.result.lists.items c.join_workers.result.out_of_memory
    c.join_workers.result.first (length c.args.started.feeders.items + length c.args.started.readers.items + 1)
    c.outcome.result c.outcome.ensures.lists c.outcome.ensures.done
    (λ none.
    let feeders = c.join_workers.ensures.lists none in
    let before = c.join_workers.ensures.out_of_memory none in
    let readers = c.join_workers-ends.ensures.lists before in
    let vacuum = c.join_worker-ends.ensures.list (c.join_workers-ends.ensures.out_of_memory before) in
    omega (arith, feeders, readers, vacuum, ap length c.new.ensures.lists))
