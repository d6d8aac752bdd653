-- The key is that of the first column of another store's key.
use Rattle.std.proofs.Common.{ap, ◌∙◌}
use Rattle.hlc_core.specs.StoreView.{StoreView}
use Rattle.hlc_routing.proofs.Placed.{found-of}
use Rattle.hlc_routing.proofs.placing.first_other.Goals as goal

pub returns : goal.returns
returns c =
    found-of c.args.division.now c.args.store c.args.core.now.rows c.in_ok-leaves.leaves
    (c.in-Some.at, c.in-Some.place) c.at.result.now c.at-in-Some.result c.in_ok-from_slice-in-Some.field-0
    (c.in_ok-leaves.ensures.rows ∙ ap (λ (store : StoreView). store.rows) c.lent.ensures.same)
    c.in-Some.ensures c.at.ensures.leaf c.at-in-Some.ensures
    (c.in_ok-from_slice-in-Some.ensures.bytes ∙ c.key.ensures)
