-- The best of all rows is the newest row.
use Rattle.std.proofs.Common.{◌≡◌, ◌<◌, ℕ, List, length, IfSome}
use Rattle.hlc_rows.specs.Rows.{newest}
use Rattle.hlc_table_column.{specs.Rows.rows_of, specs.Rows.at_place, proofs.NewestRow.placed}
use Rattle.hlc_table_column.proofs.lanes.Lanes.newest_on.Goals as goal

found : (c : goal.After-newest_from) → IfSome c.newest_from.result (λ i. i < length c.args.self.now)
    × ((key : List ℕ) → at_place (rows_of key c.args.self.now) c.newest_from.result
    ≡ newest (rows_of key c.args.self.now) key c.args.bound)
found c =
    let i = c.self.inside in
    placed c.args.self.now i.stamps.now i.nodes.now i.values.now c.bits-bound.result c.args.bound c.newest_from.result
    c.self.invariant.0 c.self.view_is c.bits-bound.ensures.value c.newest_from.ensures

pub returns-clause-within : goal.returns-clause-within
returns-clause-within c = (found c).0

pub returns-clause-newest : goal.returns-clause-newest
returns-clause-newest c = (found c).1
