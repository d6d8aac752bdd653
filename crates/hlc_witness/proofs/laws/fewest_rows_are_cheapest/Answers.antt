-- As many rows as changes are the rows that these force.
use Rattle.hlc_witness.proofs.CostLemmas.{fewest_rows_are_cheapest, fewest_rows_cost}
use Rattle.hlc_witness.proofs.laws.fewest_rows_are_cheapest.Goals as goal

pub returns-clause-cheapest : goal.returns-clause-cheapest
returns-clause-cheapest c = λ rows all points changes are alike count.
    fewest_rows_are_cheapest all rows points changes are.ascend are.each alike count

pub returns-clause-cost : goal.returns-clause-cost
returns-clause-cost c = λ rows all points changes are alike count.
    fewest_rows_cost all rows points changes are.ascend are.each alike count
