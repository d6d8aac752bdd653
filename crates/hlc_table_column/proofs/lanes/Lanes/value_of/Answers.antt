-- At the position of the newest row its value is the answer.
use Rattle.std.proofs.Common.{◌<◌, sym, ap, ◌∙◌, subst, length, option_copied, IfSome}
use Rattle.hlc_table_column.{specs.Rows.rows_of, specs.Rows.at_place, proofs.Beside.answer_there}
use Rattle.hlc_rows.proofs.NewestLemmas.{answer_none}
use Rattle.hlc_table_column.proofs.lanes.Lanes.value_of.Goals as goal

pub returns-in-Some : goal.returns-in-Some
returns-in-Some c = λ key bound within at.
    answer_there c.args.self.now key bound c.in-Some.i (option_copied c.value_at.result)
    (subst (λ o. IfSome o (λ i. i < length c.args.self.now)) c.in-Some.is within)
    (ap (at_place (rows_of key c.args.self.now)) (sym c.in-Some.is) ∙ at) c.value_at.ensures.value

pub returns-in-None : goal.returns-in-None
returns-in-None c = λ key bound within at. sym (answer_none (rows_of key c.args.self.now) key bound
    (sym (ap (at_place (rows_of key c.args.self.now)) (sym c.in-None.is) ∙ at)))
