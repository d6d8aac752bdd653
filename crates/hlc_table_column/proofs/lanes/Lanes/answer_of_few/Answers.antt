-- The answer is the value of the newest of all rows.
use Rattle.std.proofs.Common.{Some, None, sym, option_copied}
use Rattle.hlc_rows.proofs.NewestLemmas.{answer_none}
use Rattle.hlc_table_column.{specs.Rows.rows_of, proofs.Beside.answer_there, proofs.NewestRow.placed}
use Rattle.hlc_table_column.proofs.lanes.Lanes.answer_of_few.Goals as goal

pub returns-in_default : goal.returns-in_default
returns-in_default c = λ key.
    let i = c.self.inside in
    let h = placed c.args.self.now i.stamps.now i.nodes.now i.values.now c.bits.result c.args.bound None
    c.self.invariant.0 c.self.view_is c.bits.ensures.value c.in_default.ensures in
    sym (answer_none (rows_of key c.args.self.now) key c.args.bound (sym (h.1 key)))

pub returns : goal.returns
returns c = λ key.
    let i = c.self.inside in
    let place = c.in-Some.place in
    let h = placed c.args.self.now i.stamps.now i.nodes.now i.values.now c.bits.result c.args.bound (Some place)
    c.self.invariant.0 c.self.view_is c.bits.ensures.value c.in-Some.ensures in
    answer_there c.args.self.now key c.args.bound place (option_copied c.value_at.result) h.0 (h.1 key)
    c.value_at.ensures.value
