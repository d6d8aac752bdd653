-- The only row answers exactly where it is at or below the bound.
use Rattle.std.proofs.Common.{◌≤◌, ◌<◌, sym, ◌∙◌, refl, arith}
use Rattle.hlc_table_column.{specs.Rows.row_of, proofs.FirstLemmas.one_above, proofs.FirstLemmas.one_within}
use Rattle.hlc_table_column.proofs.rows.answer_of_one.Goals as goal

pub returns-then-stamp-bits : goal.returns-then-stamp-bits
returns-then-stamp-bits c = λ key node.
    let row = row_of key (record { stamp = c.args.stamp; node = node; value = c.args.value.now }) in
    let above : c.args.bound < c.args.stamp =
    let is = c.bits.ensures.value in let lt = c.if-stamp-bits.true in omega (arith, is, lt) in
    sym (one_above key row c.args.bound above)

pub returns : goal.returns
returns c = λ key node.
    let row = row_of key (record { stamp = c.args.stamp; node = node; value = c.args.value.now }) in
    let within : c.args.stamp ≤ c.args.bound =
    let is = c.bits.ensures.value in let le = c.if-stamp-bits.false in omega (arith, is, le) in
    c.as_slice.ensures ∙ sym (one_within key row c.args.bound refl within)
