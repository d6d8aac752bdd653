-- The size of all is that of those so far, or more.
use Rattle.std.proofs.Common.{◌≡◌, length, arith, ap, ◌∙◌, flat_map, take_all}
use Rattle.hlc_rows.specs.declared.row.Row.{Row}
use Rattle.hlc_body.specs.Spelling.{row_bytes}
use Rattle.hlc_saved.proofs.Sizes.{size_within}
use Rattle.hlc_saved.proofs.size.rows_size.Goals as goal

pub returns-in-None-clause-size : goal.returns-in-None-clause-size
returns-in-None-clause-size c = λ small.
    let within = size_within row_bytes c.args.rows.now c.loop-row.row-index c.row-item.result c.loop-row-test.true
    c.row-item.is in
    let so_far = c.loop-row.invariant.size in
    let one = c.row_size.ensures.size ∙ ap (λ (row : Row). length (row_bytes row)) c.of.ensures in
    c.in-None.ensures (omega (arith, within, so_far, one, small))

pub returns-clause-size : goal.returns-clause-size
returns-clause-size c =
    let all' : c.loop-row.size ≡ length (flat_map row_bytes c.args.rows.now) =
    c.loop-row.invariant.size
    ∙ ap (λ rows. length (flat_map row_bytes rows))
    (take_all c.loop-row.row-index c.args.rows.now c.loop-row-test.false) in
    let small = c.loop-row.invariant.small in
    (omega (arith, all', small), all')
