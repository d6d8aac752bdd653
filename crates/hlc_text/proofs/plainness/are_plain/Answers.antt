-- The first eight pass, and the last eight are all that is left.
use Rattle.std.proofs.Common.{◌-◌, length, sym, ap, ◌∙◌, arith}
use Rattle.std.specs.List.{list_all}
use Rattle.hlc_text.{specs.Text.is_literal, proofs.PlainBlocks.rest_decides, proofs.PlainBlocks.last_chunk}
use Rattle.hlc_text.proofs.plainness.are_plain.Goals as goal

pub returns-then-are_plain_8 : goal.returns-then-are_plain_8
returns-then-are_plain_8 c =
    let xs = c.args.bytes.now in
    c.are_plain_8-then-are_plain_8.ensures
    ∙ ap (list_all is_literal) (last_chunk xs 8 (omega (arith, c.if-count-ge8.true)))
    ∙ rest_decides is_literal xs 8 (length xs - 8) (omega (arith, c.if-count-ge16.false))
    (sym c.if-are_plain_8.ensures)
