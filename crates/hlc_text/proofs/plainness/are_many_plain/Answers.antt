-- A block that fails makes the whole fail; one that passes adds to those that did; and the last block is all that is
-- left.
use Rattle.std.proofs.Common.{◌-◌, length, sym, ap, ◌∙◌, arith}
use Rattle.std.specs.List.{list_all}
use Rattle.hlc_text.specs.Text.{is_literal}
use Rattle.hlc_text.proofs.PlainBlocks.{rest_decides, fails_chunk, passes_more, last_chunk}
use Rattle.hlc_text.proofs.plainness.are_many_plain.Goals as goal

pub returns-then-not-are_plain_16 : goal.returns-then-not-are_plain_16
returns-then-not-are_plain_16 c =
    sym (fails_chunk is_literal c.args.bytes.now c.loop-from.from 16
    (sym c.if-not-are_plain_16.ensures))

pub loop-from-preserved : goal.loop-from-preserved
loop-from-preserved c = record {
  within = omega (arith, c.loop-from-test.true);
  pass = passes_more is_literal c.args.bytes.now c.loop-from.from 16 c.loop-from.invariant.pass
      (sym c.if-not-are_plain_16.ensures);
}

pub returns : goal.returns
returns c =
    let xs = c.args.bytes.now in
    let last = length xs - 16 in
    c.are_plain_16-2.ensures
    ∙ ap (list_all is_literal) (last_chunk xs 16 c.requires)
    ∙ rest_decides is_literal xs c.loop-from.from last (omega (arith, c.loop-from-test.false))
    c.loop-from.invariant.pass
