-- The first line that is not read comes after lines that are.
use Rattle.std.proofs.Common.{◌≡◌, ◌∙◌, ap, arith, length, not}
use Rattle.std.proofs.lemmas.Grind.{common_steps}
use Rattle.hlc_text.specs.Lines.{lines_of}
use Rattle.hlc_explain.proofs.LinePlaces.{next_passed, first_bad, all_passed, good_read, bad_read}
use Rattle.hlc_explain.proofs.line.bad_line.Goals as goal

pub returns-then-is_none : goal.returns-then-is_none
returns-then-is_none c =
    first_bad (lines_of c.args.text.now) c.loop-rest.before c.first_line.result.0.now c.loop-rest.rest.now
    c.first_line.result.1.now c.loop-rest.invariant.0 c.first_line.ensures.line
    (bad_read c.first_line.result.0.now _ c.read_line.ensures (c.is_none.ensures ∙ ap not c.if-is_none.true))

pub loop-rest-preserved : goal.loop-rest-preserved
loop-rest-preserved c = (
  next_passed (lines_of c.args.text.now) c.loop-rest.before c.first_line.result.0.now c.loop-rest.rest.now
      c.first_line.result.1.now c.loop-rest.invariant.0 c.first_line.ensures.line
      (good_read c.first_line.result.0.now _ c.read_line.ensures (c.is_none.ensures ∙ ap not c.if-is_none.false)),
  omega (arith, c.loop-rest.invariant.1, c.first_line.ensures.shorter),
)

pub returns : goal.returns
returns c =
    let none : length c.loop-rest.rest.now ≡ 0 = grind (arith, common_steps) in
    all_passed (lines_of c.args.text.now) c.loop-rest.before c.loop-rest.rest.now c.loop-rest.invariant.0 none
