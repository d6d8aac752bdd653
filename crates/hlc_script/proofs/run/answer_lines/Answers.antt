-- Each line is answered as its event, or is the first bad one; at the end no line is left.
use Rattle.std.proofs.{Common.arith, Common.◌≡◌, Common.length, lemmas.Grind.common_steps}
use Rattle.hlc_script.proofs.Going.{going_first, going_more, going_bad, going_end}
use Rattle.hlc_script.proofs.run.answer_lines.Goals as goal

pub loop-rest-init : goal.loop-rest-init
loop-rest-init g c = record { bound = omega arith; going = λ nodes fresh. going_first fresh }

pub returns-in_default : goal.returns-in_default
returns-in_default g c =
    λ nodes fresh. going_bad c.first_line.result.1.now (c.loop-rest.invariant.going nodes fresh)
    c.first_line.ensures.line c.in_default.ensures c.put_bad_line.ensures

pub loop-rest-preserved : goal.loop-rest-preserved
loop-rest-preserved g c = record {
  bound = omega (arith, c.loop-rest.invariant.bound, c.first_line.ensures.shorter);
  going = λ nodes fresh.
      going_more c.first_line.result.1.now (c.loop-rest.invariant.going nodes fresh) c.first_line.ensures.line
      c.in-Some.ensures.0 c.in-Some.ensures.1 c.answer_line.ensures.1 c.answer_line.ensures.2;
}

pub returns : goal.returns
returns g c = let none : length c.loop-rest.rest.now ≡ 0 = grind (arith, common_steps) in
    λ nodes fresh. going_end _ (c.loop-rest.invariant.going nodes fresh) none
