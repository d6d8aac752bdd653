-- None of the bytes before the next 16 is the one, and neither are those of the 16 that come before the first hit.
use Rattle.std.proofs.Common.{◌≤◌, ◌+◌, length, arith}
use Rattle.hlc_text.proofs.Places.{place_found, none_found}
use Rattle.hlc_text.proofs.place.far_place.Goals as goal

pub returns-then-before-lt16 : goal.returns-then-before-lt16
returns-then-before-lt16 c =
    place_found c.args.text.now c.args.byte c.loop-from.from 16 c.before_of_16-before.result
    (omega (arith, c.loop-from-test.true, c.loop-from.invariant.0)) c.before_of_16-before.ensures
    c.loop-from.invariant.1 c.if-before-lt16.true

pub loop-from-preserved : goal.loop-from-preserved
loop-from-preserved c =
    let room : c.loop-from.from + 16 ≤ length c.args.text.now =
    omega (arith, c.loop-from-test.true, c.loop-from.invariant.0) in (
      room,
      none_found c.args.text.now c.args.byte c.loop-from.from 16 c.before_of_16-before.result room
          c.before_of_16-before.ensures c.loop-from.invariant.1 c.if-before-lt16.false,
    )
