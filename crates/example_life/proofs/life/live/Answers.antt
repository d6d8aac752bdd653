-- The joined store answers as all rows up to the cut, which is not above its floor, and what it takes later is above.
use Rattle.std.proofs.Common.{◌≤◌, rules}
use Rattle.hlc_checkpoint.specs.Checkpoint.{floor_in}
use Rattle.example_life.proofs.Copies.{lived}
use Rattle.example_life.proofs.life.live.Goals as goal

pub returns : goal.returns
returns c =
    let bytes = c.in_ok-kept.ensures in
    let whole = c.in_ok-whole.ensures in
    let made = c.in_ok-one.ensures in
    let low : c.in_ok-whole.cut ≤ floor_in c.in_ok-whole.whole = search rules in
    (bytes.0, _, bytes.1, whole.0, made.0, made.1, whole.1, made.2, made.3, lived _ _ _ _ _ _ _ made.4 whole.2 low)
