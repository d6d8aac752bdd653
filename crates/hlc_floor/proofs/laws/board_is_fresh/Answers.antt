-- Each clause of the rule, at the seats of feeders and passes: a feeder's seat owns its own number.
use Rattle.std.proofs.Common.{arith}
use Rattle.hlc_floor.proofs.laws.board_is_fresh.Goals as goal

pub returns-clause-one_seat : goal.returns-clause-one_seat
returns-clause-one_seat c nodes a b node state one other rule at there holds too =
    rule.one_seat a b node one other at there holds too

pub returns-clause-raised : goal.returns-clause-raised
returns-clause-raised c nodes a node raised state rule at = rule.raised a node _ at (omega arith, omega arith)

pub returns-clause-seen : goal.returns-clause-seen
returns-clause-seen c nodes a node state seen found rule at = rule.seen a node _ at
