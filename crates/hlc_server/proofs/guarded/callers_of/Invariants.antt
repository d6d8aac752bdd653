-- The callers so far have their numbers and empty shares, and the rest is shared by those to come.
use Rattle.std.{proofs.Common.◌≡◌, proofs.Common.◌+◌, proofs.Common.map, specs.List.range_with_len}
use Rattle.hlc_server.specs.Seats.{fresh_seat}
use Rattle.hlc_server.proofs.guarded.callers_of.Given as goal

abbrev pub invariant-loop-number : goal.invariant-loop-number
invariant-loop-number g l =
    (l.rest.parts + l.number ≡ l.callers) × (l.rest.amount ≡ 0)
    × (l.made.items ≡ map fresh_seat (range_with_len 0 l.number))
