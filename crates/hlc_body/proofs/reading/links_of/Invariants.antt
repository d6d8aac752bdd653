-- Those so far, and those that are left, are all of them.
use Rattle.std.proofs.Common.{◌≡◌, ◌-◌}
use Rattle.hlc_body.{specs.Reading.times_at, specs.Reading.link_at, proofs.ListLemmas.with_front}
use Rattle.hlc_body.proofs.reading.links_of.Given as goal

abbrev pub invariant-loop : goal.invariant-loop
invariant-loop l =
    with_front l.links.items (times_at link_at (l.count - l.counter) l.rest) ≡ times_at link_at l.count l.bytes
