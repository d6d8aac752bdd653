-- Those so far, and those that are left, are all of them.
use Rattle.std.proofs.Common.{◌≡◌, ◌-◌}
use Rattle.hlc_body.{specs.Reading.times_at, specs.Reading.row_at, proofs.ListLemmas.with_front}
use Rattle.hlc_body.proofs.reading.rows_at.Given as goal

abbrev pub invariant-loop : goal.invariant-loop
invariant-loop l =
    with_front l.rows.items (times_at row_at (l.count - l.counter) l.rest) ≡ times_at row_at l.count l.bytes
