-- The run goes on with each call, from the halves of the checkpoint to the cut.
use Rattle.example_life.proofs.life.through_ranges.Goals as goal

pub returns : goal.returns
returns c =
    let begun = c.in_ok-ranges.ensures in
    let written = c.in_ok-write_key.ensures _ _ _ begun in
    let low = c.in_ok-report.ensures _ _ _ written.3 in
    let high = c.in_ok-report-2.ensures _ _ _ low in
    let joined = c.in_ok-join.ensures _ _ _ _ high in
    (written.0, written.1, c.in_ok-whole.ensures _ _ _ _ joined)
