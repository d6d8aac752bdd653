-- The report has the points and the changes, and the rows are listed up to its floor.
use Rattle.std.proofs.Common.{refl}
use Rattle.example_embed.proofs.vacuumed.put_vacuum.Goals as goal

pub returns-clause-printed : goal.returns-clause-printed
returns-clause-printed g c = (
  _,
  c.in_ok-shown.ensures.printed,
  c.in_ok-shown.ensures.answered,
  λ past represents.
      let vacuumed = c.in_ok-report.ensures.ok past represents in record {
        points = c.as_slice-points.result.now;
        rows = c.as_slice.result.now;
        changes = c.as_slice-witnesses.result.now;
        are_points = rw c.as_slice-points.ensures vacuumed.expected.points;
        are_rows = rw (c.as_slice.ensures.value, ← vacuumed.expected.at_stamp) c.in_ok-rows.ensures;
        are_changes = rw (c.as_slice-points.ensures, c.as_slice-witnesses.ensures) vacuumed.expected.witnesses;
        spelled = refl;
      },
)
