-- The contract of each call says what it did to the past that the core represented before: the listing at the floor,
-- and then the vacuum.
use Rattle.std.proofs.Common.{◌+◌, ◌∷◌, sym, subst}
use Rattle.hlc_core.specs.{Past.Opened, Past.Closed, Past.last_id, Stored.IsReport}
use Rattle.hlc_storm_report.proofs.found.found_in.Goals as goal

pub returns-clause-found : goal.returns-clause-found
returns-clause-found c past represents =
    let listed = c.in_ok-listed.ensures.found past represents in
    let made = c.in_ok-kept.ensures.kept _ listed.2 in
    record {
      accepted = c.in_ok-accepted.ensures.counts past represents;
      floor = listed.0;
      pairs = listed.1;
      vacuum = made.0;
      expected = subst (λ at. IsReport at (Closed (last_id past + 1) ∷ Opened c.in_ok-listed.listed.0 ∷ past) made.0)
          (sym listed.0) made.1;
      kept = made.2;
    }
