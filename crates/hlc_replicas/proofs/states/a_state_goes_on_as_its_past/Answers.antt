-- A state goes on as the past that led to it.
use Rattle.std.proofs.Common.{◌∷◌, [], ◌++◌}
use Rattle.hlc_core.specs.Past.{Began}
use Rattle.hlc_replicas.proofs.{AlikeLemmas.floors-alike, GoesOnLemmas.goes-on}
use Rattle.hlc_replicas.proofs.states.a_state_goes_on_as_its_past.Goals as goal

pub returns : goal.returns
returns c = λ more kept past is h legal.
    let on = goes-on more kept past is h legal in (
      on.legal,
      floors-alike (more ++ (Began kept ∷ [])) (more ++ past) on.alike,
      on.alike.5,
      on.rows,
    )
