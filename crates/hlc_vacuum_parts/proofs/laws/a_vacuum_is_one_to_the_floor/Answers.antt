-- The horizon is not above the floor, nor is an open snapshot.
use Rattle.std.proofs.Common.{sym, subst, arith}
use Rattle.hlc_clock.specs.Points.{ArePoints}
use Rattle.hlc_snapshot.proofs.RegisterLemmas.{stamps_to-all}
use Rattle.hlc_core.specs.Past.{floor, open_snapshots}
use Rattle.hlc_core.proofs.PastLemmas.{horizon-low, vacuum-none, open-low}
use Rattle.hlc_vacuum_parts.proofs.laws.a_vacuum_is_one_to_the_floor.Goals as goal

pub returns-clause-refusal : goal.returns-clause-refusal
returns-clause-refusal c = λ past legal.
    vacuum-none past (floor past) (omega arith) (horizon-low past legal)

pub returns-clause-points : goal.returns-clause-points
returns-clause-points c = λ past points legal.
    let all' = stamps_to-all (floor past) (open_snapshots past) (open-low past legal) in (
      λ are. subst (λ stamps. ArePoints stamps (floor past) points) all' are,
      λ are. subst (λ stamps. ArePoints stamps (floor past) points) (sym all') are,
    )
