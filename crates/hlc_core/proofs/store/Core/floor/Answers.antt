-- The links are those of the past, so their floor is its floor.
use Rattle.std.proofs.Common.{◌∙◌, arith}
use Rattle.hlc_heads.proofs.LowLemmas.{floor-is}
use Rattle.hlc_core.proofs.CheckpointLemmas.{floor-in}
use Rattle.hlc_core.proofs.store.Core.floor.Goals as goal

pub returns-clause-represents : goal.returns-clause-represents
returns-clause-represents c = λ past h.
    let h' = rw (← c.self.view_is) at h in
    floor-is _ _ c.floor.ensures ∙ floor-in _ past h'

pub returns-clause-least : goal.returns-clause-least
returns-clause-least c = rw (← c.self.view_is) c.floor.ensures

pub returns-clause-value : goal.returns-clause-value
returns-clause-value c = rw (← c.self.view_is) (floor-is c.self.inside.heads c.floor.result c.floor.ensures)

pub returns-clause-high : goal.returns-clause-high
returns-clause-high c =
    let is = floor-is c.self.inside.heads c.floor.result c.floor.ensures in
    let low = c.self.invariant.1.horizon in
    rw (← c.self.view_is) (omega (arith, is, low))
