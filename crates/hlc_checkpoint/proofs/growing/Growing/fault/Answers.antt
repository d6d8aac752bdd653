-- The reason is one of the parts, or else one of the rows, by the flags.
use Rattle.hlc_checkpoint.proofs.Grown.{grown-head, grown-reason, grown-sound}
use Rattle.hlc_checkpoint.proofs.growing.Growing.fault.Goals as goal

pub returns-in-Some-clause-first : goal.returns-in-Some-clause-first
returns-in-Some-clause-first c = λ kept grown.
    grown-head c.self.inside.head c.self.inside.table _ _ _ _ kept c.in-Some.fault (rw (← c.self.view_is) at grown)
    c.in-Some.ensures

pub returns-in-None-clause-first : goal.returns-in-None-clause-first
returns-in-None-clause-first c = λ kept grown.
    rw c.first_fault.ensures
    (grown-reason c.self.inside.head c.self.inside.table _ _ _ _ kept (rw (← c.self.view_is) at grown)
    c.in-None.ensures)

pub returns-in-None-clause-none : goal.returns-in-None-clause-none
returns-in-None-clause-none c =
    rw (c.first_fault.ensures, ← c.self.view_is)
    (grown-sound c.self.inside.head c.self.inside.table _ _ _ _ _ c.self.invariant.1 c.in-None.ensures)
