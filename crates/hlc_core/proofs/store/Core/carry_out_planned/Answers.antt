-- The part was planned for an event that asks for it.
use Rattle.std.proofs.Common.{subst, sym}
use Rattle.hlc_vacuum_draft.specs.declared.report.Report.{Report}
use Rattle.hlc_core.specs.declared.{reply.CoreReply.TheVariants.VacuumedPart, planned.Planned.Planned}
use Rattle.hlc_core.{specs.History.IsMove, specs.Planned.IsPlannedFor, proofs.StepLemmas.part_is_move}
use Rattle.hlc_vacuum.proofs.WithinLemmas.{within-same}
use Rattle.hlc_core.proofs.store.Core.carry_out_planned.Goals as goal

pub returns-in-Part-clause-past : goal.returns-in-Part-clause-past
returns-in-Part-clause-past c = λ event past planned represents.
    let made = c.carry_out_part-report in
    let of = (subst (λ (p : Planned). IsPlannedFor c.args.self.now event p) c.in-Part.is planned).1 in
    subst (λ (report : Report). IsMove past
    c.args.self.now made.new.self event (VacuumedPart report made.result.1))
    (sym c.with-in-Part.ensures)
    (subst (λ e. IsMove past c.args.self.now made.new.self e (VacuumedPart made.result.0 made.result.1))
    (sym of.is)
    (part_is_move past c.args.self.now made.new.self c.in-Part.at of.after of.limit made.result.0 made.result.1
    represents (made.ensures.vacuums past of.after of.limit represents of.planned)))

pub returns-in-Refused-clause-within : goal.returns-in-Refused-clause-within
returns-in-Refused-clause-within c = within-same c.args.self.now.rows
