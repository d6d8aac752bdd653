-- The plan drops no row, and the report is its own; or it drops a row, so that fewer answer alike.
use Rattle.std.proofs.Common.{◌≡◌, ◌<◌, ap, subst, sym, arith, count_by, not}
use Rattle.hlc_vacuum_draft.specs.declared.report.Report.{Report}
use Rattle.hlc_core.specs.Certified.{IsCertified}
use Rattle.hlc_core.proofs.CertifiedLemmas.{plan-certifies, plan-leaves-fewer}
use Rattle.hlc_core.proofs.store.Core.certificate.Goals as goal

pub returns-then-report-gt0 : goal.returns-then-report-gt0
returns-then-report-gt0 c = λ past h.
    let none = c.in_ok-check_vacuum.ensures.represents past h in
    let dropped = ap (λ (report : Report). report.dropped) c.in_ok-report.ensures in
    let more = c.if-report-gt0.true in
    let some : 0 < count_by not c.in_ok-plan.field-0.keep = omega (arith, dropped, more) in
    (none, plan-leaves-fewer _ c.args.at past c.in_ok-plan.field-0 h none c.in_ok-plan.ensures some)

pub returns : goal.returns
returns c = λ past h.
    let none = c.in_ok-check_vacuum.ensures.represents past h in
    let dropped = ap (λ (report : Report). report.dropped) c.in_ok-report.ensures in
    let no_more = c.if-report-gt0.false in
    let all : count_by not c.in_ok-plan.field-0.keep ≡ 0 = omega (arith, dropped, no_more) in (
      none,
      subst (IsCertified _ c.args.at past) (sym c.in_ok-report.ensures)
          (plan-certifies _ c.args.at past c.in_ok-plan.field-0 h none c.in_ok-plan.ensures all),
    )
