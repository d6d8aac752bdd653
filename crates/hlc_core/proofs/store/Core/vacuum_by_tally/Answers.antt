-- The tally is carried out, as each plan that has it would be.
use Rattle.std.proofs.Common.{◌∙◌, ap}
use Rattle.hlc_vacuum_draft.specs.Report.{numbers_in, report_of}
use Rattle.hlc_core.proofs.store.Core.vacuum_by_tally.Goals as goal

pub returns-clause-ok : goal.returns-clause-ok
returns-clause-ok c = λ past h.
    let of = c.in_ok-tally.ensures in
    record {
      report = report_of of.plan;
      vacuums = c.carry_out_tally.ensures.vacuums past of.plan h of.planned of.is;
      are = c.carry_out_tally.ensures.numbers ∙ ap numbers_in of.is;
    }
