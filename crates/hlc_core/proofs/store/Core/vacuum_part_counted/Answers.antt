-- The tally of the part is carried out.
use Rattle.hlc_core.proofs.store.Core.vacuum_part_counted.Goals as goal

pub returns-clause-represents : goal.returns-clause-represents
returns-clause-represents c = λ past h.
    c.carry_out_part_tally.ensures.vacuums past c.args.after.now c.args.limit h c.in_ok-part.ensures
