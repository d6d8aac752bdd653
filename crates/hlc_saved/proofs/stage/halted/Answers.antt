-- A fault other than Short stays, whatever follows.
use Rattle.std.proofs.Common.{◌≢◌, refl, rules, subst}
use Rattle.hlc_wire.specs.declared.fault.WireFault.TheVariants.{Short}
use Rattle.hlc_saved.{specs.Blocks.NextFails, proofs.Stages.stays_wrong}
use Rattle.hlc_saved.proofs.stage.halted.Goals as goal

pub returns-in-Fault : goal.returns-in-Fault
returns-in-Fault c =
    let not : c.in-Fault.fault ≢ Short = search rules in
    record {
      same = λ read has.
          stays_wrong c.args.stage c.args.rest.now c.in-Fault.fault read
          (subst (λ e. NextFails c.args.stage e c.args.rest.now) c.in-Fault.is c.requires) not has;
      rest = refl;
      stuck = tt;
    }
