-- A register with fewer snapshots is a register.
use Rattle.hlc_snapshot.proofs.RegisterLemmas.{closed-is_register}
use Rattle.hlc_snapshot.proofs.laws.registers_stay_registers.Goals as goal

pub returns-clause-closing : goal.returns-clause-closing
returns-clause-closing c = closed-is_register
