-- Where memory ran out for the box, it is a checkpoint.
use Rattle.std.proofs.Common.{inl, refl}
use Rattle.hlc_split_calls.proofs.bytes.written.Goals as goal

pub returns-clause-err : goal.returns-clause-err
returns-clause-err c = inl ((refl, refl), rw c.in-Ok-Ok.field-0-is at c.in-Ok-Ok.ensures.sound)
