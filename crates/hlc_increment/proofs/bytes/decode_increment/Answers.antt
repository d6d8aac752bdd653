-- All of the bytes are read back.
use Rattle.std.proofs.Common.{ap, subst, ◌∙◌, arith}
use Rattle.hlc_wire.specs.Reading.{Gives}
use Rattle.hlc_increment.specs.{declared.bytes.DecodedIncrement.DecodedIncrement, Bytes.increment_at}
use Rattle.hlc_increment.proofs.BytesLemmas.{found, increment_again}
use Rattle.hlc_increment.proofs.bytes.decode_increment.Goals as goal

pub returns-clause-found : goal.returns-clause-found
returns-clause-found c = found c.all.result c.args.bytes.now (λ i. omega (arith, c.type_inv.bytes i)) c.all.ensures.read

pub returns-clause-only : goal.returns-clause-only
returns-clause-only c = λ tag increment fits e.
    subst (λ r. Gives (λ (made : DecodedIncrement). (made.tag, made.increment)) c.all.result r)
    (ap increment_at e ∙ increment_again tag increment fits) c.all.ensures.read
