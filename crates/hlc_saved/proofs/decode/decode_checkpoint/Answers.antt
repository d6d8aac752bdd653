-- All of the bytes are read back.
use Rattle.std.proofs.Common.{ap, subst, ◌∙◌, arith}
use Rattle.hlc_wire.specs.Reading.{Gives}
use Rattle.hlc_saved.{specs.declared.decode.Decoded.Decoded, proofs.SaveLemmas.found, proofs.SaveLemmas.saved_again}
use Rattle.hlc_body.specs.Reading.{saved}
use Rattle.hlc_saved.proofs.decode.decode_checkpoint.Goals as goal

pub returns-clause-found : goal.returns-clause-found
returns-clause-found c = found c.all.result c.args.bytes.now (λ i. omega (arith, c.type_inv.bytes i)) c.all.ensures.read

pub returns-clause-only : goal.returns-clause-only
returns-clause-only c = λ tag kept fits e.
    subst (λ r. Gives (λ (made : Decoded). (made.tag, made.checkpoint)) c.all.result r)
    (ap saved e ∙ saved_again tag kept fits) c.all.ensures.read
