-- One more write takes a front of the rest.
use Rattle.std.proofs.{Common.◌≡◌, Common.false, Common.arith, lemmas.Grind.common_steps}
use Rattle.hlc_text.proofs.Sending.{going_on}
use Rattle.hlc_text.proofs.printer.send.Goals as goal

pub loop-rest-preserved-in-Ok : goal.loop-rest-preserved-in-Ok
loop-rest-preserved-in-Ok g c =
    let well : c.loop-rest.writer.failed ≡ false = grind (arith, common_steps) in
    let still : c.write.new.self.failed ≡ false = grind (arith, common_steps, well, c.in-Ok.ensures.failed) in
    going_on _ _ _ _ _ _ _ _ _ c.loop-rest.invariant well still c.in-Ok.ensures.bytes
