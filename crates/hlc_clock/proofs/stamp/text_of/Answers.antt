-- The parts are written into an empty text in place, one after the other.
use Rattle.hlc_clock.proofs.InPlace.{only_written}
use Rattle.hlc_clock.proofs.stamp.text_of.Goals as goal

pub returns : goal.returns
returns c =
    let written = only_written _ _ _ c.in_ok-write.ensures.writes c.new-text.ensures.intact c.new-text.ensures.text in
    cc
