-- A selection by the mask of a test keeps the lanes that pass it.
use Rattle.std.proofs.Common.{◌≡◌, ◌∙◌, ap, leb, length, w64, replicate}
use lib.Lanes.{chunk, sel_l}
use Rattle.std.proofs.lemmas.Simd.{tops_compared, zip2_splat, length-chunk}
use Rattle.hlc_lanes.proofs.Lanes.{at_length}
use Rattle.hlc_lanes.proofs.newest.within_in.Goals as goal

pub returns : goal.returns
returns c =
    let v = chunk c.args.at 8 c.args.stamps.now in
    let long : length v ≡ 8 = length-chunk c.args.at 8 c.args.stamps.now c.requires in
    ap (λ ms. sel_l ms v (replicate 8 0)) (tops_compared w64 leb v (replicate 8 c.args.bound)
    ∙ zip2_splat leb v 8 c.args.bound long) ∙ at_length v 8 c.args.bound long
