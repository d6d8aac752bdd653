-- The 1 bits of a mask are the lanes that pass the test.
use Rattle.std.proofs.Common.{leb, ap, ◌∙◌, arith, w64}
use lib.{Count.ones, Lanes.chunk}
use Rattle.std.proofs.lemmas.Simd.{bitmask_splat, ones-mask_l, length-chunk}
use Rattle.hlc_lanes.proofs.count.count_in.Goals as goal

pub returns : goal.returns
returns c =
    let v = chunk c.args.at 8 c.args.stamps.now in
    let long = length-chunk c.args.at 8 c.args.stamps.now c.requires in
    ap ones (bitmask_splat w64 leb v 8 c.args.bound long (omega arith)) ∙ ones-mask_l (λ x. leb x c.args.bound) v
