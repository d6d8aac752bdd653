-- If the mask is empty, no lane is equal to the stamp.
use Rattle.std.proofs.Common.{◌∙◌, sym, eqb, eq-eqb, arith, w64, get_or}
use lib.Lanes.{chunk}
use Rattle.std.proofs.lemmas.Bool.{not-false, eqb-true, false≢true}
use Rattle.std.proofs.lemmas.Simd.{bitmask_splat, length-chunk, none_from_empty_mask}
use Rattle.hlc_lanes.proofs.places.has_stamp.Goals as goal

pub returns : goal.returns
returns c none k low high is =
    let v = chunk c.args.at 8 c.args.stamps.now in
    let long = length-chunk c.args.at 8 c.args.stamps.now c.requires in
    let hits = bitmask_splat w64 eqb v 8 c.args.stamp long (omega arith) in
    let empty = eqb-true _ 0 (not-false _ none) in
    let differs = none_from_empty_mask (λ x. eqb x c.args.stamp) c.args.stamps.now c.args.at 8 0 c.requires
    (sym hits ∙ empty) k low high in
    false≢true (sym differs ∙ eq-eqb (get_or c.args.stamps.now k 0) c.args.stamp is)
