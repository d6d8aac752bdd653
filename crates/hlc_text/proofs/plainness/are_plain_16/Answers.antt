-- A lane's bit is set where its byte is outside the range or is the percent sign.
use Rattle.std.proofs.Common.{ℕ, ltb, cond, bit_or, refl, arith}
use Rattle.std.proofs.lemmas.Simd.{zip2_splat, zip2_splat_left, zip2_of_maps, length-chunk}
use lib.Lanes.{chunk}
use Rattle.hlc_text.{specs.Text.is_literal, proofs.PlainBlocks.block_decides}
use Rattle.hlc_text.proofs.plainness.are_plain_16.Goals as goal

pub returns : goal.returns
returns c =
    let v = chunk c.args.from 16 c.args.bytes.now in
    let long = length-chunk c.args.from 16 c.args.bytes.now c.requires in
    block_decides _ is_literal c.args.bytes.now c.args.from 16 _ c.requires (omega arith) c.type_inv.bytes refl
    (zip2_of_maps bit_or _ _ v
    (zip2_of_maps bit_or _ _ v (zip2_splat {Y = ℕ} _ v 16 33 long)
    (zip2_splat_left (λ a b. cond (ltb a b) 255 0) 126 16 v long))
    (zip2_splat {Y = ℕ} _ v 16 37 long))
