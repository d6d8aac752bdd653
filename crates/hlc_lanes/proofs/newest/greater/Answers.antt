-- The greatest of the greater of each two lanes is the greater of the greatest.
use Rattle.std.proofs.Common.{◌∙◌, ap, ltb, length, arith, w64}
use lib.Lanes.{sel_l, zip2}
use Rattle.std.proofs.lemmas.Simd.{tops_compared, length-zip2, length-sel_l}
use Rattle.hlc_lanes.{specs.Greatest.greatest, proofs.Lanes.greatest_selected}
use Rattle.hlc_lanes.proofs.newest.greater.Goals as goal

pub returns-clause-long : goal.returns-clause-long
returns-clause-long c =
    let a = c.args.best in
    let b = c.args.lanes in
    let long = length-zip2 ltb a b (omega arith) in
    ap (λ ms. length (sel_l ms b a)) (tops_compared w64 ltb a b)
    ∙ omega (arith, length-sel_l (zip2 ltb a b) b a (omega arith) (omega arith))

pub returns-clause-top : goal.returns-clause-top
returns-clause-top c =
    let a = c.args.best in
    let b = c.args.lanes in
    ap (λ ms. greatest (sel_l ms b a)) (tops_compared w64 ltb a b) ∙ greatest_selected a b (omega arith)
