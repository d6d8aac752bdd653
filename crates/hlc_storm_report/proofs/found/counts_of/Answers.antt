-- The count of the next node is that of its number.
use Rattle.std.proofs.Common.{◌∙◌, ap, sym, arith, ◌++◌, ◌∷◌, [], map}
use Rattle.std.{specs.List.range_with_len, proofs.lemmas.List.FromFn.map-range_with_len_more}
use Rattle.hlc_core.specs.Past.{count}
use Rattle.hlc_storm_report.proofs.found.counts_of.Goals as goal

pub loop-node-preserved : goal.loop-node-preserved
loop-node-preserved c past represents =
    let number = c.accepted_of-number.result in
    c.push_reserved.ensures.items ∙ ap (λ l. l ++ number ∷ []) c.reserve.ensures.items
    ∙ ap (λ l. l ++ number ∷ []) (c.loop-node.invariant past represents)
    ∙ ap (λ n. map (λ node. count node past) (range_with_len 0 c.loop-node.node) ++ n ∷ [])
    (c.accepted_of-number.ensures past represents)
    ∙ sym (map-range_with_len_more (λ node. count node past) 0 c.loop-node.node c.loop-node.node (omega arith))
