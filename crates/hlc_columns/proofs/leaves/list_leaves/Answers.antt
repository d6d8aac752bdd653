-- One more leaf.
use Rattle.std.proofs.Common.{take_all, ◌∙◌, ◌++◌, ◌∷◌, [], ap, ap₂, arith, map, sym, take, get_or}
use Rattle.std.proofs.lemmas.List.{map_push, take_more}
use Rattle.hlc_columns.specs.Table.{keyed}
use Rattle.hlc_columns.proofs.leaves.list_leaves.Goals as goal

pub loop-at-preserved : goal.loop-at-preserved
loop-at-preserved c =
    let lt = c.loop-at-test.true in
    let long = c.leaves-at-end.ensures.count in
    let leaves = c.args.columns.now in
    c.in_ok-push.ensures.items
    ∙ ap₂ (λ list leaf. list ++ leaf ∷ []) c.loop-at.invariant (c.new.ensures ∙ ap keyed c.leaf.ensures)
    ∙ sym (map_push keyed (take c.loop-at.at leaves) (get_or leaves c.loop-at.at []))
    ∙ ap (map keyed) (sym (take_more leaves c.loop-at.at [] (omega (arith, lt, long))))

pub returns-clause-list : goal.returns-clause-list
returns-clause-list c =
    let done = c.loop-at-test.false in
    let long = c.leaves-at-end.ensures.count in
    c.loop-at.invariant ∙ ap (map keyed) (take_all c.loop-at.at c.args.columns.now (omega (arith, done, long)))
