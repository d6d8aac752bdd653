-- One more item: it is flagged and moves to the front, or it is not and stays.
use Rattle.std.proofs.Common.{◌<◌, ◌≤◌, ◌∙◌, sym, subst, length}
use Rattle.hlc_table_column.proofs.Chosen.{moves_by_no, moves_by_yes, moves_all}
use Rattle.hlc_table_column.proofs.flags.move_flagged.Goals as goal
use Rattle.hlc_table_column.proofs.flags.move_flagged.Goals.{then-is_set, else-is_set}

pub loop-i-preserved : goal.loop-i-preserved
loop-i-preserved g c =
    let below : c.loop-i.i < length c.args.keep.now = subst (λ n. c.loop-i.i < n) c.len-i-end.ensures
    c.loop-i-test.true in
    elim c.if-is_set.branch [
      | then-is_set w ↦ rw (w.items-is, w.kept-is)
          (moves_by_yes c.args.keep.now c.args.items.now c.loop-i.items w.swap.new.self c.loop-i.kept c.loop-i.i
          c.loop-i.invariant c.requires below (sym c.is_set.ensures ∙ w.if-is_set.true) w.swap.ensures.by_index)
      | else-is_set w ↦ rw (w.items-is, w.kept-is) (moves_by_no c.args.keep.now c.args.items.now c.loop-i.items
          c.loop-i.kept c.loop-i.i c.loop-i.invariant c.requires below (sym c.is_set.ensures ∙ w.if-is_set.false))
    ]

pub returns-clause-front : goal.returns-clause-front
returns-clause-front g c =
    let over : length c.args.keep.now ≤ c.loop-i.i = subst (λ n. n ≤ c.loop-i.i) c.len-i-end.ensures
    c.loop-i-test.false in
    moves_all c.args.keep.now c.args.items.now c.loop-i.items c.loop-i.kept c.loop-i.i c.loop-i.invariant over
