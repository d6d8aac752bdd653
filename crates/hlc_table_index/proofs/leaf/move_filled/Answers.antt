-- One more entry: it is filled and moves to the front with its head, or it is not and stays.
use Rattle.std.proofs.Common.{◌≡◌, ◌<◌, ◌≤◌, ◌∙◌, ap, arith, length, sym}
use Rattle.std.proofs.lemmas.List.Filters.{FiltersInPlace-more_no, FiltersInPlace-more_swap}
use Rattle.hlc_table_index.proofs.Kept.{heads_swap}
use Rattle.hlc_table_index.proofs.leaf.move_filled.Goals as goal
use Rattle.hlc_table_index.proofs.leaf.move_filled.Goals.{then-is_filled, else-is_filled}

pub loop-i-preserved : goal.loop-i-preserved
loop-i-preserved g c =
    let lt : c.loop-i.i < length c.loop-i.entries =
    let m = c.loop-i.invariant.moved.long in let h = c.loop-i-test.true in omega (arith, h, m) in
    let le : c.loop-i.kept ≤ c.loop-i.i = c.loop-i.invariant.moved.behind in
    let is : g.V.Filled.is_filled c.index-entries-i.result.1 ≡ c.is_filled.result =
    ap (λ e. g.V.Filled.is_filled e.1) c.index-entries-i.is ∙ sym c.is_filled.ensures in
    elim c.if-is_filled.branch [
      | then-is_filled w ↦ rw (w.heads-is, w.entries-is, w.kept-is) (record {
        moved = FiltersInPlace-more_swap c.loop-i.invariant.moved lt (is ∙ w.if-is_filled.true) c.index-entries-i.is
            w.swap-then-is_filled.ensures.by_index;
        heads = heads_swap c.loop-i.heads c.loop-i.entries _ _ c.loop-i.kept c.loop-i.i c.loop-i.invariant.heads
            (omega (arith, le, lt)) lt w.swap.ensures.after w.swap-then-is_filled.ensures.after;
      })
      | else-is_filled w ↦ rw (w.heads-is, w.entries-is, w.kept-is) (record {
        moved = FiltersInPlace-more_no c.loop-i.invariant.moved lt (is ∙ w.if-is_filled.false) c.index-entries-i.is;
        heads = c.loop-i.invariant.heads;
      })
    ]
