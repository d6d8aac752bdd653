-- One more position is numbered.
use Rattle.std.proofs.Common.{◌+◌, List, ℕ, subst, sym, arith}
use Rattle.hlc_table_order.{specs.Order.IsNumbered, proofs.PlaceLemmas.numbered_more}
use Rattle.hlc_table_order.proofs.order.add_places.Goals as goal

pub loop-place-preserved : goal.loop-place-preserved
loop-place-preserved c = record {
  numbered = subst (λ (l : List ℕ). IsNumbered c.args.order.now.items l (c.loop-place.place + 1))
      (sym c.push_reserved.ensures.items) (numbered_more c.args.order.now.items c.loop-place.order.items
      c.loop-place.place c.loop-place.invariant.numbered);
  room = let r = c.loop-place.invariant.room in let e = c.push_reserved.ensures.capacity in omega (arith, r, e);
}
