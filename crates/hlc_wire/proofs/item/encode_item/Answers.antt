-- The item fills the vector.
use Rattle.std.proofs.Common.{◌≡◌, ◌∙◌, drop, length, subst}
use Rattle.hlc_wire.specs.Spelling.{item_bytes, ItemFits}
use Rattle.hlc_wire.proofs.PlacingLemmas.{puts_all, filled}
use Rattle.hlc_wire.proofs.item.encode_item.Goals as goal

pub returns-clause-ok : goal.returns-clause-ok
returns-clause-ok c =
    let put = rw c.as_ref-item.ensures at c.put_item.ensures.put in
    let size = rw c.as_ref-item.ensures at c.in-Ok.ensures.size.1 in
    let room : length c.as_mut_slice.result.now ≡ c.in_ok-out.out.len = c.as_mut_slice.ensures.len in
    let len : c.in_ok-out.out.len ≡ length (item_bytes c.args.item.now) = c.in_ok-out.ensures.len ∙ size in (
      subst ItemFits c.as_ref-item.ensures
          (c.put_item.ensures.fits (puts_all (item_bytes c.args.item.now) c.put_item.result c.as_mut_slice.result.now
          c.put_item.new.out (room ∙ len) put)),
      filled (item_bytes c.args.item.now) c.put_item.result c.as_mut_slice.result.now c.put_item.new.out
          (drop (length c.put_item.new.out) c.in_ok-out.out.items) c.in_ok-out.out.len room len put,
    )
