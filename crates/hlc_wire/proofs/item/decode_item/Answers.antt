-- All of the bytes are read back.
use Rattle.std.proofs.Common.{ap, subst, ◌∙◌, arith}
use Rattle.hlc_node.specs.declared.item.Item.{Item}
use Rattle.hlc_wire.specs.{Spelling.item_bytes, Spelling.ItemFits, Reading.Gives, Reading.item_at, Reading.whole}
use Rattle.hlc_wire.proofs.{FieldLemmas.whole_again, ItemLemmas.is_found, ItemLemmas.item_reader}
use Rattle.hlc_wire.proofs.item.decode_item.Goals as goal

pub returns-clause-found : goal.returns-clause-found
returns-clause-found c =
    is_found item_at item_bytes ItemFits item_reader c.args.bytes.now c.all.result
    (λ i. omega (arith, c.type_inv.bytes i)) c.all.ensures.read

pub returns-clause-only : goal.returns-clause-only
returns-clause-only c = λ a fits e.
    subst (λ f. Gives (λ (x : Item). x) c.all.result f)
    (ap (λ bs. whole (item_at bs)) e ∙ whole_again item_at item_bytes ItemFits item_reader a fits) c.all.ensures.read
