-- The write of the next number is put after the earlier ones.
use Rattle.std.proofs.Common.{List, ◌∙◌, ap, sym, arith, ◌++◌, ◌∷◌, []}
use Rattle.std.proofs.lemmas.List.FromFn.{map-range_with_len_more}
use Rattle.hlc_node.specs.declared.item.Item.{Item}
use Rattle.hlc_storm.specs.Written.{write_item, write_items}
use Rattle.hlc_storm.proofs.writing.put_writes.Goals as goal

pub loop-number-preserved : goal.loop-number-preserved
loop-number-preserved g c =
    let n = c.loop-number.number in
    let keys = c.args.plan.now.keys in
    let node = c.args.node in
    record {
      put = c.in_ok-put.ensures.0
          ∙ ap (λ (items : List Item). items ++ c.in_ok-write.write ∷ []) c.loop-number.invariant.put
          ∙ ap (λ (item : Item). write_items keys node n ++ item ∷ []) c.in_ok-write.ensures.item
          ∙ sym (map-range_with_len_more (write_item keys node) 0 n n (omega arith));
      going = c.in_ok-put.ensures.1 ∙ c.loop-number.invariant.going;
      core = c.in_ok-write.ensures.core;
    }
