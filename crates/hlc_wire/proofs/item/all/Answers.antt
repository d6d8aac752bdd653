-- Where the copy of an item needs memory, it is a write or a batch.
use Rattle.std.proofs.{Common.sym, Common.arith, Common.eqb-true, lemmas.Bool.false≢true, lemmas.List.nil_from_length}
use Rattle.hlc_wire.{proofs.ItemLemmas.whole_is_ok, proofs.KindLemmas.kind_at, specs.Reading.item_at}
use Rattle.hlc_wire.proofs.item.all.Goals as goal

pub returns-in_err-copy-clause-memory : goal.returns-in_err-copy-clause-memory
returns-in_err-copy-clause-memory c = λ e. (
  kind_at c.args.bytes.now c.in_ok-item.rest.now c.in_ok-item.item (λ i. omega (arith, c.type_inv.bytes i))
      c.in_ok-item.ensures (λ short. false≢true (c.in_err-copy.ensures.short short)),
  whole_is_ok (item_at c.args.bytes.now) (c.in_ok-item.item, c.in_ok-item.rest.now) c.in_ok-item.ensures
      (nil_from_length c.in_ok-item.rest.now (eqb-true _ _ (sym c.if-not-is_empty.ensures))),
)
