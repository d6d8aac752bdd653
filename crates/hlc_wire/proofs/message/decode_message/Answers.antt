-- All of the bytes are read back.
use Rattle.std.proofs.Common.{ap, subst, ◌∙◌, arith}
use Rattle.hlc_node.specs.declared.item.Message.{Message}
use Rattle.hlc_wire.specs.Spelling.{message_bytes, MessageFits}
use Rattle.hlc_wire.specs.Reading.{Reads, message_at, whole}
use Rattle.hlc_wire.proofs.{FieldLemmas.whole_again, ItemLemmas.is_read, ItemLemmas.message_field}
use Rattle.hlc_wire.proofs.message.decode_message.Goals as goal

pub returns-clause-found : goal.returns-clause-found
returns-clause-found c =
    is_read (λ (x : Message). x) message_at message_bytes MessageFits message_field.reads c.args.bytes.now c.all.result
    (λ i. omega (arith, c.type_inv.bytes i)) c.all.ensures

pub returns-clause-only : goal.returns-clause-only
returns-clause-only c = λ a fits e.
    subst (λ f. Reads (λ (x : Message). x) c.all.result f)
    (ap (λ bs. whole (message_at bs)) e ∙ whole_again message_at message_bytes MessageFits message_field.reads a fits)
    c.all.ensures
