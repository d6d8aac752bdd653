-- All of the bytes are read back.
use Rattle.std.proofs.Common.{ℕ, List, ap, subst, ◌∙◌, arith}
use Rattle.hlc_wire.specs.Reading.{Reads}
use Rattle.hlc_wire.proofs.ItemLemmas.{is_read}
use Rattle.hlc_frame.specs.Opening.{frame_at, opened}
use Rattle.hlc_frame.proofs.FrameLemmas.{Fit, frame_is_opened, frame_reader, text_of}
use Rattle.hlc_frame.proofs.open.open_frame.Goals as goal

pub returns-clause-found : goal.returns-clause-found
returns-clause-found c =
    is_read (λ frame. (frame.tag, frame.body.now)) frame_at text_of Fit frame_reader c.args.bytes.now c.all.result
    (λ i. omega (arith, c.type_inv.bytes i)) c.all.ensures

pub returns-clause-only : goal.returns-clause-only
returns-clause-only c = λ tag body fits e.
    subst (λ read. Reads {Y = ℕ × List ℕ} (λ frame. (frame.tag, frame.body.now)) c.all.result read)
    (ap opened e ∙ frame_is_opened tag body fits) c.all.ensures
