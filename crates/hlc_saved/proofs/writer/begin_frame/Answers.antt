-- The part after the front is hashed.
use Rattle.std.proofs.Common.{[], drop, ap, ◌∙◌, subst, List, ℕ}
use Rattle.hlc_frame.specs.{Frame.front_bytes, Writing.HasPut}
use Rattle.hlc_body.specs.Seen.{seen}
use Rattle.hlc_saved.proofs.Pieces.{after_front}
use Rattle.hlc_saved.proofs.writer.begin_frame.Goals as goal

pub returns-clause-put : goal.returns-clause-put
returns-clause-put c =
    subst (λ (l : List ℕ). HasPut c.put.new.self (front_bytes c.args.size c.args.tag) l)
    (c.bytes_from.ensures ∙ ap (drop 20) c.as_slice.ensures.value
    ∙ after_front (seen c.args.preamble.now) c.args.size c.args.tag c.new-piece.result.items c.begin.new.out.items
    c.put_preamble.new.out.items c.new-piece.ensures.items c.in_ok-frame.ensures.front c.in_ok-put_preamble.ensures)
    (c.put.ensures (front_bytes c.args.size c.args.tag) [] c.in_ok-frame.ensures.put)
