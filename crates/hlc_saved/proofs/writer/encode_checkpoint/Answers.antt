-- The pieces, one after the other.
use Rattle.std.proofs.Common.{◌≡◌, ◌<◌, ap, subst, length, SomeIff}
use Rattle.hlc_body.specs.{Spelling.preamble_bytes, Spelling.checkpoint_bytes, Seen.seen}
use Rattle.hlc_saved.proofs.Pieces.{first_piece, noted, written}
use Rattle.hlc_saved.proofs.writer.encode_checkpoint.Goals as goal

pub returns-clause-spelled : goal.returns-clause-spelled
returns-clause-spelled c =
    let tag = c.args.tag in
    let kept = c.args.checkpoint.now in
    let sized : c.in_ok-size.size ≡ length (checkpoint_bytes kept) =
    (subst (λ r. SomeIff r (length (checkpoint_bytes kept) < 18446744073709551616) (length (checkpoint_bytes kept)))
    c.in_ok-size.ensures.ok_part c.checkpoint_size.ensures.size).1 in
    written tag kept c.in_ok-out.out.items c.begin_frame.new.out.items c.rows-2.new.out.items
    c.end.new.out.items c.in_ok-out.ensures.items
    (first_piece (seen c.of.result) kept c.in_ok-size.size tag c.in_ok-out.out.items c.begin_frame.new.out.items
    c.of.ensures sized c.in_ok-frame.ensures.ok)
    (rw c.rows.ensures at c.in_ok-rows.ensures.ok)
    (c.in_ok-end.ensures.ok tag kept kept.rows
    (rw c.rows.ensures at
    (c.in_ok-rows.ensures.written tag kept
    (noted c.in_ok-frame.frame c.in_ok-size.size tag kept (preamble_bytes (seen c.of.result)) sized
    (ap preamble_bytes c.of.ensures) c.in_ok-frame.ensures.put))))
