-- The front and the part before the rows are written, and no leaf is.
use Rattle.std.proofs.Common.{refl, ◌≡◌, ◌∙◌, ◌<◌, ap, length, subst, ℕ, IfSome, OnSome}
use Rattle.hlc_core.specs.StoreView.{StoreView}
use Rattle.hlc_body.specs.{Spelling.checkpoint_bytes, Spelling.preamble_of, Spelling.CheckpointFits, Seen.seen}
use Rattle.hlc_saved.proofs.{Pieces.first_piece, StorePieces.begun, StorePieces.front_put}
use Rattle.hlc_saved.proofs.store_writer.StoreWriter.begin.Goals.{In_ok-size}
use Rattle.hlc_saved.proofs.store_writer.StoreWriter.begin.Goals as goal

is_sized : (c : In_ok-size) → c.in_ok-size.size ≡ length (checkpoint_bytes c.args.core.now)
is_sized c =
    subst (λ r. IfSome r (λ n. n ≡ length (checkpoint_bytes c.lent-store.result))) c.in_ok-size.ensures.ok_part
    c.store_size.ensures.size
    ∙ ap (λ (kept : StoreView). length (checkpoint_bytes kept)) c.lent-store.ensures.same

pub returns-clause-written : goal.returns-clause-written
returns-clause-written c =
    let at = (goal.at.returns-clause-written c).In_ok-size in
    let same = c.lent-store.ensures.same in
    begun _ c.args.tag c.args.core.now
    (record {
      store = c.lent-store.ensures.sound;
      fits = record {
        frame = record {
          tag_fits = c.ranges.tag.fits;
          length_fits = subst (λ (n : ℕ). n < 18446744073709551616) (is_sized at) c.begin_frame.ensures.small;
        };
        checkpoint = subst CheckpointFits same
            (subst (λ r. OnSome r (CheckpointFits c.lent-store.result)) c.in_ok-size.ensures.ok_part
            c.store_size.ensures.fits);
      };
      rows = c.in_ok-leaves.ensures.rows ∙ ap (λ (kept : StoreView). kept.rows) same;
      ascend = c.in_ok-leaves.ensures.ascend;
    })
    refl
    (front_put c.in_ok-frame.frame c.in_ok-size.size c.args.tag (seen c.of_store-preamble.result) c.args.core.now
    (c.of_store-preamble.ensures ∙ ap preamble_of same) (is_sized at) c.in_ok-frame.ensures.put)

pub returns-clause-ok : goal.returns-clause-ok
returns-clause-ok c =
    let at = (goal.at.returns-clause-ok c).In_ok-size in
    first_piece (seen c.of_store-preamble.result) c.args.core.now c.in_ok-size.size c.args.tag c.args.out.now.items
    c.begin_frame.new.out.items (c.of_store-preamble.ensures ∙ ap preamble_of c.lent-store.ensures.same)
    (is_sized at) c.in_ok-frame.ensures.ok

pub returns-clause-size : goal.returns-clause-size
returns-clause-size c = is_sized (goal.at.returns-clause-size c).In_ok-size
