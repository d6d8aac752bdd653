-- All pieces together are those of a checkpoint of the store.
use Rattle.std.proofs.Common.{subst, sym}
use Rattle.hlc_frame.specs.{Writing.HasPut, declared.writer.FrameWriter.FrameWriter}
use Rattle.hlc_saved.specs.Writing.{front_of, body_to, end_bytes}
use Rattle.hlc_saved.proofs.StorePieces.{saved_whole}
use Rattle.hlc_saved.proofs.store_writer.StoreWriter.end.Goals as goal

pub returns-clause-whole : goal.returns-clause-whole
returns-clause-whole c = λ tag kept bytes has none. (
  end_bytes tag kept has.rows,
  c.in_ok-end.ensures.ok (front_of tag kept) (body_to kept has.rows)
      (subst (λ (frame : FrameWriter). HasPut frame (front_of tag kept) (body_to kept has.rows))
      (sym c.into_frame.ensures.frame) has.put),
  saved_whole c.args.self tag kept bytes has none,
)
