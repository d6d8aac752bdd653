-- The tag is that of the frame, and the body is read to its end.
use Rattle.std.proofs.Common.{[], ◌++◌, sym, ◌∙◌}
use Rattle.hlc_frame.specs.Reading.{body_so_far}
use Rattle.hlc_wire.specs.Reading.{whole}
use Rattle.hlc_body.specs.Reading.{checkpoint_at}
use Rattle.hlc_saved.proofs.{Blocks.saved_fed, SaveLemmas.resumes, SaveLemmas.framed}
use Rattle.hlc_saved.proofs.reader.CheckpointReader.finish.Goals as goal

pub returns : goal.returns
returns c = λ fed has.
    let tag = sym (c.finish.ensures fed has.frame) ∙ c.in-Ok.is in
    resumes c.with_tag.result (whole (checkpoint_at (body_so_far fed ++ []))) c.in-Ok.tag fed has.bytes
    (saved_fed fed c.in-Ok.tag tag) (framed fed c.in-Ok.tag tag)
    (c.with_tag.ensures (whole (checkpoint_at (body_so_far fed ++ [])))
    (c.finish-2.ensures (λ more. checkpoint_at (body_so_far fed ++ more)) has.body))
