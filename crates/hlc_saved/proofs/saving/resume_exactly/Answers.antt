-- The frame is opened, and its body is read to its end.
use Rattle.std.proofs.Common.{[], ◌++◌, refl, arith}
use Rattle.hlc_wire.specs.Reading.{whole}
use Rattle.hlc_body.specs.Reading.{checkpoint_at}
use Rattle.hlc_saved.proofs.SaveLemmas.{resumes, saved_body, saved_fault}
use Rattle.hlc_saved.proofs.saving.resume_exactly.Goals as goal

pub returns-in-Err : goal.returns-in-Err
returns-in-Err c = saved_fault c.args.bytes.now c.in-Err.fault c.in-Err.ensures.exact

pub returns : goal.returns
returns c =
    resumes c.with_tag.result (whole (checkpoint_at (c.in-Ok.frame.body.now ++ []))) c.in-Ok.frame.tag
    c.args.bytes.now
    (λ i. omega (arith, c.type_inv.bytes i))
    (saved_body c.args.bytes.now c.in-Ok.frame.tag c.in-Ok.frame.body.now c.in-Ok.ensures.exact)
    ((c.in-Ok.frame.tag, c.in-Ok.frame.body.now), c.in-Ok.ensures.exact)
    (c.with_tag.ensures (whole (checkpoint_at (c.in-Ok.frame.body.now ++ [])))
    (c.finish.ensures (λ more. checkpoint_at (c.in-Ok.frame.body.now ++ more)) (λ more. refl)))
