-- Both were read, and not joined; or what was joined is no checkpoint, so no bytes were made.
use Rattle.std.proofs.Common.{inl, inr, refl}
use Rattle.hlc_split_calls.proofs.Refused.{not_joined}
use Rattle.hlc_split_calls.proofs.merge.joined.Goals as goal

pub returns-in-Ok-Err-clause-err : goal.returns-in-Ok-Err-clause-err
returns-in-Ok-Err-clause-err c =
    let reason = rw c.in-Ok-Err.field-0-is at c.in-Ok-Err.ensures.err in
    inr (
      c.in_ok-lower.field-0.tag,
      c.in_ok-lower.field-0.checkpoint,
      c.in_ok-lower.ensures,
      inr (
        c.in_ok-upper.field-0.tag,
        c.in_ok-upper.field-0.checkpoint,
        c.in_ok-upper.ensures,
        inl (inr (_, reason, refl, c.code.ensures)),
      ),
    )

pub returns-in-Err-written-clause-err : goal.returns-in-Err-written-clause-err
returns-in-Err-written-clause-err c = not_joined
    c.args.left.now c.args.right.now c.in_ok-lower.field-0.tag c.in_ok-upper.field-0.tag c.in-Err-written.code
    c.written.new.word c.in_ok-lower.field-0.checkpoint c.in_ok-upper.field-0.checkpoint c.in-Ok-Ok.made
    c.in_ok-lower.ensures c.in_ok-upper.ensures (rw c.in-Ok-Ok.field-0-is at c.in-Ok-Ok.ensures.joinable)
    (rw c.in-Ok-Ok.field-0-is at c.in-Ok-Ok.ensures.ok) c.in-Err-written.ensures.err
