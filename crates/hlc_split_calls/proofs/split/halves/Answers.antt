-- A part is no checkpoint, so no bytes were made.
use Rattle.hlc_split_calls.proofs.Refused.{not_below, not_rest}
use Rattle.hlc_split_calls.proofs.split.halves.Goals as goal

pub returns-in-Err-clause-err : goal.returns-in-Err-clause-err
returns-in-Err-clause-err c = not_below
    c.args.bytes.now c.args.key.now c.in_ok-checkpoint.field-0.tag c.in-Err.code c.written.new.word
    c.in_ok-checkpoint.field-0.checkpoint c.in-Ok.below c.in_ok-checkpoint.ensures c.in-Ok.ensures.below
    c.in-Err.ensures.err

pub returns-in-Err-written-clause-err : goal.returns-in-Err-written-clause-err
returns-in-Err-written-clause-err c = not_rest
    c.args.bytes.now c.args.key.now c.in_ok-checkpoint.field-0.tag c.in-Err-written.code c.written-2.new.word
    c.in_ok-checkpoint.field-0.checkpoint c.in-Ok.below c.in-Ok.rest c.in_ok-checkpoint.ensures
    c.in-Ok.ensures.below c.in-Ok-written.ensures.ok.sound c.in-Ok.ensures.rest c.in-Err-written.ensures.err
