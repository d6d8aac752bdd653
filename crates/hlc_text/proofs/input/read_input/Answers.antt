-- What was taken is what is stored and the bytes of the last read, whose number was checked before memory was requested
-- for them. It is the beginning of an input.
use Rattle.std.{specs.Io.KnownBytes.Consumes, proofs.lemmas.List.length-take}
use Rattle.hlc_text.specs.{Watched.inner_of, declared.input.TheConstants.INPUT_LIMIT}
use Rattle.std.proofs.Common.{rules, arith, ◌<◌, ◌≤◌, ◌++◌, take, length, length-append}
use Rattle.hlc_text.proofs.LineLemmas.{input_taken, taken_more}
use Rattle.hlc_text.proofs.input.read_input.Goals as goal

pub returns-then-taken-len-clause-err : goal.returns-then-taken-len-clause-err
returns-then-taken-len-clause-err g c =
    let more = take c.in-Ok.taken c.read.new.buf in
    let taken = c.reading.input.items ++ more in
    let consumed = taken_more _ _ _ c.reading.input.items more c.reading.invariant.read c.in-Ok.ensures.bytes.0 in
    let any = input_taken _ _ taken consumed in
    let past : INPUT_LIMIT < length taken = omega (
      arith,
      length-append c.reading.input.items more,
      length-take c.in-Ok.taken c.read.new.buf,
      c.in-Ok.ensures.bound,
      c.reading.input.ok.0,
    ) in record {
      input = any.0;
      taken = taken;
      is_input = any.1;
      consumed = consumed;
      may_take = past;
      may_fault = omega (arith, any.2, past);
    }

pub returns-then-is_err-clause-err : goal.returns-then-is_err-clause-err
returns-then-is_err-clause-err g c =
    let more = take c.in-Ok.taken c.read.new.buf in
    let taken = c.reading.input.items ++ more in
    let consumed = taken_more _ _ _ c.reading.input.items more c.reading.invariant.read c.in-Ok.ensures.bytes.0 in
    let any = input_taken _ _ taken consumed in
    let some : 0 < length taken = omega (
      arith,
      length-append c.reading.input.items more,
      length-take c.in-Ok.taken c.read.new.buf,
      c.in-Ok.ensures.bound,
      c.reading.input.ok.0,
      c.if-taken-eq0.false,
    ) in
    let fits : length taken ≤ INPUT_LIMIT = omega (
      arith,
      length-append c.reading.input.items more,
      length-take c.in-Ok.taken c.read.new.buf,
      c.in-Ok.ensures.bound,
      c.reading.input.ok.0,
      c.if-taken-len.false,
    ) in record {
      input = any.0;
      taken = taken;
      is_input = any.1;
      consumed = consumed;
      may_take = (some, fits);
      may_fault = omega (arith, any.2, some);
    }

pub returns-in_default-clause-err : goal.returns-in_default-clause-err
returns-in_default-clause-err g c =
    let taken = c.reading.input.items in
    let consumed : Consumes (g.R.Read.remaining (inner_of c.args.reader.now))
    (g.R.Read.remaining (inner_of c.read.new.self)) taken = search rules in
    let any = input_taken _ _ taken consumed in record {
      input = any.0;
      taken = taken;
      is_input = any.1;
      consumed = consumed;
      may_take = omega (arith, c.reading.invariant.fits, c.reading.input.ok.0);
      may_fault = tt;
    }
