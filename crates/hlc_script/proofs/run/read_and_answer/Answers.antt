-- An input that was loaded was taken whole; for one that was not loaded, the contract of the read says why.
use Rattle.std.proofs.Common.{refl}
use Rattle.hlc_script.proofs.Taken.{run_takes_all}
use Rattle.hlc_script.proofs.run.read_and_answer.Goals as goal

pub returns-in-Ok-clause-written : goal.returns-in-Ok-clause-written
returns-in-Ok-clause-written g c =
    let loaded = c.in-Ok.ensures.ok in
    let written = c.answer_input.ensures.written in
    let same = c.as_slice.ensures.value in record {
      input = c.as_slice.result.now;
      taken = c.as_slice.result.now;
      output = written.0;
      is_input = rw same loaded.0;
      consumed = rw same loaded.1;
      may_take = run_takes_all _ c.answer_input.result c.answer_input.ensures.loaded;
      may_write = written.1;
      prints = written.2;
    }

pub returns-in-Err-clause-written : goal.returns-in-Err-clause-written
returns-in-Err-clause-written g c =
    let not = c.in-Err.ensures.err in record {
      input = not.input;
      taken = not.taken;
      output = _;
      is_input = not.is_input;
      consumed = not.consumed;
      may_take = not.may_take;
      may_write = (not.may_fault, refl);
      prints = c.put_fault.ensures;
    }
