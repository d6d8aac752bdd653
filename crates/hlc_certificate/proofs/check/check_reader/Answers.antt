-- An input that was loaded was taken whole; for one that was not loaded, the contract of the read says why.
use Rattle.std.proofs.Common.{◌≤◌, length}
use Rattle.hlc_text.specs.declared.input.TheConstants.{INPUT_LIMIT}
use Rattle.hlc_certificate.proofs.Taken.{check_takes_all, check_answers}
use Rattle.hlc_certificate.proofs.check.check_reader.Goals as goal

pub returns-in-Ok-clause-answer : goal.returns-in-Ok-clause-answer
returns-in-Ok-clause-answer g c =
    let loaded = c.in-Ok.ensures.ok in
    let same = c.as_slice.ensures.value in
    let fits : length c.as_slice.result.now ≤ INPUT_LIMIT = rw c.as_slice.ensures.len loaded.2 in (
      c.as_slice.result.now,
      c.as_slice.result.now,
      rw same loaded.0,
      rw same loaded.1,
      check_takes_all _ c.check_input.result c.check_input.ensures,
      check_answers _ c.check_input.result fits c.check_input.ensures,
    )

pub returns-in-Err-clause-answer : goal.returns-in-Err-clause-answer
returns-in-Err-clause-answer g c =
    let not = c.in-Err.ensures.err in
    (not.input, not.taken, not.is_input, not.consumed, not.may_take, not.may_fault)
