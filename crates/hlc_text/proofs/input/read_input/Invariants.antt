-- What was read is stored, and is no more than allowed; each round stores more.
use Rattle.std.proofs.Common.{◌≡◌, ◌+◌, ◌-◌, ◌≤◌, false, vec_len}
use Rattle.std.specs.Io.KnownBytes.{Consumes}
use Rattle.hlc_text.specs.{declared.input.TheConstants.INPUT_LIMIT, Watched.inner_of, Watched.has_failed}
use Rattle.hlc_text.proofs.input.read_input.Given as goal

abbrev pub invariant-reading : goal.invariant-reading
invariant-reading g l = record {
  read : Consumes (g.R.Read.remaining (inner_of l.fn.reader)) (g.R.Read.remaining (inner_of l.reader)) l.input.items;
  fits : vec_len l.input ≤ INPUT_LIMIT;
  well : has_failed l.reader ≡ false;
}

abbrev pub decreases-reading : goal.decreases-reading
decreases-reading g l = (INPUT_LIMIT + 1) - vec_len l.input
