-- The lists that were read are no certificate, and the reason is their first one.
use Rattle.std.proofs.Common.{true≢false, sym}
use Rattle.hlc_certificate.proofs.check.check_input.Goals as goal

pub returns : goal.returns
returns c = record {
  points = c.as_slice-points.result.now;
  rows = c.as_slice-rows.result.now;
  witnesses = c.as_slice.result.now;
  lines_are = rw (c.as_slice-points.ensures.value, c.as_slice-rows.ensures.value, c.as_slice.ensures.value)
      c.in-Ok.ensures.ok;
  refused = λ is. true≢false (sym (c.in-Err.ensures.only is));
  first = c.in-Err.ensures.reason;
}
