-- One more record was applied.
use Rattle.std.proofs.Common.{arith}
use Rattle.hlc_log.{specs.Log.with_records, proofs.LogLemmas.one_more}
use Rattle.hlc_log.proofs.apply.apply_records.Goals as goal

pub loop-rest-preserved : goal.loop-rest-preserved
loop-rest-preserved c = record {
  none = λ e. absurd (omega (arith, e));
  within = omega (arith, c.in-Ok.ensures.shorter, c.loop-rest.invariant.within);
  applied = λ past h.
      let so = c.loop-rest.invariant.applied past h in
      one_more c.apply_front.new.core c.args.bytes.now c.loop-rest.rest.now c.in-Ok.after.now past c.args.threshold
      c.loop-rest.records c.loop-rest.greatest c.apply_front.new.greatest c.loop-rest.core so
      (c.in-Ok.ensures.represents (with_records so.0 past) so.4);
}
