-- The parts of a threshold, one after another.
use Rattle.std.proofs.Common.{arith}
use Rattle.hlc_log.proofs.RecordLemmas.{threshold_put}
use Rattle.hlc_log.proofs.record.put_threshold.Goals as goal

pub returns-clause-put : goal.returns-clause-put
returns-clause-put c =
    threshold_put c.put_bytes.result c.put_bytes-at_stamp.result c.args.at c.args.out.now
    c.put_bytes-at_stamp.new.out c.put_bytes.new.out c.put_bytes-at_stamp.ensures.put c.put_bytes-at_stamp.ensures.end
    (rw (c.to_be_bytes.ensures, c.bits-at.ensures.value) at c.put_bytes.ensures.put)
    (rw c.to_be_bytes.ensures at c.put_bytes.ensures.end)
    (let room = c.if-out-lt9.false in omega (arith, room))
