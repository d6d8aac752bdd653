-- The parts of a join, one after another.
use Rattle.std.proofs.Common.{arith}
use Rattle.hlc_log.proofs.RecordLemmas.{join_put}
use Rattle.hlc_log.proofs.record.put_join.Goals as goal

pub returns-clause-put : goal.returns-clause-put
returns-clause-put c =
    join_put c.put_bytes.result c.put_bytes-at_node.result c.put_bytes-at_start.result c.args.node c.args.start
    c.args.out.now c.put_bytes-at_node.new.out c.put_bytes-at_start.new.out c.put_bytes.new.out
    c.put_bytes-at_node.ensures.put c.put_bytes-at_node.ensures.end
    (rw c.to_be_bytes.ensures at c.put_bytes-at_start.ensures.put)
    (rw c.to_be_bytes.ensures at c.put_bytes-at_start.ensures.end)
    (rw (c.to_be_bytes-2.ensures, c.bits-start.ensures.value) at c.put_bytes.ensures.put)
    (rw c.to_be_bytes-2.ensures at c.put_bytes.ensures.end)
    (let room = c.if-out-lt11.false in omega (arith, room))
