-- The number, and the bytes after it.
use Rattle.std.{proofs.Common.length, proofs.Common.w64, specs.Int.to_le_bytes}
use Rattle.hlc_wire.proofs.PlacingLemmas.{put_both}
use Rattle.hlc_range_calls.proofs.list.put_sized.Goals as goal

pub returns-clause-put : goal.returns-clause-put
returns-clause-put c =
    put_both c.args.at c.put_bytes-start.result (to_le_bytes w64 (length c.args.bytes.now)) c.args.bytes.now
    c.args.out.now c.put_bytes-start.new.out c.put_bytes.new.out
    (rw c.to_le_bytes.ensures at c.put_bytes-start.ensures.put)
    (rw c.to_le_bytes.ensures at c.put_bytes-start.ensures.end) c.put_bytes.ensures.put c.requires
