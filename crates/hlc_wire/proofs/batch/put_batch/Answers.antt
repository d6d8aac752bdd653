-- The number of writes less one, and the writes.
use Rattle.std.proofs.Common.{◌-◌, [], ◌∷◌, length}
use Rattle.hlc_wire.{specs.Spelling.writes_bytes, proofs.PlacingLemmas.put_both}
use Rattle.hlc_wire.proofs.batch.put_batch.Goals as goal

pub returns-clause-put : goal.returns-clause-put
returns-clause-put c =
    let count = length c.args.writes - 1 in
    put_both c.args.at c.put_bytes-at_writes.result (count ∷ []) (writes_bytes c.args.writes) c.args.out.now
    c.put_bytes-at_writes.new.out c.put_writes.new.out (rw c.len.ensures at c.put_bytes-at_writes.ensures.put)
    c.put_bytes-at_writes.ensures.end c.put_writes.ensures.put c.requires.room
