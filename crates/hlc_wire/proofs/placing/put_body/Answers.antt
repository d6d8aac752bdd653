-- The kind and the batch.
use Rattle.std.proofs.Common.{[], ◌∷◌}
use Rattle.hlc_wire.{specs.Spelling.batch_bytes, proofs.PlacingLemmas.put_both}
use Rattle.hlc_wire.proofs.placing.put_body.Goals as goal

pub returns-in-Many-clause-put : goal.returns-in-Many-clause-put
returns-in-Many-clause-put c =
    let is = c.in-Many.ensures in
    let room = rw is at c.requires.room in
    rw is
    (put_both c.args.at c.put_bytes-at_batch.result (3 ∷ []) (batch_bytes c.in-Many.writes) c.args.out.now
    c.put_bytes-at_batch.new.out c.put_batch.new.out c.put_bytes-at_batch.ensures.put c.put_bytes-at_batch.ensures.end
    c.put_batch.ensures.put room)
