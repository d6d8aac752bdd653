-- A write is put, and then the others.
use Rattle.std.proofs.Common.{◌≡◌, ◌∷◌, rules}
use Rattle.hlc_rows.specs.Spelled.{write_seen}
use Rattle.hlc_wire.{specs.Spelling.write_bytes, specs.Spelling.writes_bytes, proofs.PlacingLemmas.put_both}
use Rattle.hlc_wire.proofs.batch.+put_writes.Goals as goal

pub returns-clause-put : goal.returns-clause-put
returns-clause-put t c =
    let parts : c.args.writes ≡ write_seen c.in-Some.first ∷ c.in-Some.others = search rules in
    let room = rw parts at c.requires.room in
    rw parts
    (put_both c.args.at c.put_one-at_others.result (write_bytes (write_seen c.in-Some.first))
    (writes_bytes c.in-Some.others)
    c.args.out.now c.put_one-at_others.new.out c.put_writes.new.out c.put_one-at_others.ensures.put
    c.put_one-at_others.ensures.end c.put_writes.ensures.put room)
