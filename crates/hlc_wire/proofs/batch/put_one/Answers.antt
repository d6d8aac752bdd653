-- The length of the key, the key and the value, one after another.
use Rattle.std.proofs.Common.{[], ◌∷◌, length, option_copied}
use Rattle.hlc_wire.{specs.Spelling.value_bytes, proofs.PlacingLemmas.put_three}
use Rattle.hlc_wire.proofs.batch.put_one.Goals as goal

pub returns-clause-put : goal.returns-clause-put
returns-clause-put c =
    put_three c.args.at c.put_bytes-at_key.result c.put_bytes-at_value.result (length c.args.write.now.key.now ∷ [])
    c.args.write.now.key.now (value_bytes (option_copied c.args.write.now.value)) c.args.out.now
    c.put_bytes-at_key.new.out
    c.put_bytes-at_value.new.out c.put_value.new.out c.put_bytes-at_key.ensures.put
    c.put_bytes-at_key.ensures.end c.put_bytes-at_value.ensures.put
    c.put_bytes-at_value.ensures.end
    c.put_value.ensures.put c.requires.room
