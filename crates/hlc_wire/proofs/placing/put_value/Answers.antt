-- The flag, the length and the value, one after another.
use Rattle.std.{proofs.Common.[], proofs.Common.◌∷◌, proofs.Common.length, specs.Int.w16, specs.Int.to_be_bytes}
use Rattle.hlc_wire.proofs.PlacingLemmas.{put_three}
use Rattle.hlc_wire.proofs.placing.put_value.Goals as goal

pub returns-in-Some-clause-put : goal.returns-in-Some-clause-put
returns-in-Some-clause-put c =
    let fits = rw c.in-Some.is at c.requires.room in
    rw c.in-Some.is
    (put_three c.args.at c.put_bytes-at_len.result c.put_bytes-at_value.result (1 ∷ [])
    (to_be_bytes w16 (length c.in-Some.value.now)) c.in-Some.value.now c.args.out.now c.put_bytes-at_len.new.out
    c.put_bytes-at_value.new.out c.put_bytes-in-Some.new.out c.put_bytes-at_len.ensures.put
    c.put_bytes-at_len.ensures.end (rw c.to_be_bytes.ensures at c.put_bytes-at_value.ensures.put)
    (rw c.to_be_bytes.ensures at c.put_bytes-at_value.ensures.end) c.put_bytes-in-Some.ensures.put fits)
