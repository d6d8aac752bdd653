-- The byte, and the value after it.
use Rattle.std.proofs.Common.{[], ◌∷◌}
use Rattle.hlc_range_calls.specs.Listing.{sized}
use Rattle.hlc_wire.proofs.PlacingLemmas.{put_both}
use Rattle.hlc_range_calls.proofs.list.put_answer.Goals as goal

pub returns-in-Some-clause-put : goal.returns-in-Some-clause-put
returns-in-Some-clause-put c =
    let fits = rw c.in-Some.is at c.requires in
    rw c.in-Some.is
    (put_both c.args.at c.put_bytes-start.result (1 ∷ []) (sized c.in-Some.value.now) c.args.out.now
    c.put_bytes-start.new.out c.put_sized.new.out c.put_bytes-start.ensures.put c.put_bytes-start.ensures.end
    c.put_sized.ensures.put fits)
