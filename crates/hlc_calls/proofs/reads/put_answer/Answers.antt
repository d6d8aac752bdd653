-- The byte, and the value after it.
use Rattle.std.proofs.Common.{[], ◌∷◌, arith}
use Rattle.hlc_range_calls.specs.Listing.{sized}
use Rattle.hlc_wire.proofs.PlacingLemmas.{put_both}
use Rattle.hlc_calls.proofs.reads.put_answer.Goals as goal

pub returns-else-room-value : goal.returns-else-room-value
returns-else-room-value c =
    let short = c.if-room-lt9.false in
    let fits = c.if-room-value.false in
    let start = c.put_bytes-start.ensures.end in
    let end = c.put_sized.ensures.end in
    rw c.in-Some.is (
      omega (arith, start, end),
      omega (arith, start, end, short, fits),
      put_both c.args.at c.put_bytes-start.result (1 ∷ []) (sized c.in-Some.value.now) c.args.out.now
          c.put_bytes-start.new.out c.put_sized.new.out c.put_bytes-start.ensures.put start c.put_sized.ensures.put
          (omega (arith, short, fits)),
    )
