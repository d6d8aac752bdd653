-- The stamp, the node, and the answer after them.
use Rattle.std.proofs.Common.{◌≡◌, ◌∙◌, ap}
use Rattle.std.specs.{Prelude.option_copied, Int.to_le_bytes, Int.w16, Int.w64}
use Rattle.hlc_range_calls.specs.Listing.{answer_bytes}
use Rattle.hlc_wire.proofs.PlacingLemmas.{put_three}
use Rattle.hlc_range_calls.proofs.versions.put_version.Goals as goal

pub returns-clause-put : goal.returns-clause-put
returns-clause-put c =
    let stamp : c.to_le_bytes.result ≡ to_le_bytes w64 c.args.stamp =
    c.to_le_bytes.ensures ∙ ap (to_le_bytes w64) c.bits.ensures.value in
    let node : c.to_le_bytes-2.result ≡ to_le_bytes w16 c.args.node = c.to_le_bytes-2.ensures in
    put_three c.args.at c.put_bytes-middle.result c.put_bytes-start.result (to_le_bytes w64 c.args.stamp)
    (to_le_bytes w16 c.args.node) (answer_bytes (option_copied c.args.value)) c.args.out.now c.put_bytes-middle.new.out
    c.put_bytes-start.new.out c.put_answer.new.out (rw stamp at c.put_bytes-middle.ensures.put)
    (rw stamp at c.put_bytes-middle.ensures.end) (rw node at c.put_bytes-start.ensures.put)
    (rw node at c.put_bytes-start.ensures.end) c.put_answer.ensures.put c.requires
