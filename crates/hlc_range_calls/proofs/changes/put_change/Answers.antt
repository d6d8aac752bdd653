-- The key, and the answer after it.
use Rattle.std.specs.Prelude.{option_copied}
use Rattle.hlc_range_calls.specs.Listing.{sized, answer_bytes}
use Rattle.hlc_wire.proofs.PlacingLemmas.{put_both}
use Rattle.hlc_range_calls.proofs.changes.put_change.Goals as goal

pub returns-clause-put : goal.returns-clause-put
returns-clause-put c =
    put_both c.args.at c.put_sized-between.result (sized c.args.key.now) (answer_bytes (option_copied c.args.value))
    c.args.out.now c.put_sized-between.new.out c.put_answer.new.out c.put_sized-between.ensures.put
    c.put_sized-between.ensures.end c.put_answer.ensures.put c.requires
