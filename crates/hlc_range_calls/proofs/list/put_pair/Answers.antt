-- The key, and the value after it.
use Rattle.hlc_range_calls.specs.Listing.{sized}
use Rattle.hlc_wire.proofs.PlacingLemmas.{put_both}
use Rattle.hlc_range_calls.proofs.list.put_pair.Goals as goal

pub returns-clause-put : goal.returns-clause-put
returns-clause-put c =
    put_both c.args.at c.put_sized-between.result (sized c.args.key.now) (sized c.args.value.now) c.args.out.now
    c.put_sized-between.new.out c.put_sized.new.out c.put_sized-between.ensures.put c.put_sized-between.ensures.end
    c.put_sized.ensures.put c.requires
