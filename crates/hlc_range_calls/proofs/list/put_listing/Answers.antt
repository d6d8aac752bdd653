-- One more pair is put after those before it; and at the end none is left.
use Rattle.hlc_range_calls.{specs.Listing.pair_bytes, proofs.ByteLemmas.put_next}
use Rattle.hlc_range_calls.proofs.list.put_listing.Goals as goal

pub loop-key-preserved : goal.loop-key-preserved
loop-key-preserved c =
    put_next pair_bytes c.args.answers c.loop-key.key-iterator c.next.new.self (c.in-Some.key.now, c.in-Some.value.now)
    c.loop-key.invariant.0 c.args.out.now c.loop-key.out c.put_pair-at.new.out c.loop-key.at c.put_pair-at.result
    c.in-Some.ensures.steps c.loop-key.invariant.1 c.loop-key.invariant.2 c.loop-key.invariant.3
    c.put_pair-at.ensures.end c.put_pair-at.ensures.put c.requires
