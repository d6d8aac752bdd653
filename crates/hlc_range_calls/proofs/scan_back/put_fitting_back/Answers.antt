-- One more item is put after those before it, if it fits.
use Rattle.std.proofs.Common.{◌≤◌, ◌+◌, ◌-◌, ◌∙◌, ℕ, List, sym, length, arith, leb-true, false}
use Rattle.hlc_range_calls.specs.Listing.{pair_bytes}
use Rattle.hlc_range_calls.proofs.ScanLemmas.{part_length, room-left, few-put, put-one}
use Rattle.hlc_range_calls.proofs.scan_back.put_fitting_back.Goals as goal

pub overflow_add-index : goal.overflow_add-index
overflow_add-index c =
    let few = few-put pair_bytes (part_length false) c.args.answers c.loop-key.key-iterator
    c.loop-key.at c.loop-key.index c.args.out.now c.loop-key.out c.loop-key.invariant in
    let long = part_length false (c.in-Some.key.now, c.in-Some.value.now) in
    omega (arith, few, long, c.put_pair-at.ensures.end, c.put_pair-at.type_inv)

pub loop-key-preserved : goal.loop-key-preserved
loop-key-preserved c =
    let room = room-left pair_bytes c.args.answers c.loop-key.key-iterator
    c.loop-key.at c.loop-key.index c.args.out.now c.loop-key.out c.loop-key.invariant in
    let item : List ℕ × List ℕ = (c.in-Some.key.now, c.in-Some.value.now) in
    let small = leb-true (length (pair_bytes item))
    (length c.loop-key.out - c.loop-key.at) (sym c.fits.ensures ∙ c.if-not-fits.false) in
    let fits : c.loop-key.at + length (pair_bytes item) ≤ length c.loop-key.out =
    omega (arith, small, room.1) in
    put-one pair_bytes c.args.answers c.loop-key.key-iterator c.next.new.self item c.loop-key.at
    c.put_pair-at.result c.loop-key.index c.args.out.now c.loop-key.out c.put_pair-at.new.out c.loop-key.invariant
    c.in-Some.ensures.steps fits c.put_pair-at.ensures.end c.put_pair-at.ensures.put
