-- One more item is put after those before it, if it fits.
use Rattle.std.proofs.Common.{◌≤◌, ◌+◌, ◌-◌, ◌∙◌, ℕ, List, sym, length, arith, Option, option_copied, leb-true}
use Rattle.hlc_range_calls.specs.Changes.{change_bytes}
use Rattle.hlc_range_calls.proofs.{Differing.change_long, ScanLemmas.room-left, ScanLemmas.few-put, ScanLemmas.put-one}
use Rattle.hlc_range_calls.proofs.changes.put_changes.Goals as goal

pub overflow_add-index : goal.overflow_add-index
overflow_add-index c =
    let few = few-put change_bytes (change_long) c.args.changes c.loop-key.key-iterator
    c.loop-key.at c.loop-key.index c.args.out.now c.loop-key.out c.loop-key.invariant in
    let long = change_long (c.in-Some.key.now, option_copied c.in-Some.value) in
    omega (arith, few, long, c.put_change-at.ensures.end, c.put_change-at.type_inv)

pub loop-key-preserved : goal.loop-key-preserved
loop-key-preserved c =
    let room = room-left change_bytes c.args.changes c.loop-key.key-iterator
    c.loop-key.at c.loop-key.index c.args.out.now c.loop-key.out c.loop-key.invariant in
    let item : List ℕ × Option (List ℕ) = (c.in-Some.key.now, option_copied c.in-Some.value) in
    let small = leb-true (length (change_bytes item))
    (length c.loop-key.out - c.loop-key.at) (sym c.fits.ensures ∙ c.if-not-fits.false) in
    let fits : c.loop-key.at + length (change_bytes item) ≤ length c.loop-key.out =
    omega (arith, small, room.1) in
    put-one change_bytes c.args.changes c.loop-key.key-iterator c.next.new.self item c.loop-key.at
    c.put_change-at.result c.loop-key.index c.args.out.now c.loop-key.out c.put_change-at.new.out c.loop-key.invariant
    c.in-Some.ensures.steps fits c.put_change-at.ensures.end c.put_change-at.ensures.put
