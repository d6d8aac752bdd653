-- One more byte, which fits.
use Rattle.std.proofs.Common.{◌+◌, ◌*◌, ◌<◌, ◌^◌, ◌∙◌, sym, ap, arith, get_or}
use Rattle.hlc_table_index.specs.Head.{head_upto}
use Rattle.hlc_table_index.proofs.Heads.{head_more, head_fits, head_none}
use Rattle.hlc_table_index.proofs.head.short_head.Goals as goal

fits : (c : goal.In-loop-i) → c.loop-i.head * 256 + get_or c.args.key.now c.loop-i.i 0 < 2 ^ 64
fits c =
    let e = c.loop-i.invariant in
    let few = c.loop-i-test.true in
    omega (arith, e, head_fits c.loop-i.i c.args.key.now (λ k. let b = c.type_inv.key k in omega (arith, b)) few)

pub loop-i-init : goal.loop-i-init
loop-i-init c = sym (head_none c.args.key.now)

pub overflow_mul-head : goal.overflow_mul-head
overflow_mul-head c = let h = fits c in omega arith

pub overflow_add-head : goal.overflow_add-head
overflow_add-head c =
    let e = c.loop-i.invariant in
    let few = c.loop-i-test.true in
    let h = head_fits c.loop-i.i c.args.key.now (λ k. let b = c.type_inv.key k in omega (arith, b)) few in
    let b = c.byte_at.ensures in
    omega arith

pub loop-i-preserved : goal.loop-i-preserved
loop-i-preserved c =
    ap (λ n. n * 256 + c.byte_at.result) c.loop-i.invariant
    ∙ ap (λ n. head_upto c.loop-i.i c.args.key.now * 256 + n) c.byte_at.ensures
    ∙ sym (head_more c.loop-i.i c.args.key.now)
