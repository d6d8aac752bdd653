-- Each store's checkpoint is the store's, and represents its past.
use Rattle.std.proofs.Common.{◌≡◌, length, Some, refl, ap, subst, arith}
use Rattle.std.{specs.Prelude.slice_get, proofs.lemmas.Option.slice_get_read}
use Rattle.hlc_routing.proofs.Copying.{AreCopied, one-copied, all-kept, all-copied}
use Rattle.hlc_routing.proofs.ranges.Ranges.checkpoints.Goals as goal

pub loop-core-preserved : goal.loop-core-preserved
loop-core-preserved c =
    let at : slice_get c.args.self.now.stores c.loop-core.core-index ≡ Some c.core-item.result =
    subst (λ xs. slice_get xs c.loop-core.core-index ≡ Some c.core-item.result) c.stores-core-items.ensures.value
    (slice_get_read c.stores-core-items.result.now _ c.loop-core.core-index c.core-item.result refl
    c.loop-core-test.true c.core-item.is) in
    record {
      room = omega (arith, c.push_reserved.ensures.capacity, c.loop-core.invariant.room);
      copied = rw c.push_reserved.ensures.items
          (one-copied c.args.self.now.stores c.loop-core.made.items c.loop-core.core-index c.core-item.result
          c.in_ok-checkpoint.field-0 c.loop-core.invariant.copied at
          (record { kept = c.in_ok-checkpoint.ensures.kept; represents = c.in_ok-checkpoint.ensures.represents }));
    }

pub returns-clause-kept : goal.returns-clause-kept
returns-clause-kept c =
    let e : length c.stores-core-items.result.now ≡ length c.args.self.now.stores =
    ap length c.stores-core-items.ensures.value in
    let all' : c.loop-core.core-index ≡ length c.args.self.now.stores = omega arith in
    all-kept c.args.self.now.stores c.loop-core.made.items
    (subst (λ n. AreCopied c.args.self.now.stores c.loop-core.made.items n) all' c.loop-core.invariant.copied)

pub returns-clause-represents : goal.returns-clause-represents
returns-clause-represents c = λ layout run h.
    let e : length c.stores-core-items.result.now ≡ length c.args.self.now.stores =
    ap length c.stores-core-items.ensures.value in
    let all' : c.loop-core.core-index ≡ length c.args.self.now.stores = omega arith in
    all-copied layout c.args.self.now c.loop-core.made.items run
    (subst (λ n. AreCopied c.args.self.now.stores c.loop-core.made.items n) all' c.loop-core.invariant.copied) h
