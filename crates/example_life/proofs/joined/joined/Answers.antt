-- The cut is consistent, each range represents its past, and so does its checkpoint.
use Rattle.std.proofs.Common.{◌≡◌, List, Some, refl, subst, arith}
use Rattle.std.{specs.Prelude.slice_get, proofs.lemmas.Option.slice_get_read}
use Rattle.hlc.specs.Store.{StoreView}
use Rattle.example_life.proofs.Joining.{joined-answers}
use Rattle.example_life.proofs.joined.joined.Goals as goal

pub returns-in-Ok-Ok : goal.returns-in-Ok-Ok
returns-in-Ok-Ok c = λ rows bound written machine stood.
    let stores = c.stores.result.now in
    let first : slice_get c.args.ranges.now.stores 0 ≡ Some c.low-item.result =
    subst (λ (xs : List StoreView). slice_get xs 0 ≡ Some c.low-item.result) c.stores.ensures.value
    (slice_get_read stores _ 0 c.low-item.result refl (omega (arith, c.in-len2.len_at_least)) c.low-item.is) in
    let second : slice_get c.args.ranges.now.stores 1 ≡ Some c.high-item.result =
    subst (λ (xs : List StoreView). slice_get xs 1 ≡ Some c.high-item.result) c.stores.ensures.value
    (slice_get_read stores _ 1 c.high-item.result refl (omega (arith, c.in-len2.len_at_least)) c.high-item.is) in
    let low = c.in_ok-checkpoint.ensures.represents _ (stood.represents.pasts 0 c.low-item.result first) in
    let high = c.in_ok-checkpoint-2.ensures.represents _ (stood.represents.pasts 1 c.high-item.result second) in
    let links = c.in_ok-left.ensures in
    joined-answers stood c.cut-cut.result _ _ c.in_ok-left.left c.in_ok-left.right c.in-Ok-Ok.whole links.0 low high
    (c.cut-cut.ensures.consistent stood.layout stood.run stood.represents)
    (λ s key at other. c.keys_stay_in_their_store.ensures stood.layout stood.run s key at stood.represents.legal other)
    links.1 links.2 (rw c.in-Ok-Ok.field-0-is at c.in-Ok-Ok.ensures.ok)
    (λ key at. rw c.in-Ok-Ok.field-0-is at (c.in-Ok-Ok.ensures.answers key at))
    (rw c.in-Ok-Ok.field-0-is at c.in-Ok-Ok.ensures.joinable)
