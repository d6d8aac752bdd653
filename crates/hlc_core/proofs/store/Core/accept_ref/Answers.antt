-- The copies of an item that is not refused are the rows of its past.
use Rattle.std.proofs.{Common.◌+◌, Common.inl, Common.inr, Common.refl, lemmas.Result.err_from_is_err_and}
use Rattle.hlc_node.specs.Items.{retires}
use Rattle.hlc_heads.specs.Heads.{a_link}
use Rattle.hlc_core.proofs.Links.{fault-expected, admitted, admitted-expected}
use Rattle.hlc_core.proofs.{TakingLemmas.took, Consistent.consistent-accept, Sound.sound-accept, Sound.sound-moved}
use Rattle.hlc_core.proofs.Moved.{fresh, consistent-moved, represents-moved}
use Rattle.hlc_core.proofs.store.Core.accept_ref.Goals as goal

pub returns-in-Err-clause-represents : goal.returns-in-Err-clause-represents
returns-in-Err-clause-represents c = λ past h.
    let h' = rw (← c.self.view_is) at h in
    let looked = rw c.links.ensures at c.in-Err.ensures in
    inl (fault-expected _ past c.args.item.now c.in-Err.fault h' looked)

pub returns-in_err-store_copy-clause-represents : goal.returns-in_err-store_copy-clause-represents
returns-in_err-store_copy-clause-represents c = λ past h.
    let h' = rw (← c.self.view_is) at h in
    let looked = rw c.links.ensures at c.in-Ok.ensures in
    let p = err_from_is_err_and c.from_residual.result c.from_residual.ensures.1 in
    rw (p.1, p.2)
    (inr (admitted-expected _ past c.args.item.now h' looked, refl, c.in_err-store_copy.ensures.err.0))

pub store_copy-requires-clause-new : goal.store_copy-requires-clause-new
store_copy-requires-clause-new c =
    let is = admitted _ c.args.item.now (rw c.links.ensures at c.in-Ok.ensures) in
    fresh _ _ _ c.args.item.now.node c.args.item.now.stamp c.args.item.now.body c.self.invariant.0 is.rising

pub store_copy-requires-clause-good : goal.store_copy-requires-clause-good
store_copy-requires-clause-good c = (admitted _ c.args.item.now (rw c.links.ensures at c.in-Ok.ensures)).limits

pub accept-requires-clause-node : goal.accept-requires-clause-node
accept-requires-clause-node c =
    let is = admitted _ c.args.item.now (rw c.links.ensures at c.in-Ok.ensures) in
    rw c.node.ensures is.within

pub accept-requires-clause-open : goal.accept-requires-clause-open
accept-requires-clause-open c =
    let is = admitted _ c.args.item.now (rw c.links.ensures at c.in-Ok.ensures) in
    rw c.node.ensures is.here

pub accept-requires-clause-rising : goal.accept-requires-clause-rising
accept-requires-clause-rising c =
    let is = admitted _ c.args.item.now (rw c.links.ensures at c.in-Ok.ensures) in
    rw (c.node.ensures, c.stamp.ensures) is.rising

pub invariant_of-self-2 : goal.invariant_of-self-2
invariant_of-self-2 c =
    let is = admitted _ c.args.item.now (rw c.links.ensures at c.in-Ok.ensures) in
    let item = c.args.item.now in
    rw (c.accept.ensures.marked, c.node.ensures, c.stamp.ensures, c.retires.ensures, is.after) (
      consistent-moved _ _ _ _
          (consistent-accept _ _ _ item.node (a_link (item.number + 1) item.stamp (retires item.body)) item.body
          c.self.invariant.0 is.within is.here is.rising is.limits)
          c.in_ok-store_copy.ensures.ok,
      sound-moved _ _ _ _ _ _
          (sound-accept _ c.self.inside.heads _ _ item.node item.number item.stamp item.body (retires item.body)
          c.self.invariant.1 is.within is.here is.number is.rising is.limits)
          c.in_ok-store_copy.ensures.ok,
    )

pub returns-clause-represents : goal.returns-clause-represents
returns-clause-represents c = λ past h.
    let h' = rw (← c.self.view_is) at h in
    let looked = rw c.links.ensures at c.in-Ok.ensures in
    let is = admitted _ c.args.item.now looked in
    let none = admitted-expected _ past c.args.item.now h' looked in
    rw (c.accept.ensures.marked, c.node.ensures, c.stamp.ensures, c.retires.ensures, is.after) (
      none,
      represents-moved _ _ _ (took _ past c.args.item.now h' none) c.in_ok-store_copy.ensures.ok,
    )
