-- The snapshot is open in the key's store, at its stamp, or it is not; open in all stores it is at a cut.
use Rattle.std.proofs.Common.{◌≡◌, ℕ, ◌<◌, length, Some, ap, sym, subst, arith, option_copied, is_some}
use Rattle.hlc_rows.specs.Rows.{answer}
use Rattle.hlc_core.specs.Past.{stamp_of, writes}
use Rattle.hlc_ranges.specs.Run.{past_of}
use Rattle.hlc_routing.specs.{Division.store_of, All.IsOpenAt}
use Rattle.hlc_routing.proofs.{Opening.open-cut, OpenAll.open-here, OpenAll.id-shut, OpenAll.read-ok, OpenAll.read-err}
use Rattle.hlc_routing.proofs.ranges.Ranges.read_at.Goals as goal

pub returns-in_default-clause-newest : goal.returns-in_default-clause-newest
returns-in_default-clause-newest c = λ layout run h open'.
    let many : length c.args.self.now.stores ≡ layout.stores = h.many in
    let low : c.store_of-store.result < length c.args.self.now.stores = c.store_of-store.ensures.inside in
    absurd (id-shut layout c.args.snapshot.now run c.store_of-store.result c.id_in.result (c.id_in.ensures layout run h)
    (ap is_some c.in_default.is)
    (open-here layout c.args.snapshot.now run c.store_of-store.result open' (omega arith)))

pub returns-in_default-clause-err : goal.returns-in_default-clause-err
returns-in_default-clause-err c = λ layout run h open'.
    id-shut layout c.args.snapshot.now run c.store_of-store.result c.id_in.result (c.id_in.ensures layout run h)
    (ap is_some c.in_default.is) (subst (IsOpenAt layout c.args.snapshot.now run)
    (sym c.store_of-store.ensures.value) open')

pub returns-clause-newest : goal.returns-clause-newest
returns-clause-newest c = λ layout run h open'.
    let found = c.in-Some.ensures layout run h in
    c.read.ensures.newest layout run c.args.snapshot.now.stamp h
    (open-cut layout c.args.self.now c.args.snapshot.now run h open')
    (subst (λ s. stamp_of c.in-Some.id (past_of layout s run) ≡ Some c.args.snapshot.now.stamp)
    c.store_of-store.ensures.value
    found.1)

pub returns-clause-ok : goal.returns-clause-ok
returns-clause-ok c = λ layout run h.
    let store : ℕ = store_of c.args.self.now.division c.args.key.now in
    let found = c.in-Some.ensures layout run h in
    let at : IsOpenAt layout c.args.snapshot.now run store =
    subst (IsOpenAt layout c.args.snapshot.now run) c.store_of-store.ensures.value (c.in-Some.id, found) in
    read-ok c.read.result (stamp_of c.in-Some.id (past_of layout store run)) c.args.snapshot.now.stamp
    (λ stamp value. option_copied value ≡ answer (writes (past_of layout store run)) c.args.key.now stamp)
    (IsOpenAt layout c.args.snapshot.now run store)
    (subst (λ s. stamp_of c.in-Some.id (past_of layout s run) ≡ Some c.args.snapshot.now.stamp)
    c.store_of-store.ensures.value
    found.1) (c.read.ensures.represents layout run h) at

pub returns-clause-err : goal.returns-clause-err
returns-clause-err c = λ layout run h.
    let store : ℕ = store_of c.args.self.now.division c.args.key.now in
    let found = c.in-Some.ensures layout run h in
    read-err c.read.result (stamp_of c.in-Some.id (past_of layout store run)) c.args.snapshot.now.stamp
    (λ stamp value. option_copied value ≡ answer (writes (past_of layout store run)) c.args.key.now stamp)
    (IsOpenAt layout c.args.snapshot.now run store → ⊥)
    (subst (λ s. stamp_of c.in-Some.id (past_of layout s run) ≡ Some c.args.snapshot.now.stamp)
    c.store_of-store.ensures.value
    found.1) (c.read.ensures.represents layout run h)
