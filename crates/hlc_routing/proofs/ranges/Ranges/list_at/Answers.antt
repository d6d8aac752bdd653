-- A snapshot that is open in all stores is at a cut, at which each store answers for its keys.
use Rattle.std.proofs.Common.{◌≡◌, true, false, sym, ◌∙◌, inl, refl}
use Rattle.hlc_routing.{specs.All.IsOpenAll, proofs.Opening.open-cut, proofs.Gathered.gathered}
use Rattle.hlc_routing.proofs.ranges.Ranges.list_at.Goals as goal

pub returns-clause-ok : goal.returns-clause-ok
returns-clause-ok c = λ layout run h.
    let open' : IsOpenAll layout c.args.snapshot.now run =
    (c.is_open_all.ensures layout run h).0 c.if-not-is_open_all.false in
    rw c.from_vec.ensures
    (gathered layout run c.args.snapshot.now.stamp c.args.from.now _ _ _ h.legal
    (c.cuts_are_consistent.ensures layout run c.args.snapshot.now.stamp h.legal
    (open-cut layout c.args.self.now c.args.snapshot.now run h open')).issued
    (c.in_ok-gather.ensures.ok layout run h open') c.sort.ensures.same c.sort.ensures.ascend)

pub returns-clause-open : goal.returns-clause-open
returns-clause-open c = λ layout run h. (c.is_open_all.ensures layout run h).0 c.if-not-is_open_all.false

pub returns-then-not-is_open_all-clause-err : goal.returns-then-not-is_open_all-clause-err
returns-then-not-is_open_all-clause-err c = λ layout run h.
    inl (
      λ all'. absurd (let e : false ≡ true =
          sym c.if-not-is_open_all.true ∙ (c.is_open_all.ensures layout run h).1 all' in cc),
      refl,
    )
