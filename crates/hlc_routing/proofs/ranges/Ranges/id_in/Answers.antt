-- The snapshot's id there is open at its stamp, or is not.
use Rattle.std.proofs.Common.{◌≡◌, ℕ, List, length, Some, None, false, ap, sym, ◌∙◌, subst, rules}
use Rattle.std.{specs.Prelude.slice_get, specs.Prelude.nat_lt, proofs.lemmas.Option.slice_get-get_or}
use Rattle.hlc_core.specs.StoreView.{StoreView}
use Rattle.hlc_ranges.specs.Run.{past_of}
use Rattle.hlc_routing.proofs.OpenAll.{one-id, not-there}
use Rattle.hlc_routing.proofs.ranges.Ranges.id_in.Goals as goal

pub returns-in_default-get : goal.returns-in_default-get
returns-in_default-get c = λ layout run h open'.
    not-there layout c.args.self.now c.args.snapshot.now run c.args.store h
    (subst (λ (xs : List StoreView). nat_lt c.args.store (length xs) ≡ false) c.stores.ensures.value
    (sym c.in_default-get.ensures.lookup.0)) open'

pub returns-in_default-stamp_of : goal.returns-in_default-stamp_of
returns-in_default-stamp_of c = λ layout run h open'.
    let is : slice_get c.args.snapshot.now.ids c.args.store ≡ Some c.in-Some.id.now =
    subst (λ (xs : List ℕ). slice_get xs c.args.store ≡ Some c.in-Some.id.now) c.ids.ensures
    (slice_get-get_or c.ids.result.now c.args.store c.in-Some.id.now c.in-Some.ensures.lookup.3.0
    ∙ ap Some (sym c.in-Some.ensures.lookup.1)) in
    let at : slice_get c.args.self.now.stores c.args.store ≡ Some c.in-Some-get.core.now =
    subst (λ (xs : List StoreView). slice_get xs c.args.store ≡ Some c.in-Some-get.core.now) c.stores.ensures.value
    (slice_get-get_or c.stores.result.now c.args.store c.in-Some-get.core.now c.in-Some-get.ensures.lookup.3.0
    ∙ ap Some (sym c.in-Some-get.ensures.lookup.1)) in
    let e : None ≡ Some c.args.snapshot.now.stamp =
    sym c.in_default-stamp_of.is
    ∙ c.stamp_of.ensures (past_of layout c.args.store run) (h.pasts c.args.store c.in-Some-get.core.now at)
    ∙ one-id layout c.args.snapshot.now run c.args.store c.in-Some.id.now is open' in absurd (cc)

pub returns-then-ne : goal.returns-then-ne
returns-then-ne c = λ layout run h open'.
    let is : slice_get c.args.snapshot.now.ids c.args.store ≡ Some c.in-Some.id.now =
    subst (λ (xs : List ℕ). slice_get xs c.args.store ≡ Some c.in-Some.id.now) c.ids.ensures
    (slice_get-get_or c.ids.result.now c.args.store c.in-Some.id.now c.in-Some.ensures.lookup.3.0
    ∙ ap Some (sym c.in-Some.ensures.lookup.1)) in
    let at : slice_get c.args.self.now.stores c.args.store ≡ Some c.in-Some-get.core.now =
    subst (λ (xs : List StoreView). slice_get xs c.args.store ≡ Some c.in-Some-get.core.now) c.stores.ensures.value
    (slice_get-get_or c.stores.result.now c.args.store c.in-Some-get.core.now c.in-Some-get.ensures.lookup.3.0
    ∙ ap Some (sym c.in-Some-get.ensures.lookup.1)) in
    let e : Some c.in-Some-stamp_of.stamp ≡ Some c.args.snapshot.now.stamp =
    sym c.in-Some-stamp_of.is
    ∙ c.stamp_of.ensures (past_of layout c.args.store run) (h.pasts c.args.store c.in-Some-get.core.now at)
    ∙ one-id layout c.args.snapshot.now run c.args.store c.in-Some.id.now is open' in
    let same : c.in-Some-stamp_of.stamp ≡ c.args.snapshot.now.stamp = cc in search rules

pub returns : goal.returns
returns c = λ layout run h.
    let at : slice_get c.args.self.now.stores c.args.store ≡ Some c.in-Some-get.core.now =
    subst (λ (xs : List StoreView). slice_get xs c.args.store ≡ Some c.in-Some-get.core.now) c.stores.ensures.value
    (slice_get-get_or c.stores.result.now c.args.store c.in-Some-get.core.now c.in-Some-get.ensures.lookup.3.0
    ∙ ap Some (sym c.in-Some-get.ensures.lookup.1)) in
    let same : c.in-Some-stamp_of.stamp ≡ c.args.snapshot.now.stamp = search rules in (
      subst (λ (xs : List ℕ). slice_get xs c.args.store ≡ Some c.in-Some.id.now) c.ids.ensures
          (slice_get-get_or c.ids.result.now c.args.store c.in-Some.id.now c.in-Some.ensures.lookup.3.0
          ∙ ap Some (sym c.in-Some.ensures.lookup.1)),
      sym (c.stamp_of.ensures (past_of layout c.args.store run) (h.pasts c.args.store c.in-Some-get.core.now at))
          ∙ c.in-Some-stamp_of.is ∙ ap Some same,
    )
