-- The contract of each call says what it did to the past that the core represented before: the snapshot is opened at
-- the floor, listed and closed.
use Rattle.std.proofs.Common.{◌+◌, ◌∷◌, ◌∙◌, ap, subst, sym}
use Rattle.hlc_core.specs.Past.{Opened, Closed, floor, last_id, stamp_of, writes}
use Rattle.hlc_core.specs.{Calls.IsListed, Listing.IsListing, StoreView.Represents}
use Rattle.hlc_storm_report.proofs.Opening.{just_opened}
use Rattle.hlc_storm_report.proofs.found.listed_at_floor.Goals as goal

pub returns-clause-found : goal.returns-clause-found
returns-clause-found c past represents =
    let opening = c.in-Ok.ensures.represents past represents in
    let then = Opened (floor past) ∷ past in
    let id = ap (λ p. p.0) opening.1 in
    let at = ap (λ p. p.1) opening.1 in
    let open_now = ap (λ i. stamp_of i then) id ∙ just_opened past (floor past) represents.legal in
    let listed =
    subst (λ s. IsListed s (writes past) c.in-Ok-list.pairs) open_now (c.in-Ok-list.ensures then opening.2) in
    let closed = (c.in-Ok-close.ensures.represents then opening.2).1 in
    let same = subst (λ i. Represents c.close.new.self (Closed i ∷ then)) id closed in (
      at,
      subst (λ s. IsListing (writes past) s c.in-Ok-list.pairs) (sym at) listed,
      subst (λ s. Represents c.close.new.self (Closed (last_id past + 1) ∷ Opened s ∷ past)) (sym at) same,
    )
