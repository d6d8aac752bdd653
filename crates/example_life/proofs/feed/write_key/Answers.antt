-- The run goes on with the item, and then with the range's step.
use Rattle.std.proofs.Common.{refl, ap, sym, ◌∙◌}
use Rattle.hlc.specs.{Ranges.IsDividedBy, Ranges.store_of, Store.Took}
use Rattle.hlc_core.specs.Past.{item_rows}
use Rattle.example_life.proofs.Feeding.{none-starts, own-issued, went-on}
use Rattle.example_life.proofs.feed.write_key.Goals as goal

pub returns : goal.returns
returns c = λ rows bound written stood.
    let divided : IsDividedBy stood.layout c.division.result.now =
    λ key. stood.represents.routed key ∙ ap (λ d. store_of d key) (sym c.division.ensures) in
    let went = c.in_ok-store.ensures.extends stood.layout stood.run stood.number stood.represents.legal stood.writes
    divided in
    let issued = c.events_keep_stores.ensures.issued stood.layout _ stood.run c.in_ok-store.store
    c.in_ok-store.item stood.represents went.0 in
    let taken = c.in_ok-accept.ensures.represents stood.layout _ issued
    (own-issued c.in_ok-store.store c.in_ok-store.item stood.run) in
    let kept = c.steps_keep_machines.ensures stood.layout _ stood.number c.in_ok-store.store c.write.new.self
    (Took c.in_ok-store.item) went.1
    (none-starts stood.layout c.in_ok-store.store stood.number c.in_ok-store.item) refl in
    let made = c.in_ok-store.ensures.ok.1 in (
      _,
      record { key = refl; value = refl },
      refl,
      went-on stood c.in_ok-store.store c.in_ok-store.item _ c.accept.new.self c.write.new.self taken kept
          c.in_ok-accept.ensures.division (ap item_rows made.item_is),
    )
