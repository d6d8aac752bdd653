-- The run goes on with the report, which has no rows, and then with the range's step.
use Rattle.std.proofs.Common.{refl, ap, subst, append-nil, [], List}
use Rattle.hlc.specs.{Node.Row, Store.Took}
use Rattle.hlc_core.specs.Past.{item_rows}
use Rattle.example_life.specs.Life.{HaveGoneOn}
use Rattle.example_life.proofs.Feeding.{none-starts, own-issued, went-on}
use Rattle.example_life.proofs.feed.report.Goals as goal

pub returns : goal.returns
returns c = λ rows bound written stood.
    let went = c.in_ok-item.ensures.extends stood.layout stood.run stood.number stood.represents.legal stood.writes in
    let issued = c.events_keep_stores.ensures.issued stood.layout _ stood.run c.args.store c.in_ok-item.item
    stood.represents went.0 in
    let taken = c.in_ok-accept.ensures.represents stood.layout _ issued
    (own-issued c.args.store c.in_ok-item.item stood.run) in
    let kept = c.steps_keep_machines.ensures stood.layout _ stood.number c.args.store c.report.new.self
    (Took c.in_ok-item.item) went.1
    (none-starts stood.layout c.args.store stood.number c.in_ok-item.item) refl in
    subst (λ (all : List Row). HaveGoneOn rows bound all c.accept.new.self c.report.new.self) (append-nil written)
    (went-on stood c.args.store c.in_ok-item.item [] c.accept.new.self c.report.new.self taken kept
    c.in_ok-accept.ensures.division (ap item_rows c.in_ok-item.ensures.ok.item_is))
