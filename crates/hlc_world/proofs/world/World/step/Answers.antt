-- What is true of every legal schedule is true of the one with this event, which the world represents.
use Rattle.std.proofs.Common.{◌∷◌}
use Rattle.hlc_world.proofs.{Times.less, Times.closed, StoreEvents.goes-by-number}
use Rattle.hlc_world.proofs.{Orderly.complete, Orderly.below_clocks, Rises.rising, Faithful.faithful}
use Rattle.hlc_world.proofs.world.World.step.Goals as goal

pub returns-clause-ordered : goal.returns-clause-ordered
returns-clause-ordered c = λ nodes s i j n a m b h before x y.
    less nodes _ i j n a m b (c.take_place.ensures.represents nodes s h).legal before x y

pub returns-clause-complete : goal.returns-clause-complete
returns-clause-complete c = λ nodes s h.
    complete nodes ((c.args.event, c.take_place.result) ∷ s) (c.take_place.ensures.represents nodes s h).legal

pub returns-clause-clocks : goal.returns-clause-clocks
returns-clause-clocks c = λ nodes s h.
    below_clocks nodes ((c.args.event, c.take_place.result) ∷ s) (c.take_place.ensures.represents nodes s h).legal

pub returns-clause-rising : goal.returns-clause-rising
returns-clause-rising c = λ nodes s head h.
    rising nodes s c.args.event head c.take_place.result (c.take_place.ensures.represents nodes s h).legal

pub returns-clause-numbered : goal.returns-clause-numbered
returns-clause-numbered c = λ nodes s h. goes-by-number nodes s h.legal

pub returns-clause-closed : goal.returns-clause-closed
returns-clause-closed c = λ nodes s h.
    closed nodes ((c.args.event, c.take_place.result) ∷ s) (c.take_place.ensures.represents nodes s h).legal

pub returns-clause-faithful : goal.returns-clause-faithful
returns-clause-faithful c = λ nodes s h.
    faithful nodes c.take_place.new.self ((c.args.event, c.take_place.result) ∷ s)
    (c.take_place.ensures.represents nodes s h)
