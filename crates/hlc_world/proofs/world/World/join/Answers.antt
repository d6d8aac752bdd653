-- The store assigns the next number, and the floor as the start of the node's clock.
use Rattle.std.proofs.Common.{ℕ, ap}
use Rattle.hlc_world.{specs.Store.core_past, proofs.StoreEvents.joins}
use Rattle.hlc_world.proofs.world.World.join.Goals as goal

pub returns-in-Ok-clause-represents : goal.returns-in-Ok-clause-represents
returns-in-Ok-clause-represents c = λ nodes s h.
    let h' = rw (← c.self.view_is) at h in
    let j = c.in-Ok.ensures.represents (core_past nodes s) h'.core in
    rw (c.push_reserved.ensures.items, c.try_reserve.ensures.items, c.new.ensures)
    (joins nodes _ s c.in-Ok.made.0 c.in-Ok.made.1 c.join.new.self h' j.0
    (ap (λ (m : ℕ × ℕ). m.0) j.1) (ap (λ (m : ℕ × ℕ). m.1) j.1) j.2)
