-- The items of each list stay, and the one with the least room says how many rows fit.
use Rattle.std.proofs.Common.{length, sym, ap, ◌∙◌, refl, arith, true≢false}
use Rattle.hlc_table_column.proofs.{Beside.length_cells, Moved.same_lists, Moved.fits_each}
use Rattle.hlc_table_column.proofs.lists.Lists.reserve.Goals as goal

pub invariant_of-self : goal.invariant_of-self
invariant_of-self g c =
    let i = c.self.inside in
    same_lists i.stamps.items i.nodes.items c.make_room.new.items.items i.nodes.items i.order.items i.values.items
    i.values.items c.make_room.ensures.items refl refl c.self.invariant

pub invariant_of-self-in_err-make_room-2 : goal.invariant_of-self-in_err-make_room-2
invariant_of-self-in_err-make_room-2 g c =
    let i = c.self.inside in
    same_lists i.stamps.items i.nodes.items c.make_room.new.items.items c.make_room-2.new.items.items i.order.items
    i.values.items i.values.items c.make_room.ensures.items c.make_room-2.ensures.items refl c.self.invariant

pub invariant_of-self-in_err-make_room-3 : goal.invariant_of-self-in_err-make_room-3
invariant_of-self-in_err-make_room-3 g c =
    let i = c.self.inside in
    same_lists i.stamps.items i.nodes.items c.make_room.new.items.items c.make_room-2.new.items.items i.order.items
    i.values.items c.make_room-3.new.items.items c.make_room.ensures.items c.make_room-2.ensures.items
    c.make_room-3.ensures.items c.self.invariant

pub invariant_of-self-2 : goal.invariant_of-self-2
invariant_of-self-2 g c =
    let i = c.self.inside in
    same_lists i.stamps.items i.nodes.items c.make_room.new.items.items c.make_room-2.new.items.items i.order.items
    i.values.items c.make_room-3.new.items.items c.make_room.ensures.items c.make_room-2.ensures.items
    c.make_room-3.ensures.items c.self.invariant

pub returns-in_err-make_room-clause-succeeds : goal.returns-in_err-make_room-clause-succeeds
returns-in_err-make_room-clause-succeeds g c = λ few.
    let i = c.self.inside in
    let fits = fits_each i.stamps.items i.nodes.items i.values.items i.stamps.capacity i.nodes.capacity
    i.values.capacity c.args.self.now c.self.invariant.0 c.self.view_is few in
    absurd (true≢false (sym (c.in_err-make_room.ensures.succeeds (omega (arith, fits.0)))))

pub returns-in_err-make_room-2-clause-succeeds : goal.returns-in_err-make_room-2-clause-succeeds
returns-in_err-make_room-2-clause-succeeds g c = λ few.
    let i = c.self.inside in
    let fits = fits_each i.stamps.items i.nodes.items i.values.items i.stamps.capacity i.nodes.capacity
    i.values.capacity c.args.self.now c.self.invariant.0 c.self.view_is few in
    absurd (true≢false (sym (c.in_err-make_room-2.ensures.succeeds (omega (arith, fits.1)))))

pub returns-in_err-make_room-3-clause-succeeds : goal.returns-in_err-make_room-3-clause-succeeds
returns-in_err-make_room-3-clause-succeeds g c = λ few.
    let i = c.self.inside in
    let fits = fits_each i.stamps.items i.nodes.items i.values.items i.stamps.capacity i.nodes.capacity
    i.values.capacity c.args.self.now c.self.invariant.0 c.self.view_is few in
    absurd (true≢false (sym (c.in_err-make_room-3.ensures.succeeds (omega (arith, fits.2)))))

pub returns-clause-ok : goal.returns-clause-ok
returns-clause-ok g c =
    let b = c.self.invariant.0 in
    let e = ap length c.make_room.ensures.items in
    let f = ap length c.make_room-2.ensures.items in
    let h = ap length c.make_room-3.ensures.items in
    let count = length_cells c.make_room.new.items.items c.make_room-2.new.items.items c.make_room-3.new.items.items
    (f ∙ b.0 ∙ sym e, h ∙ b.1 ∙ sym e) in
    let first = c.in_ok-make_room.ensures.ok in
    omega (arith, c.in_ok-make_room-2.ensures.ok, c.in_ok-make_room-3.ensures.ok, b.0, b.1)
