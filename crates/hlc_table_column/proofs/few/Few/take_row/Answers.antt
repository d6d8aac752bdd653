-- Each array has an item at the position, and a mark in place of the value changes no later row.
use Rattle.std.proofs.Common.{◌∙◌, ◌+◌, arith, ap, refl, sym, drop}
use Rattle.hlc_table_column.proofs.Moved.{length_front, front_there, front_same}
use Rattle.hlc_table_column.proofs.few.Few.take_row.Goals as goal

pub item_at-requires : goal.item_at-requires
item_at-requires g c =
    let i = c.self.inside in
    let (le, most, s, n, v) = c.self.invariant in
    let count = length_front i.len g.row.N i.stamps i.nodes i.values c.args.self.now le s n v c.self.view_is in
    omega (arith, c.requires)

pub item_at-requires-2 : goal.item_at-requires-2
item_at-requires-2 g c =
    let i = c.self.inside in
    let (le, most, s, n, v) = c.self.invariant in
    let count = length_front i.len g.row.N i.stamps i.nodes i.values c.args.self.now le s n v c.self.view_is in
    omega (arith, c.requires)

pub take_value-requires : goal.take_value-requires
take_value-requires g c =
    let i = c.self.inside in
    let (le, most, s, n, v) = c.self.invariant in
    let count = length_front i.len g.row.N i.stamps i.nodes i.values c.args.self.now le s n v c.self.view_is in
    omega (arith, c.requires)

pub invariant_of-self : goal.invariant_of-self
invariant_of-self g c =
    let (le, most, s, n, v) = c.self.invariant in
    (le, most, s, n, c.take_value.ensures.long ∙ v)

pub returns : goal.returns
returns g c =
    let i = c.self.inside in
    let (le, most, s, n, v) = c.self.invariant in
    let count = length_front i.len g.row.N i.stamps i.nodes i.values c.args.self.now le s n v c.self.view_is in
    let there = c.requires in
    let long = c.take_value.ensures.long in
    let values = c.take_value.new.values in record {
      row = front_there i.len c.args.place c.item_at-2.result c.item_at.result c.take_value.result i.stamps i.nodes
          i.values c.args.self.now (omega (arith, count, there)) c.item_at-2.ensures c.item_at.ensures
          c.take_value.ensures.value c.self.view_is;
      after = front_same (c.args.place + 1) i.len i.stamps i.nodes values i.values long c.take_value.ensures.after
          ∙ ap (drop (c.args.place + 1)) c.self.view_is;
      long = length_front i.len g.row.N i.stamps i.nodes values _ le s n (long ∙ v) refl ∙ sym count;
    }
