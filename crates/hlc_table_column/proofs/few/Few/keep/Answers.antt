-- The same rows are kept in each array, and those after them are marks.
use Rattle.std.proofs.Common.{◌∙◌, arith}
use Rattle.hlc_table_column.proofs.Moved.{length_front, front_chosen}
use Rattle.hlc_table_column.proofs.few.Few.keep.Goals as goal

pub move_flagged-requires : goal.move_flagged-requires
move_flagged-requires g c =
    let i = c.self.inside in
    let (le, most, s, n, v) = c.self.invariant in
    let count = length_front i.len g.row.N i.stamps i.nodes i.values c.args.self.now le s n v c.self.view_is in
    omega (arith, c.requires)

pub move_flagged-requires-2 : goal.move_flagged-requires-2
move_flagged-requires-2 g c =
    let i = c.self.inside in
    let (le, most, s, n, v) = c.self.invariant in
    let count = length_front i.len g.row.N i.stamps i.nodes i.values c.args.self.now le s n v c.self.view_is in
    omega (arith, c.requires)

pub move_flagged-kept-requires : goal.move_flagged-kept-requires
move_flagged-kept-requires g c =
    let i = c.self.inside in
    let (le, most, s, n, v) = c.self.invariant in
    let count = length_front i.len g.row.N i.stamps i.nodes i.values c.args.self.now le s n v c.self.view_is in
    omega (arith, c.requires)

pub returns : goal.returns
returns g c =
    let i = c.self.inside in
    let (le, most, s, n, v) = c.self.invariant in
    let count = length_front i.len g.row.N i.stamps i.nodes i.values c.args.self.now le s n v c.self.view_is in
    let kept = c.move_flagged-kept.ensures.few in
    let long = c.set_marks.ensures.long in
    front_chosen c.args.keep.now i.len g.row.N c.move_flagged-kept.result c.move_flagged.result c.move_flagged-2.result
    i.stamps i.nodes c.move_flagged-2.new.items c.move_flagged.new.items i.values c.set_marks.new.values
    c.args.self.now le s n v (c.requires ∙ count) c.move_flagged-2.ensures.few c.move_flagged.ensures.few
    (omega (arith, kept, long)) c.move_flagged-2.ensures.front c.move_flagged.ensures.front
    (c.set_marks.ensures.front ∙ c.move_flagged-kept.ensures.front) c.self.view_is
