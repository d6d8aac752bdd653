-- Each array has one more item after its first ones.
use Rattle.std.proofs.Common.{◌∙◌, arith, length-set}
use Rattle.hlc_table_column.proofs.Moved.{length_front, beside_front, pushed_cells, front_push}
use Rattle.hlc_table_column.proofs.few.Few.push.Goals as goal

pub bounds-self-inside-len : goal.bounds-self-inside-len
bounds-self-inside-len g c =
    let i = c.self.inside in
    let (le, most, s, n, v) = c.self.invariant in
    let count = length_front i.len g.row.N i.stamps i.nodes i.values c.args.self.now le s n v c.self.view_is in
    omega (arith, c.requires)

pub bounds-self-inside-len-2 : goal.bounds-self-inside-len-2
bounds-self-inside-len-2 g c =
    let i = c.self.inside in
    let (le, most, s, n, v) = c.self.invariant in
    let count = length_front i.len g.row.N i.stamps i.nodes i.values c.args.self.now le s n v c.self.view_is in
    omega (arith, c.requires)

pub listed : goal.listed
listed g c =
    let i = c.self.inside in
    let (le, most, s, n, v) = c.self.invariant in
    let count = length_front i.len g.row.N i.stamps i.nodes i.values c.args.self.now le s n v c.self.view_is in
    omega (arith, c.requires)

pub way_replace-self : goal.way_replace-self
way_replace-self g c =
    let i = c.self.inside in
    let (le, most, s, n, v) = c.self.invariant in
    let count = length_front i.len g.row.N i.stamps i.nodes i.values c.args.self.now le s n v c.self.view_is in
    omega (arith, c.requires)

pub overflow_add-self : goal.overflow_add-self
overflow_add-self g c =
    let i = c.self.inside in
    let (le, most, s, n, v) = c.self.invariant in
    let count = length_front i.len g.row.N i.stamps i.nodes i.values c.args.self.now le s n v c.self.view_is in
    omega (arith, c.requires)

pub invariant_of-self : goal.invariant_of-self
invariant_of-self g c =
    let i = c.self.inside in
    let r = c.row.inside in
    let (le, most, s, n, v) = c.self.invariant in
    let count = length_front i.len g.row.N i.stamps i.nodes i.values c.args.self.now le s n v c.self.view_is in
    let fits = c.requires in (
      omega (arith, count, fits),
      most,
      length-set i.stamps i.len r.stamp ∙ s,
      length-set i.nodes i.len r.node ∙ n,
      length-set i.values i.len r.value ∙ v,
    )

pub returns : goal.returns
returns g c =
    let i = c.self.inside in
    let r = c.row.inside in
    let (le, most, s, n, v) = c.self.invariant in
    let count = length_front i.len g.row.N i.stamps i.nodes i.values c.args.self.now le s n v c.self.view_is in
    let fits = c.requires in
    pushed_cells _ _ _ _ _ _ r.stamp r.node r.value c.args.row c.args.self.now
    (beside_front i.len g.row.N i.stamps i.nodes i.values le s n v)
    (front_push i.len g.row.N i.stamps r.stamp (omega (arith, count, fits)) s)
    (front_push i.len g.row.N i.nodes r.node (omega (arith, count, fits)) n)
    (front_push i.len g.row.N i.values r.value (omega (arith, count, fits)) v) c.self.view_is c.row.view_is
