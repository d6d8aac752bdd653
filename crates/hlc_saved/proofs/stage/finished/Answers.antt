-- The bytes end within a part, or all rows were read: bytes follow, or none do.
use Rattle.std.proofs.Common.{◌≡◌, ◌<◌, arith, sym, subst, ◌∙◌}
use Rattle.hlc_saved.specs.{Saved.Ends, Blocks.RowsLeave, Blocks.Leaves, Blocks.IsStuck}
use Rattle.hlc_saved.proofs.Stages.{ended_start, ended_short, ended_more, ended_all}
use Rattle.hlc_saved.proofs.stage.finished.Goals as goal

pub returns-in-Start : goal.returns-in-Start
returns-in-Start c = λ read has.
    ended_start c.args.rest.now read (subst (λ s. IsStuck s c.args.rest.now) c.in-Start.is c.requires)
    (subst (λ s. Leaves s c.args.rest.now read) c.in-Start.is has)

pub returns-then-left-gt0 : goal.returns-then-left-gt0
returns-then-left-gt0 c = λ read has.
    let lt : 0 < c.in-Rows.left = omega (arith, c.if-left-gt0.true) in
    ended_short c.in-Rows.growing c.in-Rows.left c.args.rest.now read lt
    (subst (λ s. IsStuck s c.args.rest.now) c.in-Rows.is c.requires lt)
    (subst (λ s. Leaves s c.args.rest.now read) c.in-Rows.is has)

pub returns-then-not-is_empty : goal.returns-then-not-is_empty
returns-then-not-is_empty c = λ read has.
    let none : c.in-Rows.left ≡ 0 = omega (arith, c.if-left-gt0.false) in
    ended_more c.in-Rows.growing c.in-Rows.left c.args.rest.now read none (sym c.is_empty.ensures
    ∙ c.if-not-is_empty.true)
    (subst (λ s. Leaves s c.args.rest.now read) c.in-Rows.is has)

pub returns-else-not-is_empty : goal.returns-else-not-is_empty
returns-else-not-is_empty c = λ read has.
    let none : c.in-Rows.left ≡ 0 = omega (arith, c.if-left-gt0.false) in
    let left : RowsLeave c.in-Rows.growing c.in-Rows.left c.args.rest.now read =
    subst (λ s. Leaves s c.args.rest.now read) c.in-Rows.is has in
    subst (λ r. Ends r c.restored.result)
    (sym (ended_all c.in-Rows.growing c.in-Rows.left c.args.rest.now read none (sym c.is_empty.ensures
    ∙ c.if-not-is_empty.false) left))
    (c.restored.ensures left.0 left.1)
