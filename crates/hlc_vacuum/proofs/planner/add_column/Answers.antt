-- The plan is of the key and its rows.
use Rattle.std.proofs.{Common.subst, Common.List, Common.ℕ, Common.None, lemmas.Result.on_ok_weaker}
use Rattle.hlc_table_column.specs.{Cells.Cell, Rows.rows_of}
use Rattle.hlc_witness.specs.AllChanges.{key_changes}
use Rattle.hlc_vacuum_draft.specs.KeyPlan.{AddsPlan}
use Rattle.hlc_vacuum.proofs.planner.add_column.Goals as goal

pub returns-clause-plan : goal.returns-clause-plan
returns-clause-plan g c =
    let one = c.args.one.now in
    let points = c.args.points.now in
    let old = c.args.draft.now in
    let new = c.add.new.self in
    on_ok_weaker c.add.result
    (λ adds. subst (λ (k : List ℕ). AddsPlan (rows_of k one.cells) k points old.changes new.changes
    old.keep new.keep old.bytes new.bytes) c.key.ensures
    (subst (λ (cells : List Cell). AddsPlan (rows_of c.key.result.now cells) c.key.result.now points
    old.changes new.changes old.keep new.keep old.bytes new.bytes) c.column.ensures adds))
    c.add.ensures.plan

pub returns-clause-changes : goal.returns-clause-changes
returns-clause-changes g c =
    let one = c.args.one.now in
    let points = c.args.points.now in
    on_ok_weaker c.add.result
    (λ adds. subst (λ (k : List ℕ). g.C.Changes.adds c.args.changes.now
    (key_changes (rows_of k one.cells) k None points) c.add.new.changes) c.key.ensures
    (subst (λ (cells : List Cell). g.C.Changes.adds c.args.changes.now
    (key_changes (rows_of c.key.result.now cells) c.key.result.now None points) c.add.new.changes)
    c.column.ensures adds))
    c.add.ensures.changes
