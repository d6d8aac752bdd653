-- Each leaf adds the plans of its columns and their changes to those before it.
use Rattle.std.proofs.{Common.◌∙◌, Common.ap, Common.subst, Common.sym, Common.take, lemmas.List.take_all}
use Rattle.hlc_columns.specs.Table.{columns_in}
use Rattle.hlc_vacuum_draft.specs.KeyPlan.{IsDraftOf, own_changes}
use Rattle.hlc_vacuum_draft.proofs.JoinedLemmas.{draft_none, own-append}
use Rattle.hlc_vacuum.proofs.Pieces.{leaves_on, leaf_next}
use Rattle.hlc_vacuum.proofs.planner.plan_leaves.Goals as goal

pub loop-leaf-init : goal.loop-leaf-init
loop-leaf-init g c =
    let new = c.new-draft.ensures in
    record {
      draft = draft_none c.args.points.now c.new-draft.result new.keep new.changes new.bytes;
      changes = g.met.C.Changes.none_added c.args.changes.now;
    }

pub loop-leaf-preserved : goal.loop-leaf-preserved
loop-leaf-preserved g c =
    let points = c.args.points.now in
    let leaves = c.args.leaves.now in
    let i = c.loop-leaf.leaf-index in
    let leaf = c.leaf-item.result in
    let inv = c.loop-leaf.invariant in
    record {
      draft = leaves_on points leaves i leaf c.loop-leaf.draft c.add_leaf.new.draft c.requires.ascend
          c.loop-leaf-test.true c.leaf-item.is inv.draft c.in_ok-add_leaf.ensures.draft;
      changes = subst (λ found. g.C.Changes.adds c.args.changes.now found c.add_leaf.new.changes)
          (sym (ap (own_changes points) (leaf_next leaves i leaf c.loop-leaf-test.true c.leaf-item.is)
          ∙ own-append points (columns_in (take i leaves)) leaf))
          (g.met.C.Changes.both_added c.args.changes.now c.loop-leaf.changes c.add_leaf.new.changes
          (own_changes points (columns_in (take i leaves))) (own_changes points leaf) inv.changes
          c.in_ok-add_leaf.ensures.changes);
    }

pub returns-clause-draft : goal.returns-clause-draft
returns-clause-draft g c =
    subst (λ leaves. IsDraftOf (columns_in leaves) c.args.points.now c.loop-leaf.draft)
    (take_all c.loop-leaf.leaf-index c.args.leaves.now c.loop-leaf-test.false) c.loop-leaf.invariant.draft

pub returns-clause-changes : goal.returns-clause-changes
returns-clause-changes g c = λ ok.
    subst (λ leaves. g.C.Changes.adds c.args.changes.now (own_changes c.args.points.now (columns_in leaves))
    c.loop-leaf.changes)
    (take_all c.loop-leaf.leaf-index c.args.leaves.now c.loop-leaf-test.false) c.loop-leaf.invariant.changes
