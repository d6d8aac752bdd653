-- One more row is stored, which is of a new version.
use Rattle.std.proofs.Common.{◌∙◌, ◌++◌, ◌∷◌, [], sym, ap, append_assoc}
use Rattle.std.proofs.lemmas.List.Sorted.{IsPermutation-trans, IsPermutation-append_left}
use Rattle.hlc_checkpoint.proofs.Restored.{fresh-next}
use Rattle.hlc_checkpoint.proofs.restoring.table_of_moved.Goals as goal

pub add_row-requires : goal.add_row-requires
add_row-requires c =
    fresh-next c.args.rows.items c.loop-row.yielded _ c.in-Some.row c.loop-row.table c.requires
    (ap (λ xs. c.loop-row.yielded ++ xs) (sym c.in-Some.ensures.steps.0) ∙ c.loop-row.invariant.0)
    c.loop-row.invariant.1

pub loop-row-preserved : goal.loop-row-preserved
loop-row-preserved c = (
  rw append_assoc (ap (λ xs. c.loop-row.yielded ++ xs) (sym c.in-Some.ensures.steps.0) ∙ c.loop-row.invariant.0),
  IsPermutation-trans _ _ _ (IsPermutation-append_left (c.in-Some.row ∷ []) c.loop-row.yielded c.loop-row.table
      c.loop-row.invariant.1) c.in_ok-add_row.ensures,
)
