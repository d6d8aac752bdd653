-- One more row is copied, if it is on the side.
use Rattle.std.proofs.Common.{◌∙◌, ℕ, List, Vec, Global, ap, sym, get_or, arith}
use Rattle.hlc_rows.specs.declared.row.Row.{Row}
use Rattle.hlc_checkpoint.{specs.Sorted.is_on, proofs.Copied.kept_on, proofs.Copied.passed_on}
use Rattle.hlc_checkpoint.proofs.sorted.copy_column.Goals.{then-is_on+in_ok-row+in_ok-push, else-is_on}
use Rattle.hlc_checkpoint.proofs.sorted.copy_column.Goals as goal

pub loop-place-preserved : goal.loop-place-preserved
loop-place-preserved c =
    let items : Vec Row Global → List Row = λ copies. copies.items in
    let same = ap (λ (xs : List ℕ). is_on c.args.side.now (get_or xs c.loop-place.place 0))
    c.stamps-stamps.ensures in
    elim c.if-is_on.branch [
      | then-is_on+in_ok-row+in_ok-push w ↦
          kept_on c.args.side.now c.args.key.now c.args.column c.loop-place.place 0 w.in_ok-row.row
          c.args.copies.now.items c.loop-place.copies.items c.if-is_on.copies.items w.in_ok-row.ensures
          (sym same ∙ sym c.is_on.ensures ∙ w.if-is_on.true)
          c.loop-place.invariant (ap items w.copies-is ∙ w.in_ok-push.ensures.items)
      | else-is_on w ↦
          ap items w.copies-is ∙ passed_on c.args.side.now c.args.key.now c.args.column
          c.loop-place.place 0 c.args.copies.now.items c.loop-place.copies.items
          (omega (arith, c.loop-place-test.true, c.len-place-end.ensures))
          (sym same ∙ sym c.is_on.ensures ∙ w.if-is_on.false)
          c.loop-place.invariant
    ]
