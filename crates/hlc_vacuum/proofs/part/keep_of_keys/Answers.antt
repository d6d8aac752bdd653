-- One more key.
use Rattle.std.proofs.Common.{◌+◌, ◌∙◌, ◌≤◌, ap, ap₂, subst, sym, refl, drop, length, take}
use Rattle.std.proofs.lemmas.List.{drop_all}
use Rattle.hlc_table_column.specs.Rows.{rows_with}
use Rattle.hlc_columns.specs.Table.{rows_kept}
use Rattle.hlc_vacuum.specs.Part.{all_kept, HaveFlags}
use Rattle.hlc_vacuum.proofs.{PartRows.flags-step, PartRows.kept-step, part.keep_of_keys.Goals.After-as_slice}
use Rattle.hlc_vacuum.proofs.part.keep_of_keys.Goals as goal

pub loop-key-init : goal.loop-key-init
loop-key-init c = record { rows = refl; enough = c.requires }

-- the flags of the key and of the later ones
enough : (c : After-as_slice)
    → (length (rows_with c.key-item.result c.loop-key.table) ≤ length c.loop-key.left)
    × HaveFlags (drop (c.loop-key.key-index + 1) c.args.keys.now)
    (drop (length (rows_with c.key-item.result c.loop-key.table)) c.loop-key.left)
    (rows_kept c.key-item.result (take (length (rows_with c.key-item.result c.loop-key.table)) c.loop-key.left)
    c.loop-key.table)
enough c =
    flags-step c.args.keys.now c.loop-key.key-index c.key-item.result c.loop-key.left c.loop-key.table
    c.loop-key-test.true c.key-item.is c.loop-key.invariant.enough

pub keep_of-left-requires : goal.keep_of-left-requires
keep_of-left-requires c =
    subst (λ key. length (rows_with key c.loop-key.table) ≤ length c.loop-key.left) (sym c.as_slice.ensures)
    (enough c).0

pub loop-key-preserved : goal.loop-key-preserved
loop-key-preserved c =
    let at = (goal.at.loop-key-preserved c).After-as_slice in
    let left = c.keep_of-left.ensures.left
    ∙ ap (λ key. drop (length (rows_with key c.loop-key.table)) c.loop-key.left) c.as_slice.ensures in
    let kept = c.keep_of-left.ensures.kept
    ∙ ap (λ key. rows_kept key (take (length (rows_with key c.loop-key.table)) c.loop-key.left) c.loop-key.table)
    c.as_slice.ensures in
    record {
      rows = ap₂ (λ flags rows. all_kept (drop (c.loop-key.key-index + 1) c.args.keys.now) flags rows) left kept
          ∙ sym (kept-step c.args.keys.now c.loop-key.key-index c.key-item.result c.loop-key.left
          c.loop-key.table c.loop-key-test.true c.key-item.is)
          ∙ c.loop-key.invariant.rows;
      enough = subst (λ flags. HaveFlags (drop (c.loop-key.key-index + 1) c.args.keys.now) flags
          c.keep_of-left.new.self) (sym left)
          (subst (HaveFlags (drop (c.loop-key.key-index + 1) c.args.keys.now)
          (drop (length (rows_with c.key-item.result c.loop-key.table)) c.loop-key.left)) (sym kept)
          (enough at).1);
    }

pub returns : goal.returns
returns c =
    ap (λ keys. all_kept keys c.loop-key.left c.loop-key.table)
    (sym (drop_all c.loop-key.key-index c.args.keys.now c.loop-key-test.false))
    ∙ c.loop-key.invariant.rows
