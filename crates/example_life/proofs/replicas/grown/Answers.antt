-- The store began with the state, and took both items.
use Rattle.std.proofs.Common.{List, ℕ, [], ◌∷◌, ◌++◌, ap, sym, ◌∙◌, append-nil}
use Rattle.std.proofs.lemmas.List.Elements.{All-nil, All-cons}
use Rattle.hlc.specs.Store.{Began}
use Rattle.hlc_log.specs.Record.{record_bytes, RecordFits}
use Rattle.hlc_log.specs.declared.record.Record.TheVariants.{Item}
use Rattle.example_life.proofs.replicas.grown.Goals as goal

pub returns : goal.returns
returns c =
    let one = c.in_ok-write_logged.ensures (Began c.args.whole ∷ []) c.in_ok-core.ensures.began in
    let two = c.in_ok-write_logged-2.ensures _ one.4 in
    let bytes : List ℕ = record_bytes (Item two.0) in (
      one.0,
      two.0,
      one.1,
      two.1,
      record {
        began = c.each_checkpoint_has_a_past.ensures c.args.whole c.in_ok-core.ensures.sound;
        represents = two.4;
        before = c.in_ok-older.ensures.represents _ c.in_ok-core.ensures.began;
        between = c.in_ok-saved.ensures.represents _ one.4;
        spelled = two.3 ∙ ap (λ (xs : List ℕ). xs ++ bytes) (one.3
            ∙ ap (λ (xs : List ℕ). xs ++ record_bytes (Item one.0)) c.new-log.ensures.items)
            ∙ ap (λ (xs : List ℕ). record_bytes (Item one.0) ++ xs) (sym (append-nil bytes));
        fit = All-cons RecordFits (Item one.0) (Item two.0 ∷ []) one.2
            (All-cons RecordFits (Item two.0) [] two.2 (All-nil RecordFits));
      },
    )
