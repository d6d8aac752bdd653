-- The store is restored from all that the reader has read.
use Rattle.std.proofs.Common.{sym, subst}
use Rattle.hlc_saved.specs.{declared.reader.CheckpointReader.CheckpointReader, Blocks.HasRead}
use Rattle.hlc_saved.proofs.SaveLemmas.{resumed_tag, resumed_represents, resumed_only}
use Rattle.hlc_calls.proofs.ResumedLemmas.{is_made, is_past}
use Rattle.hlc_handle_calls.proofs.Openings.{restores, restores_past}
use Rattle.hlc_handle_calls.proofs.restorings.finish.Goals as goal

pub returns-clause-answer : goal.returns-clause-answer
returns-clause-answer c =
    rw (c.in-Some.ensures.boxed, c.in_default-take.ensures.boxed) (
      c.take.ensures.closed,
      λ fed read.
          restores fed _ _ _ _ _ (is_made fed _ _ _ (c.finish.ensures fed
          (subst (λ (reader : CheckpointReader). HasRead reader fed) (sym c.into_inner.ensures) read))
          c.answered-made.ensures) c.opened.ensures,
    )

pub returns-clause-represents : goal.returns-clause-represents
returns-clause-represents c =
    rw (c.in-Some.ensures.boxed, c.in_default-take.ensures.boxed) (λ fed saved past read of.
    let resumed = c.finish.ensures fed
    (subst (λ (reader : CheckpointReader). HasRead reader fed) (sym c.into_inner.ensures) read) in
    restores_past saved past _ _ _ _ _ (is_past saved past _ _ _ c.answered-made.ensures
    (resumed_tag _ fed saved of.0 of.1 resumed) (resumed_represents _ fed saved past of resumed)
    (resumed_only _ fed saved of.0 of.1 resumed)) c.opened.ensures)
