-- The reader that is put back has read what it had read, and the bytes where there was memory.
use Rattle.std.proofs.Common.{refl, sym, subst, inl, inr}
use Rattle.hlc_saved.specs.{declared.reader.CheckpointReader.CheckpointReader, Blocks.HasRead}
use Rattle.hlc_handle_calls.proofs.restorings.feed.Goals as goal

pub returns-in-Ok : goal.returns-in-Ok
returns-in-Ok c =
    rw (c.in-Some.ensures.boxed, c.put.ensures, c.deref_mut.ensures.writes_back) (λ fed read.
    inl (
      refl,
      c.in-Ok.ensures.ok fed
          (subst (λ (reader : CheckpointReader). HasRead reader fed) (sym c.deref_mut.ensures.value) read),
    ))

pub returns-in-Err : goal.returns-in-Err
returns-in-Err c =
    rw (c.in-Some.ensures.boxed, c.put.ensures, c.deref_mut.ensures.writes_back) (λ fed read.
    inr (
      refl,
      c.in-Err.ensures.err fed
          (subst (λ (reader : CheckpointReader). HasRead reader fed) (sym c.deref_mut.ensures.value) read),
    ))
