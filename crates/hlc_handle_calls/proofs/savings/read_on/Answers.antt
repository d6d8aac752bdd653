-- With the last bytes, all were read.
use Rattle.std.proofs.Common.{◌≡◌, refl, sym, subst, ◌++◌, take, List, ℕ}
use Rattle.hlc_saved.specs.{declared.savings.Saver.Saver, Saver.HasMade, Saver.mark_of}
use Rattle.hlc_handle_calls.proofs.savings.read_on.Goals as goal

pub returns-then-is_read : goal.returns-then-is_read
returns-then-is_read c =
    rw (c.in-Some.ensures.boxed, c.take.ensures.closed) (
      refl,
      subst (λ (saver : Saver). mark_of c.args.core.now ≡ saver.mark) c.deref_mut.ensures.value c.in-Ok.ensures.same,
      (c.in-Ok.ensures.room, c.in-Ok.ensures.rest),
      λ tag read has.
          let all' : List ℕ = read ++ take c.in-Ok.many c.read.new.out in
          c.is_read.ensures.whole c.if-is_read.true tag c.args.core.now all'
          (subst (λ (saver : Saver). HasMade saver tag c.args.core.now all')
          (sym c.deref.ensures)
          (c.in-Ok.ensures.made tag read
          (subst (λ (saver : Saver). HasMade saver tag c.args.core.now read) (sym c.deref_mut.ensures.value) has))),
    )
