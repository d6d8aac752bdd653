-- The first piece was made.
use Rattle.std.proofs.Common.{◌∙◌, ◌++◌, ◌+◌, ap, sym, refl, ℕ, List}
use Rattle.hlc_saved.{specs.Writing.begin_bytes, specs.Saver.mark_of, proofs.Savers.started, proofs.Savers.saved_length}
use Rattle.hlc_saved.proofs.savings.Saver.start.Goals as goal

pub returns-clause-made : goal.returns-clause-made
returns-clause-made c =
    let tag = c.args.tag in
    let kept = c.args.core.now in
    started c.in_ok-begin.field-0 _ tag kept (c.mark_of.ensures ∙ ap mark_of c.lent.ensures.same)
    c.into_frame-size.ensures.frame c.new.ensures.items refl refl
    (c.in_ok-begin.ensures.ok ∙ ap (λ (l : List ℕ). l ++ begin_bytes tag kept) c.new-made.ensures.items)
    c.in_ok-begin.ensures.written

pub returns-clause-len : goal.returns-clause-len
returns-clause-len c =
    c.in_ok-whole_size.ensures ∙ ap (λ n. n + 52) (c.into_frame-size.ensures.size ∙ c.in_ok-begin.ensures.size)
    ∙ sym (saved_length c.args.tag c.args.core.now)
