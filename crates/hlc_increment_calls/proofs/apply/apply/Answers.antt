-- What was read is what the bytes are of, and the newer checkpoint is what was made of it.
use Rattle.std.proofs.Common.{◌≡◌, ℕ, List, [], ◌++◌, Ok, ap, sym, ◌∙◌, subst, refl, inl, inr, rules}
use Rattle.std.proofs.lemmas.{Grind.common_steps, Result.err_from_is_err_and}
use Rattle.hlc_wire.proofs.FieldLemmas.{ok_is}
use Rattle.hlc_core.specs.StoreView.{StoreView, Represents}
use Rattle.hlc_body.specs.Reading.{saved}
use Rattle.hlc_saved.specs.Saved.{AreOf}
use Rattle.hlc_saved.proofs.SaveLemmas.{saved_again}
use Rattle.hlc_increment.specs.Increment.{IncrementView, IsIncrementOf, without_drops}
use Rattle.hlc_increment.specs.Bytes.{IncrementFits, increment_at, increment_bytes}
use Rattle.hlc_increment.proofs.BytesLemmas.{increment_again}
use Rattle.hlc_increment_calls.proofs.apply.apply.Goals as goal

pub returns-in_err-made-clause-err : goal.returns-in_err-made-clause-err
returns-in_err-made-clause-err c =
    let p = err_from_is_err_and c.from_residual-in_err-made.result c.from_residual-in_err-made.ensures.1 in
    rw (p.1, p.2)
    (inr (
      c.in_ok-kept.kept,
      c.in_ok-kept.ensures,
      inr (
        c.in_ok-read.field-0.tag,
        c.in_ok-read.field-0.increment,
        c.in_ok-read.ensures,
        inl c.in_err-made.ensures.err,
      ),
    ))

pub returns-in-Err : goal.returns-in-Err
returns-in-Err c = record {
  advanced = tt;
  nothing = tt;
  represents = λ before after kept newer read past more of h spelled fits is g. tt;
  chained = λ before after kept newer read past mid more of h spelled fits is g. tt;
  back = λ before after kept earlier read past mid more of h spelled fits is g. tt;
  err = inr (
    c.in_ok-kept.kept,
    c.in_ok-kept.ensures,
    inr (
      c.in_ok-read.field-0.tag,
      c.in_ok-read.field-0.increment,
      c.in_ok-read.ensures,
      inr (
        c.in_ok-made.made,
        c.in_ok-made.ensures.fitting,
        c.in_ok-made.ensures.ok,
        inl (refl, c.in-Err.ensures.memory),
        refl,
      ),
    ),
  );
}

pub returns-in-Ok-Err-clause-err : goal.returns-in-Ok-Err-clause-err
returns-in-Ok-Err-clause-err c =
    let reason = rw c.in-Ok-Err.field-0-is at c.in-Ok-Err.ensures.err in
    inr (
      c.in_ok-kept.kept,
      c.in_ok-kept.ensures,
      inr (
        c.in_ok-read.field-0.tag,
        c.in_ok-read.field-0.increment,
        c.in_ok-read.ensures,
        inr (c.in_ok-made.made, c.in_ok-made.ensures.fitting, c.in_ok-made.ensures.ok, inr (_, reason, refl), refl),
      ),
    )

-- what was read of both is what the bytes are of
both-read : (older bytes : List ℕ) (before' before after' after : ℕ) (kept' kept : StoreView)
    (read' read : IncrementView) → saved older ≡ Ok (before', kept') → AreOf older before kept
    → increment_at bytes ≡ Ok (after', read') → bytes ≡ increment_bytes after read → IncrementFits after read
    → (kept ≡ kept') × (after' ≡ after) × (read ≡ read')
both-read older bytes before' before after' after kept' kept read' read found of found' spelled fits =
    let one : (before', kept') ≡ (before, kept) =
    ok_is (before', kept') (before, kept) (sym found ∙ ap saved of.spelled ∙ saved_again before kept of.fits) in
    let two : (after', read') ≡ (after, read) =
    ok_is (after', read') (after, read)
    (sym found' ∙ ap increment_at spelled ∙ increment_again after read fits) in (
      sym (ap (λ (x : ℕ × StoreView). x.1) one),
      ap (λ (x : ℕ × IncrementView). x.0) two,
      sym (ap (λ (x : ℕ × IncrementView). x.1) two),
    )

pub returns-in-Ok-clause-chained : goal.returns-in-Ok-clause-chained
returns-in-Ok-clause-chained c = λ before after kept newer read past mid more of h spelled fits is g.
    let are =
    both-read c.args.older.now c.args.increment.now c.in_ok-kept.ensures.0 before c.in_ok-read.field-0.tag after
    c.in_ok-kept.kept kept c.in_ok-read.field-0.increment read c.in_ok-kept.ensures.1 of c.in_ok-read.ensures spelled
    fits in
    let bytes : AreOf c.in-Ok.boxed.value.items c.in_ok-read.after c.in_ok-made.made =
    search (rules, common_steps) in (
      c.in_ok-made.made,
      subst (λ w. AreOf c.in-Ok.boxed.value.items w c.in_ok-made.made) (sym c.in_ok-read.after-is ∙ are.1) bytes,
      c.in_ok-made.ensures.chained past mid more newer
          (subst (λ (k : StoreView). Represents k (without_drops mid ++ past)) are.0 h) g
          (subst (λ (i : IncrementView). IsIncrementOf newer i) are.2 is),
    )

pub returns-in-Ok-clause-represents : goal.returns-in-Ok-clause-represents
returns-in-Ok-clause-represents c = λ before after kept newer read past more of h spelled fits is g.
    returns-in-Ok-clause-chained c before after kept newer read past [] more of h spelled fits is g

pub returns-in-Ok-clause-back : goal.returns-in-Ok-clause-back
returns-in-Ok-clause-back c = λ before after kept earlier read past mid more of h spelled fits is g.
    let are =
    both-read c.args.older.now c.args.increment.now c.in_ok-kept.ensures.0 before c.in_ok-read.field-0.tag after
    c.in_ok-kept.kept kept c.in_ok-read.field-0.increment read c.in_ok-kept.ensures.1 of c.in_ok-read.ensures spelled
    fits in
    let bytes : AreOf c.in-Ok.boxed.value.items c.in_ok-read.after c.in_ok-made.made =
    search (rules, common_steps) in (
      c.in_ok-made.made,
      subst (λ w. AreOf c.in-Ok.boxed.value.items w c.in_ok-made.made) (sym c.in_ok-read.after-is ∙ are.1) bytes,
      c.in_ok-made.ensures.back past mid more earlier
          (subst (λ (k : StoreView). Represents k (more ++ (without_drops mid ++ past))) are.0 h) g
          (subst (λ (i : IncrementView). IsIncrementOf earlier i) are.2 is),
    )
