-- The last key is copied.
use Rattle.std.proofs.Common.{◌≡◌, ◌-◌, ◌==◌, ◌∙◌, ap, subst, sym, true, true≢false, refl, get_or, length}
use Rattle.hlc_vacuum.proofs.PartRows.{end-copied}
use Rattle.hlc_vacuum.proofs.part.end_of.Goals as goal

pub returns : goal.returns
returns c = λ columns is.
    end-copied c.args.after.now c.args.limit columns c.args.keys.now c.in_ok-from_slice-2.field-0 is
    c.if-keys-limit.false
    (λ none. true≢false (sym (c.is_empty.ensures ∙ subst (λ n. (n == 0) ≡ true) (sym none) refl) ∙ c.if-is_empty.false))
    (let same = c.in_ok-from_slice-2.ensures.bytes ∙ c.as_slice.ensures in
    same ∙ c.index-keys-keys.is ∙ ap (λ d. get_or c.args.keys.now (length c.args.keys.now - 1) d) (sym same))
