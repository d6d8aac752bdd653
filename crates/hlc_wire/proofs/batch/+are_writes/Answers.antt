-- A write is read, and then the others.
use Rattle.std.proofs.Common.{◌≡◌, ◌∙◌, ◌==◌, ◌∷◌, ap, sym, refl, option_copied, length, List, [], ℕ, Ok, true}
use Rattle.std.proofs.lemmas.Bool.{false≢true, ne_eqb}
use Rattle.hlc_rows.specs.Spelled.{writes_in}
use Rattle.hlc_wire.proofs.BatchLemmas.{writes_more, writes_zero}
use Rattle.hlc_wire.proofs.batch.+are_writes.Goals as goal

-- no byte is left
none-left : (bytes : List ℕ) → (length bytes == 0) ≡ true → bytes ≡ []
none-left [] h = refl
none-left (byte ∷ bytes) h = absurd (false≢true (sym (ne_eqb (length (byte ∷ bytes)) 0 (λ e. absurd cc)) ∙ h))

pub returns-then-count-eq0 : goal.returns-then-count-eq0
returns-then-count-eq0 t c empty =
    writes_zero c.args.count c.args.bytes.now c.if-count-eq0.true
    ∙ ap (λ (rest : List ℕ). Ok (writes_in c.args.count c.args.bytes.now, rest))
    (none-left c.args.bytes.now (sym c.is_empty.ensures ∙ empty))

pub returns : goal.returns
returns t c rest_is =
    writes_more (λ (rest : List ℕ). rest) c.args.count c.args.bytes.now c.in-Ok.field-0-0.now c.in-Ok.rest.now
    (option_copied c.in-Ok-value_slice_at.field-0-0) c.in-Ok-value_slice_at.rest.now (Ok []) c.if-count-eq0.false
    c.in-Ok.ensures c.in-Ok-value_slice_at.ensures (c.are_writes.ensures rest_is)
