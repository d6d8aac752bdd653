-- The next keys are those above the last one.
use Rattle.std.proofs.Common.{◌≡◌, subst, sym, [], arith}
use Rattle.std.proofs.lemmas.{List.nil_from_length, Bool.eqb-true}
use Rattle.hlc_columns.specs.Answers.{AreNext}
use Rattle.hlc_saved.proofs.Savers.{on_ok}
use Rattle.hlc_saved.proofs.savings.Saver.make.Goals as goal

pub returns-then-is_empty-clause-made : goal.returns-then-is_empty-clause-made
returns-then-is_empty-clause-made c =
    let zero = eqb-true c.in_ok-columns.columns.len 0 (sym c.if-is_empty.ensures) in
    let long = c.in_ok-columns.columns.ok in
    let none : c.in_ok-columns.columns.items ≡ [] =
    nil_from_length c.in_ok-columns.columns.items (omega (arith, zero, long)) in
    on_ok c.make_digest.result
    (λ made tag read has.
    made tag c.args.store.now read
    (subst (AreNext c.args.store.now.rows c.args.self.now.last.items 32) none
    (subst (λ l. AreNext c.args.store.now.rows l 32 c.in_ok-columns.columns.items) c.as_slice.ensures.value
    c.in_ok-columns.ensures.next)) has)
    c.make_digest.ensures.made
