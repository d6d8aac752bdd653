-- The increment leads to the past of the store, and the log from the checkpoint between both writes to its place.
use Rattle.std.proofs.Common.{◌≡◌, List, [], ◌∷◌, append-nil, ap, sym, ◌∙◌, refl, subst, ℕ}
use Rattle.hlc.specs.Store.{Step, Began, Took, log_of}
use Rattle.hlc_saved.specs.Saved.{BytesRepresent}
use Rattle.hlc_log.specs.{Log.with_records, Log.with_record, declared.record.Record.TheVariants.Item}
use Rattle.example_life.proofs.Copies.{copies, read-new}
use Rattle.example_life.proofs.replicas.to_replicas.Goals as goal

pub returns : goal.returns
returns c =
    let (a, b, first, second, grown) = c.in_ok-core.ensures in
    let start : List Step = Began c.args.whole ∷ [] in
    let one = c.in_ok-one.ensures.represents _ (c.in_ok-advanced.ensures start (Took b ∷ (Took a ∷ [])) grown.before
    grown.represents) in
    let saved = subst (λ (xs : List ℕ). BytesRepresent xs 1 (Took a ∷ start)) (sym c.as_slice.ensures.value)
    grown.between in
    let other = c.in_ok-other.ensures 1 (Took a ∷ start) saved in
    let new : with_record (Item a) start ≡ Took a ∷ start = read-new start a one.legal.1.0 in
    let all : with_records (Item a ∷ (Item b ∷ [])) start ≡ Took b ∷ (Took a ∷ start) =
    ap (with_record (Item b)) new ∙ read-new (Took a ∷ start) b one.legal.0 in (
      _,
      _,
      record { key = refl; value = refl },
      record { key = refl; value = refl },
      copies c.args.whole _ _ _ _ _ _ a b c.args.later.0 c.args.later.1 grown first second one
          (c.recovered_stores_answer_as_replicas.ensures.recovered start _ _ [] (Item a ∷ []) (Item b ∷ []) _ _ [] 1 0
          other.0 _ _ saved (ap log_of (sym new)) grown.fit
          (append-nil _ ∙ c.as_slice-2.ensures.value ∙ grown.spelled) other.2 one (record {
            taken = Item a ∷ (Item b ∷ []);
            left = [];
            parts = refl;
            has = ap log_of (sym all);
          })),
    )
