-- What a store takes is above its floor, so it changes no answer there; and what was made of what it saved has all that
-- it took.
use Rattle.std.proofs.Common.{◌≡◌, ℕ, ◌<◌, ◌≤◌, ◌⊎◌, false, List, [], ◌∷◌, ◌++◌, Some, None, All, Contains, refl}
use Rattle.std.proofs.Common.{ap, ap₂, sym, ◌∙◌, subst, arith, inl, inr, append_assoc, if◌then◌else◌, option_and_then}
use Rattle.std.specs.Prelude.{nat_lt, nat_le}
use Rattle.std.proofs.lemmas.Bool.{cond-false, lt-ltb, le-ltb, lt-leb}
use Rattle.std.proofs.lemmas.List.Elements.{All-nil, All-cons, All-head, All-tail, All-weaker}
use Rattle.hlc.specs.{Node.Row, Node.AWrite, Node.Item as AnItem, Node.Write, Node.answer}
use Rattle.hlc.specs.Store.{Step, Took, Began, StoreView, Represents, numbered, count, writes, item_refusal, floor}
use Rattle.hlc_rows.specs.Rows.{newest, is_candidate, later}
use Rattle.hlc_snapshot.specs.RegistryView.{stamps}
use Rattle.hlc_checkpoint.specs.Checkpoint.{floor_in}
use Rattle.hlc_core.specs.Past.{body_rows}
use Rattle.hlc_core.proofs.PastLemmas.{IsAdmissible, admissible, inside, on_link, above_floor, floor-grows}
use Rattle.hlc_core.proofs.CheckpointLemmas.{floor-in}
use Rattle.hlc_log.specs.{Log.with_record, Log.came_before, declared.record.Record.TheVariants.Item}
use Rattle.hlc_log.specs.Places.{CanRead}
use Rattle.example_life.specs.Life.{AnswerAlike, AnswersAs, AreCopies, HasGrown, IsShown, row_of}

-- a state answers as all of a past that it represents
pub answered : (kept : StoreView) (past : List Step) → Represents kept past → (key : List ℕ) (at : ℕ)
    → IsShown kept at → answer kept.rows key at ≡ answer (writes past) key at
answered kept past h key at (inl from) = h.rows.from_horizon key at (subst (λ n. n ≤ at) h.horizon from)
answered kept past h key at (inr opened) =
    h.rows.at_open key at (subst (λ xs. Contains (stamps xs) at) h.snapshots opened)

newest-under : (rows others : List Row) (key : List ℕ) (at : ℕ) → All (λ row. at < row.stamp) others
    → newest (rows ++ others) key at ≡ newest rows key at
unfolding newest
newest-under [] [] key at up = refl
newest-under [] (first ∷ others) key at up =
    let above : at < first.stamp = All-head (λ (row : Row). at < row.stamp) first others up in
    let late : nat_le first.stamp at ≡ false = lt-leb first.stamp at above in
    let misses : is_candidate key at first ≡ false = grind (arith, late) in
    cond-false _ _ _ misses
    ∙ newest-under [] others key at (All-tail (λ (row : Row). at < row.stamp) first others up)
newest-under (first ∷ rows) others key at up =
    ap (λ o. if is_candidate key at first then Some (later first o) else o) (newest-under rows others key at up)

-- rows above a stamp change no answer there
pub answer-under : (rows others : List Row) (key : List ℕ) (at : ℕ) → All (λ row. at < row.stamp) others
    → answer (rows ++ others) key at ≡ answer rows key at
answer-under rows others key at up =
    ap (option_and_then (λ (row : Row). row.value)) (newest-under rows others key at up)

-- the log has an item that was taken, and it is new there
pub read-new : (past : List Step) (item : AnItem) → item_refusal past item ≡ None
    → with_record (Item item) past ≡ Took item ∷ past
read-new past item none =
    let low : item.node < numbered past = inside past item none in
    let is : IsAdmissible _ (count item.node past) _ item =
    admissible _ _ _ item (sym (on_link past item low) ∙ none) in
    let same : item.number ≡ count item.node past = is.number in
    let next : nat_lt item.number (count item.node past) ≡ false = le-ltb _ _ (omega (arith, same)) in
    let new : came_before past (Item item) ≡ false = rw (lt-ltb _ _ low, next) refl in
    cond-false _ _ _ new

pub copies : (whole core older one other : StoreView) (saved log : List ℕ) (a b : AnItem) (w v : AWrite)
    → HasGrown whole core older saved log a b → a.body ≡ Write w.key w.value → b.body ≡ Write v.key v.value
    → Represents one (Took b ∷ (Took a ∷ (Began whole ∷ [])))
    → ((key : List ℕ) (at : ℕ) → CanRead other at → CanRead one at → answer other.rows key at ≡ answer one.rows key at)
    → AreCopies whole (row_of a w ∷ (row_of b v ∷ [])) one other
copies whole core older one other saved log a b w v grown first second h alike =
    let start : List Step = Began whole ∷ [] in
    let all : writes (Took b ∷ (Took a ∷ start)) ≡ whole.rows ++ row_of a w ∷ (row_of b v ∷ []) =
    ap₂ (λ (xs ys : List Row). (whole.rows ++ xs) ++ ys) (ap (body_rows a.node a.stamp) first)
    (ap (body_rows b.node b.stamp) second)
    ∙ append_assoc whole.rows (row_of a w ∷ []) (row_of b v ∷ []) in
    let here = λ (key : List ℕ) (at : ℕ) (can : CanRead one at).
    answered one (Took b ∷ (Took a ∷ start)) h key at can.shown ∙ ap (λ (xs : List Row). answer xs key at) all in
    let bottom : floor_in whole ≡ floor start = floor-in whole start grown.began in
    let up : floor start < a.stamp = above_floor start a h.legal.1.0 in
    let grows : floor start ≤ floor (Took a ∷ start) = floor-grows start a h.legal.1.0 in
    let up' : floor (Took a ∷ start) < b.stamp = above_floor (Took a ∷ start) b h.legal.0 in
    record {
      answers = λ key at can can'. (here key at can, alike key at can' can ∙ here key at can);
      shown = λ at can. subst (λ xs. (whole.horizon ≤ at) ⊎ Contains (stamps xs) at) h.snapshots
          (subst (λ n. (n ≤ at) ⊎ Contains (stamps one.snapshots) at) h.horizon can.shown);
      above = All-cons (λ (row : Row). floor_in whole < row.stamp) (row_of a w) (row_of b v ∷ [])
          (omega (arith, bottom, up))
          (All-cons (λ (row : Row). floor_in whole < row.stamp) (row_of b v) [] (omega (arith, bottom, grows, up'))
          (All-nil (λ (row : Row). floor_in whole < row.stamp)));
    }

-- so up to a cut at or below that floor both answer as all that was written
pub lived : (rows : List Row) (first : Row) (later : List Row) (cut : ℕ) (whole one other : StoreView)
    → AreCopies whole later one other → AnswersAs whole cut (rows ++ first ∷ []) → cut ≤ floor_in whole
    → AnswerAlike (rows ++ first ∷ later) cut one other
lived rows first later cut whole one other are joined low =
    let both = are.answers in
    record {
      alike = λ key at can can'. (both key at can can').0 ∙ sym (both key at can can').1;
      newest = λ key at can can' to.
          let up : All (λ (row : Row). at < row.stamp) later =
          All-weaker (λ (row : Row). floor_in whole < row.stamp) (λ row. at < row.stamp)
          (λ row above. omega (arith, above, low, to)) later are.above in
          (both key at can can').0 ∙ answer-under whole.rows later key at up ∙ joined key at (are.shown at can) to
          ∙ sym (answer-under (rows ++ first ∷ []) later key at up)
          ∙ ap (λ (xs : List Row). answer xs key at) (append_assoc rows (first ∷ []) later);
    }
