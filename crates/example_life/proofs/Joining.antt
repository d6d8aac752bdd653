-- Two ranges answer together as all that was issued, and that answers as the rows of the divided checkpoint and what
-- was written since: a key's rows are all in its half.
use Rattle.std.proofs.Common.{◌≡◌, ℕ, ◌≤◌, ◌⊎◌, Bool, true, false, List, [], ◌∷◌, ◌++◌, Some, None, All, refl, ap, sym}
use Rattle.std.proofs.Common.{◌∙◌, subst, inl, inr, cond, append-nil, append_assoc, ◌≢◌, not, if◌then◌else◌}
use Rattle.std.proofs.Common.{option_and_then, Option}
use Rattle.std.proofs.lemmas.{Bool.both_ways, Bool.cond-false, List.Elements.All-contains}
use Rattle.hlc.specs.{Node.Row, Node.answer, Store.StoreView, Store.Represents, Store.rows_of_keys, Store.writes}
use Rattle.hlc.specs.Ranges.{Layout, Turn, RangesView, MachineView, past_of, issued_writes, ByKeys, store_of}
use Rattle.hlc.specs.Ranges.{IsConsistent}
use Rattle.hlc_values.proofs.MemberLemmas.{Contains-from_filter}
use Rattle.hlc_intake.specs.IntakeView.{IntakeView}
use Rattle.hlc_rows.specs.Rows.{newest, is_candidate, later}
use Rattle.hlc_rows.proofs.{NewestLemmas.newest_after_others, NewestLemmas.answer_none, CandidateLemmas.other-misses}
use Rattle.hlc_core.specs.StoreView.{with_rows}
use Rattle.hlc_split.specs.{Split.is_under, Split.is_from, Merge.AreDivided, Merge.AreJoinable, Merge.is_of_left}
use Rattle.example_life.specs.Life.{HaveGoneOn, AnswersAs, IsShown, halves, with_links}
use Rattle.example_life.proofs.Copies.{answered}

-- the newest row of a list depends on that of its end, of its rows of the key alone
newest-end : (xs ys zs : List Row) (key : List ℕ) (at : ℕ) → newest ys key at ≡ newest zs key at
    → newest (xs ++ ys) key at ≡ newest (xs ++ zs) key at
unfolding newest
newest-end [] ys zs key at e = e
newest-end (x ∷ xs) ys zs key at e =
    ap (λ o. if is_candidate key at x then Some (later x o) else o) (newest-end xs ys zs key at e)

newest-own : (is_of : List ℕ → Bool) (rows ys : List Row) (key : List ℕ) (at : ℕ) → is_of key ≡ true
    → newest (rows_of_keys is_of rows ++ ys) key at ≡ newest (rows ++ ys) key at
unfolding newest
newest-own is_of [] ys key at t = refl
newest-own is_of (row ∷ rows) ys key at t =
    let rest : newest (rows_of_keys is_of rows ++ ys) key at ≡ newest (rows ++ ys) key at =
    newest-own is_of rows ys key at t in
    elim (is_of row.key) as (λ b. is_of row.key ≡ b
    → newest (cond b (row ∷ rows_of_keys is_of rows) (rows_of_keys is_of rows) ++ ys) key at
    ≡ newest (row ∷ (rows ++ ys)) key at) [
      | true ↦ λ _. ap (λ o. if is_candidate key at row then Some (later row o) else o) rest
      | false ↦ λ f. rest
          ∙ sym (cond-false _ _ _ (other-misses key at row (λ e. both_ways (is_of key) (sym (ap is_of e) ∙ f) t)))
    ] refl

newest-others : (is_of : List ℕ → Bool) (rows ys : List Row) (key : List ℕ) (at : ℕ) → is_of key ≡ false
    → newest (rows_of_keys is_of rows ++ ys) key at ≡ newest ys key at
newest-others is_of rows ys key at f =
    newest_after_others (rows_of_keys is_of rows) ys key at
    (λ row m e. both_ways (is_of key) f
    (sym (ap is_of e) ∙ (Contains-from_filter (λ (r : Row). is_of r.key) rows row m).1))

pub halves-answer : (bound : List ℕ) (rows written : List Row) (key : List ℕ) (at : ℕ)
    → answer (halves bound rows ++ written) key at ≡ answer (rows ++ written) key at
halves-answer bound rows written key at =
    let under : List Row = rows_of_keys (is_under bound) rows in
    let from : List Row = rows_of_keys (is_from bound) rows in
    ap (λ (xs : List Row). answer xs key at) (append_assoc under from written)
    ∙ ap (option_and_then (λ (row : Row). row.value))
    (elim (is_under bound key) as (λ b. is_under bound key ≡ b
    → newest (under ++ (from ++ written)) key at ≡ newest (rows ++ written) key at) [
      | true ↦ λ t. newest-end under (from ++ written) written key at
          (newest-others (is_from bound) rows written key at (ap not t))
          ∙ newest-own (is_under bound) rows written key at t
      | false ↦ λ f. newest-others (is_under bound) rows (from ++ written) key at f
          ∙ newest-own (is_from bound) rows written key at (ap not f)
    ] refl)

-- rows of some keys do not answer others
none-of : (is_of : List ℕ → Bool) (rows : List Row) (key : List ℕ) (at : ℕ)
    → All (λ row. is_of row.key ≡ true) rows → is_of key ≡ false → answer rows key at ≡ None
unfolding newest
none-of is_of rows key at all f =
    answer_none rows key at
    (ap (λ (xs : List Row). newest xs key at) (sym (append-nil rows))
    ∙ newest_after_others rows [] key at
    (λ row m e. both_ways (is_of key) f
    (sym (ap is_of e) ∙ All-contains (λ (r : Row). is_of r.key ≡ true) rows row all m)))

-- of two lists that are divided, the one that a key is not of does not answer it
other-none : (low high : List Row) (key : List ℕ) (at : ℕ) → AreDivided low high
    → (if is_of_left high key then answer high key at else answer low key at) ≡ None
unfolding newest
other-none low [] key at divided = refl
other-none low (first ∷ rest) key at divided =
    let parts : All (λ row. is_under first.key row.key ≡ true) low
    × All (λ row. is_from first.key row.key ≡ true) (first ∷ rest) = divided in
    elim (is_under first.key key) as (λ b. is_under first.key key ≡ b
    → (if b then answer (first ∷ rest) key at else answer low key at) ≡ None) [
      | true ↦ λ t. none-of (is_from first.key) (first ∷ rest) key at parts.1 (ap not t)
      | false ↦ λ f. none-of (is_under first.key) low key at parts.0 f
    ] refl

-- where one of two gives an answer and the other none, the chosen one gives it, if the one that is not gives none
chosen : {X : Type 0} (b : Bool) (low high none z : X) → (if b then high else low) ≡ none
    → ((low ≡ z) × (high ≡ none)) ⊎ ((high ≡ z) × (low ≡ none)) → (if b then low else high) ≡ z
chosen true low high none z not (inl own) = own.0
chosen true low high none z not (inr own) = own.1 ∙ sym not ∙ own.0
chosen false low high none z not (inl own) = own.1 ∙ sym not ∙ own.0
chosen false low high none z not (inr own) = own.0

pub ranges-answer : (layout : Layout) (run : List Turn) (cut : ℕ) (bound : List ℕ) (low high : StoreView)
    (key : List ℕ) (at : ℕ) → Represents low (past_of layout 0 run) → Represents high (past_of layout 1 run)
    → IsConsistent layout run cut
    → ((s : ℕ) → layout.store_of key ≢ s → answer (writes (past_of layout s run)) key at ≡ None)
    → layout.store_of key ≡ store_of (ByKeys (bound ∷ [])) key → AreDivided low.rows high.rows
    → IsShown low at → IsShown high at → at ≤ cut
    → (if is_of_left high.rows key then answer low.rows key at else answer high.rows key at)
    ≡ answer (issued_writes layout run) key at
ranges-answer layout run cut bound low high key at l h consistent apart routed divided from from' to =
    let z : Option (List ℕ) = answer (issued_writes layout run) key at in
    let lows : answer low.rows key at ≡ answer (writes (past_of layout 0 run)) key at =
    answered low (past_of layout 0 run) l key at from in
    let highs : answer high.rows key at ≡ answer (writes (past_of layout 1 run)) key at =
    answered high (past_of layout 1 run) h key at from' in
    let found : answer (writes (past_of layout (layout.store_of key) run)) key at ≡ z = consistent.issued key at to in
    chosen (is_of_left high.rows key) (answer low.rows key at) (answer high.rows key at) None z
    (other-none low.rows high.rows key at divided)
    (elim (is_under bound key) as (λ b. is_under bound key ≡ b
    → ((answer low.rows key at ≡ z) × (answer high.rows key at ≡ None))
    ⊎ ((answer high.rows key at ≡ z) × (answer low.rows key at ≡ None))) [
      | true ↦ λ t.
          let is : layout.store_of key ≡ 0 = routed ∙ ap (λ b. if b then 0 else 1) t in
          inl (
            lows ∙ subst (λ s. answer (writes (past_of layout s run)) key at ≡ z) is found,
            highs ∙ apart 1 (λ e. cc),
          )
      | false ↦ λ f.
          let is : layout.store_of key ≡ 1 = routed ∙ ap (λ b. if b then 0 else 1) f in
          inr (
            highs ∙ subst (λ s. answer (writes (past_of layout s run)) key at ≡ z) is found,
            lows ∙ apart 0 (λ e. cc),
          )
    ] refl)

-- so what both are joined into answers as the rows of the checkpoint and what was written
pub joined-answers : {rows written : List Row} {bound : List ℕ} {ranges : RangesView} {machine : MachineView}
    (stood : HaveGoneOn rows bound written ranges machine) (cut : ℕ) (low high left right whole : StoreView)
    (links : List IntakeView) → Represents low (past_of stood.layout 0 stood.run)
    → Represents high (past_of stood.layout 1 stood.run) → IsConsistent stood.layout stood.run cut
    → ((s : ℕ) (key : List ℕ) (at : ℕ) → stood.layout.store_of key ≢ s
    → answer (writes (past_of stood.layout s stood.run)) key at ≡ None)
    → left ≡ with_links low links → right ≡ with_links high links → whole ≡ with_rows left (left.rows ++ right.rows)
    → ((key : List ℕ) (at : ℕ) → answer whole.rows key at
    ≡ (if is_of_left right.rows key then answer left.rows key at else answer right.rows key at))
    → AreJoinable left right → AnswersAs whole cut (rows ++ written)
joined-answers {rows} {written} {bound} stood cut low high left right whole links l h consistent apart lefts rights
    wholes answers fit key at from to =
    let low-rows : left.rows ≡ low.rows = ap (λ (kept : StoreView). kept.rows) lefts in
    let high-rows : right.rows ≡ high.rows = ap (λ (kept : StoreView). kept.rows) rights in
    let left-shown : IsShown left at = subst (λ (kept : StoreView). IsShown kept at) wholes from in
    let right-shown : IsShown right at = rw (fit.1.1, fit.2) at left-shown in
    let divided : AreDivided low.rows high.rows =
    subst (λ (xs : List Row). AreDivided xs high.rows) low-rows
    (subst (λ (xs : List Row). AreDivided left.rows xs) high-rows fit.3) in
    let parts : answer whole.rows key at
    ≡ (if is_of_left high.rows key then answer low.rows key at else answer high.rows key at) =
    rw (low-rows, high-rows) at (answers key at) in
    parts
    ∙ ranges-answer stood.layout stood.run cut bound low high key at l h consistent (λ s. apart s key at)
    (stood.represents.routed key ∙ ap (λ division. store_of division key) stood.divided) divided
    (subst (λ (kept : StoreView). IsShown kept at) lefts left-shown)
    (subst (λ (kept : StoreView). IsShown kept at) rights right-shown) to
    ∙ ap (λ (xs : List Row). answer xs key at) stood.issued ∙ halves-answer bound rows written key at
