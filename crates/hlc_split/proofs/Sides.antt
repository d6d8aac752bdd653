-- Each key of two lists that are divided is answered as by the list that it is of. So two checkpoints whose keys are
-- divided are together a checkpoint, whatever they took.
use Rattle.std.proofs.Common.{◌≡◌, ℕ, Bool, true, false, List, [], ◌∷◌, ◌++◌, Less, Equal, Greater, nat_cmp, Ordering}
use Rattle.std.proofs.Common.{All, Contains, Option, refl, ap, sym, subst, ◌∙◌, append-nil}
use Rattle.std.specs.{Prelude.not, Prelude.if◌then◌else◌, Prelude.option_and_then, Cmp.Lexicographic.slice_cmp}
use Rattle.std.specs.Ordering.{ordering_then, ordering_reverse, is_lt}
use Rattle.std.proofs.lemmas.{Bool.both_ways, Cmp.nat_list_cmp_total}
use Rattle.std.proofs.lemmas.List.Elements.{All-append, All-contains}
use Rattle.hlc_values.proofs.MemberLemmas.{Contains-none}
use Rattle.hlc_rows.specs.{declared.row.Row.Row, Rows.answer}
use Rattle.hlc_rows.proofs.NewestLemmas.{newest_after_others, newest_before_others}
use Rattle.hlc_intake.specs.IntakeView.{IntakeView}
use Rattle.hlc_witness.specs.{Certificate.RowsAscend, Certificate.row_cmp, Cost.IsInLimits}
use Rattle.hlc_witness.proofs.CertificateLemmas.{ascending_rows_are_a_row_set}
use Rattle.hlc_witness.proofs.ListedLemmas.{sorted_append}
use Rattle.hlc_checkpoint.specs.{StoreView.IsUnderHead, Checkpoint.IsCheckpoint}
use Rattle.hlc_core.specs.{Parts.rows_of_keys, StoreView.StoreView, StoreView.with_rows}
use Rattle.hlc_core.proofs.PartLemmas.{answer-of_keys}
use Rattle.hlc_split.specs.Split.{is_under, is_from, part_of}
use Rattle.hlc_split.specs.Merge.{AreDivided, AreJoinable, is_of_left}

not-both : (b : Bool) → b ≡ true → not b ≡ true → ⊥
not-both b t f = both_ways (not b) (ap not t) f

-- rows divided by a kind of keys
pub parts-answer : (is_of : List ℕ → Bool) (rows : List Row) (key : List ℕ) (stamp : ℕ)
    → answer rows key stamp ≡ (if is_of key then answer (rows_of_keys is_of rows) key stamp
    else answer (rows_of_keys (λ k. not (is_of k)) rows) key stamp)
parts-answer is_of rows key stamp =
    elim (is_of key) as (λ b. is_of key ≡ b
    → answer rows key stamp ≡ (if b then answer (rows_of_keys is_of rows) key stamp
    else answer (rows_of_keys (λ k. not (is_of k)) rows) key stamp)) [
      | true ↦ λ t. sym (answer-of_keys is_of rows key stamp t)
      | false ↦ λ f. sym (answer-of_keys (λ k. not (is_of k)) rows key stamp (ap not f))
    ] refl

-- two lists of rows that are divided
pub sides-answer : (left right : List Row) (key : List ℕ) (stamp : ℕ) → AreDivided left right
    → answer (left ++ right) key stamp
    ≡ (if is_of_left right key then answer left key stamp else answer right key stamp)
sides-answer left [] key stamp divided = ap (λ (rows : List Row). answer rows key stamp) (append-nil left)
sides-answer left (first ∷ rest) key stamp divided =
    let right : List Row = first ∷ rest in
    let bound : List ℕ = first.key in
    let parts : All (λ row. is_under bound row.key ≡ true) left × All (λ row. is_from bound row.key ≡ true) right =
    divided in
    elim (is_under bound key) as (λ b. is_under bound key ≡ b
    → answer (left ++ right) key stamp ≡ (if b then answer left key stamp else answer right key stamp)) [
      | true ↦ λ t.
          ap (λ (o : Option Row). option_and_then (λ (row : Row). row.value) o)
          (newest_before_others left right key stamp
          (λ row m e. not-both (is_under bound key) t
          (ap (is_from bound) (sym e) ∙ All-contains (λ (r : Row). is_from bound r.key ≡ true) right row parts.1 m)))
      | false ↦ λ f.
          ap (λ (o : Option Row). option_and_then (λ (row : Row). row.value) o)
          (newest_after_others left right key stamp
          (λ row m e. both_ways (is_under bound key) f
          (ap (is_under bound) (sym e) ∙ All-contains (λ (r : Row). is_under bound r.key ≡ true) left row parts.0 m)))
    ] refl

is_lt-Less : (o : Ordering) → is_lt o ≡ true → o ≡ Less
is_lt-Less Less h = refl
is_lt-Less Equal h = absurd (cc)
is_lt-Less Greater h = absurd (cc)

-- a key below a bound is below one that is not
key-less : (a bound c : List ℕ) → is_under bound a ≡ true → is_from bound c ≡ true → slice_cmp nat_cmp a c ≡ Less
key-less a bound c under from =
    let less : slice_cmp nat_cmp a bound ≡ Less = is_lt-Less (slice_cmp nat_cmp a bound) under in
    elim (slice_cmp nat_cmp c bound) as (λ o. slice_cmp nat_cmp c bound ≡ o → slice_cmp nat_cmp a c ≡ Less) [
      | Less ↦ λ e. absurd (not-both (is_under bound c) (ap is_lt e) from)
      | Equal ↦ λ e.
          nat_list_cmp_total.antisymm a c ∙ ap ordering_reverse (nat_list_cmp_total.congr c bound a e)
          ∙ sym (nat_list_cmp_total.antisymm a bound) ∙ less
      | Greater ↦ λ e.
          nat_list_cmp_total.trans a bound c less (nat_list_cmp_total.antisymm bound c ∙ ap ordering_reverse e)
    ] refl

-- so each row of the left list is below each of the right one
sides-less : (left right : List Row) → AreDivided left right → (a c : Row) → Contains left a → Contains right c
    → row_cmp a c ≡ Less
sides-less left [] divided a c m n = absurd (Contains-none c n)
sides-less left (first ∷ rest) divided a c m n =
    let bound : List ℕ = first.key in
    let parts : All (λ row. is_under bound row.key ≡ true) left
    × All (λ row. is_from bound row.key ≡ true) (first ∷ rest) = divided in
    ap (λ o. ordering_then o (ordering_then (nat_cmp a.stamp c.stamp) (nat_cmp a.node c.node)))
    (key-less a.key bound c.key (All-contains (λ (r : Row). is_under bound r.key ≡ true) left a parts.0 m)
    (All-contains (λ (r : Row). is_from bound r.key ≡ true) (first ∷ rest) c parts.1 n))

pub joined-is_checkpoint : (left right : StoreView) → AreJoinable left right → IsCheckpoint left → IsCheckpoint right
    → IsCheckpoint (with_rows left (left.rows ++ right.rows))
joined-is_checkpoint left right fit l r =
    let rows : List Row = left.rows ++ right.rows in
    let up : RowsAscend rows = sorted_append row_cmp left.rows right.rows l.ascend r.ascend
    (sides-less left.rows right.rows fit.3) in
    let under : All (IsUnderHead left.links) right.rows =
    subst (λ (links : List IntakeView). All (IsUnderHead links) right.rows) (sym fit.0.1) r.store.consistent.stored in
    record {
      store = record {
        consistent = record {
          opened = l.store.consistent.opened;
          row_set = ascending_rows_are_a_row_set rows up;
          stored = All-append (IsUnderHead left.links) left.rows right.rows l.store.consistent.stored under;
        };
        sound = record {
          nodes = l.store.sound.nodes;
          stamps = l.store.sound.stamps;
          last = l.store.sound.last;
          top = l.store.sound.top;
          horizon = l.store.sound.horizon;
          limits = All-append IsInLimits left.rows right.rows l.store.sound.limits r.store.sound.limits;
        };
        register = l.store.register;
      };
      ascend = up;
    }

-- the same of two parts, and of what two stores are joined into
pub halves_answer : (kept below rest : StoreView) (bound key : List ℕ) (stamp : ℕ)
    → below ≡ part_of (is_under bound) kept → rest ≡ part_of (is_from bound) kept
    → answer kept.rows key stamp
    ≡ (if is_under bound key then answer below.rows key stamp else answer rest.rows key stamp)
halves_answer kept below rest bound key stamp is_below is_rest =
    rw (is_below, is_rest) (parts-answer (is_under bound) kept.rows key stamp)

pub merged_answers : (left right made : StoreView) (key : List ℕ) (stamp : ℕ)
    → made ≡ with_rows left (left.rows ++ right.rows) → AreJoinable left right
    → answer made.rows key stamp
    ≡ (if is_of_left right.rows key then answer left.rows key stamp else answer right.rows key stamp)
merged_answers left right made key stamp is fit =
    ap (λ (kept : StoreView). answer kept.rows key stamp) is ∙ sides-answer left.rows right.rows key stamp fit.3

pub merged_is_checkpoint : (left right made : StoreView) → made ≡ with_rows left (left.rows ++ right.rows)
    → AreJoinable left right → IsCheckpoint left → IsCheckpoint right → IsCheckpoint made
merged_is_checkpoint left right made is fit l r = subst IsCheckpoint (sym is) (joined-is_checkpoint left right fit l r)
