-- Rows that are added one by one: what is true of all of them after one more, and the first reason against them.
use Rattle.std.proofs.Common.{◌≡◌, List, [], ◌∷◌, ◌++◌, length, get_or, Bool, true, false, Option, Some, None, refl}
use Rattle.std.proofs.Common.{sym, ap, subst, ◌∙◌, inl, inr, Less, IsPermutation}
use Rattle.std.specs.Prelude.{All, Contains, IfNone, MatchOption, IsTrue, ◌↔◌}
use Rattle.std.specs.List.Sorted.{IsStrictlySortedBy}
use Rattle.std.proofs.{Math.Seq.take-append_seam, lemmas.Map.Views.All-before_last}
use Rattle.std.proofs.lemmas.List.Elements.{All-nil, All-push, All-take, All-contains, Contains-push}
use Rattle.std.proofs.lemmas.List.Elements.{Contains-push_cases, All-from_recursion, recursion_from_All}
use Rattle.std.proofs.lemmas.List.Sorted.{IsPermutation-refl, IsPermutation-trans, IsPermutation-append_left}
use Rattle.hlc_values.proofs.MemberLemmas.{Contains-none}
use Rattle.hlc_rows.specs.declared.row.Row.{Row}
use Rattle.hlc_columns.specs.Table.{HasNoVersion}
use Rattle.hlc_witness.specs.{Certificate.RowsAscend, Certificate.row_cmp, Cost.IsInLimits}
use Rattle.hlc_witness.proofs.ListedLemmas.{sorted_append}
use Rattle.hlc_checkpoint.specs.StoreView.{StoreView, IsUnderHead, with_rows}
use Rattle.hlc_checkpoint.specs.Checkpoint.{IsCheckpoint, IsFirstReason, IsHeadReason, IsStoreHead}
use Rattle.hlc_checkpoint.specs.declared.checkpoint.RestoreFault.{RestoreFault}
use Rattle.hlc_checkpoint.specs.Growing.{with_row, growing_of, without_value, IsLast, IsAfter, HasGrown, first_fault}
use Rattle.hlc_checkpoint.proofs.{AscendLemmas.row_cmp_total, Restored.fresh-next, CheckpointLemmas.head-checkpoint}
use Rattle.hlc_checkpoint.specs.declared.checkpoint.RestoreFault.TheVariants as reasons

-- ---- reasons

-- a reason that needs no rows is one with any rows
pub head-first : (kept : StoreView) (rows : List Row) (fault : RestoreFault) → IsHeadReason kept fault
    → IsFirstReason (with_rows kept rows) fault
head-first kept rows reasons.NodesOutOfRange is = is
head-first kept rows reasons.NumberAboveHead is = is
head-first kept rows reasons.RetiredWithoutItem is = is
head-first kept rows reasons.SnapshotsNotRising is = is
head-first kept rows reasons.SnapshotAboveFloor is = is
head-first kept rows reasons.HorizonAboveFloor is = is
head-first kept rows reasons.RowsNotAscending is = absurd is
head-first kept rows reasons.RowAboveHead is = absurd is
head-first kept rows reasons.RowOutOfLimits is = absurd is

-- the rows are the only difference
all-else : (head : StoreView) (stored : List Row) (kept : StoreView) → with_rows head stored ≡ with_rows kept stored
    → with_rows head kept.rows ≡ kept
all-else head stored kept same = ap (λ (k : StoreView). with_rows k kept.rows) same

-- the reason of the parts is one of the parts and the rows
pub grown-head : (head : StoreView) (stored : List Row) (last : Option Row) (ascend under limits : Bool)
    (kept : StoreView) (fault : RestoreFault) → HasGrown (growing_of head stored last ascend under limits) kept
    → IsHeadReason head fault → IsFirstReason kept fault
grown-head head stored last ascend under limits kept fault grown is =
    subst (λ k. IsFirstReason k fault) (all-else head stored kept grown.same) (head-first head kept.rows fault is)

not_false : {P : Type 0} → (IsTrue false ↔ P) → P → ⊥
not_false same p = (let e : false ≡ true = same.1 p in cc)

head_of_grown : (head : StoreView) (stored : List Row) (kept : StoreView)
    → with_rows head stored ≡ with_rows kept stored → IsStoreHead head → IsStoreHead kept
head_of_grown head stored kept same sound = subst IsStoreHead (all-else head stored kept same) sound

-- if nothing is wrong with the parts, the flags decide
pub grown-reason : (head : StoreView) (stored : List Row) (last : Option Row) (ascend under limits : Bool)
    (kept : StoreView) → HasGrown (growing_of head stored last ascend under limits) kept → IsStoreHead head
    → MatchOption (first_fault ascend under limits) (IsCheckpoint kept) (IsFirstReason kept)
grown-reason head stored last false under limits kept grown sound =
    (head_of_grown head stored kept grown.same sound, not_false grown.ascend)
grown-reason head stored last true false limits kept grown sound =
    (head_of_grown head stored kept grown.same sound, grown.ascend.0 refl, not_false grown.under)
grown-reason head stored last true true false kept grown sound = (
  head_of_grown head stored kept grown.same sound,
  grown.ascend.0 refl,
  grown.under.0 refl,
  not_false grown.limits,
)
grown-reason head stored last true true true kept grown sound =
    head-checkpoint kept (head_of_grown head stored kept grown.same sound) (grown.ascend.0 refl) (grown.under.0 refl)
    (grown.limits.0 refl)

none_then : {P Q : Type 0} (R : RestoreFault → Type 0) (o : Option RestoreFault) → MatchOption o P R → (P → Q)
    → IfNone o Q
none_then R None h then = then h
none_then R (Some fault) h then = tt

pub grown-sound : (head : StoreView) (stored : List Row) (last : Option Row) (ascend under limits : Bool)
    (kept : StoreView) → HasGrown (growing_of head stored last ascend under limits) kept → IsStoreHead head
    → IfNone (first_fault ascend under limits)
    ((x : StoreView) × HasGrown (growing_of head stored last ascend under limits) x × IsCheckpoint x)
grown-sound head stored last ascend under limits kept grown sound =
    none_then (IsFirstReason kept) (first_fault ascend under limits)
    (grown-reason head stored last ascend under limits kept grown sound) (λ is. (kept, grown, is))

-- with no reason, all flags are true
pub all_true : (ascend under limits : Bool) → first_fault ascend under limits ≡ None
    → IsTrue ascend × IsTrue under × IsTrue limits
all_true false under limits none = cc
all_true true false limits none = cc
all_true true true false none = cc
all_true true true true none = (refl, refl, refl)

-- ---- one more row

front_of : (P : Row → Type 0) (rows : List Row) (row : Row) → All P (rows ++ row ∷ []) → All P rows
front_of P rows row h =
    subst (All P) (take-append_seam rows (row ∷ [])) (All-take P (length rows) (rows ++ row ∷ []) h)

ascend-front : (rows : List Row) (row : Row) → RowsAscend (rows ++ row ∷ []) → RowsAscend rows
unfolding IsStrictlySortedBy
ascend-front [] row up = tt
ascend-front (first ∷ rows) row up = (
  recursion_from_All (λ y. row_cmp first y ≡ Less) rows (front_of (λ y. row_cmp first y ≡ Less) rows row
      (All-from_recursion (λ y. row_cmp first y ≡ Less) (rows ++ row ∷ []) up.0)),
  ascend-front rows row up.1,
)

one_ascends : (row : Row) → RowsAscend (row ∷ [])
unfolding IsStrictlySortedBy
one_ascends row = (tt, tt)

one_member : (row other : Row) → Contains (row ∷ []) other → row ≡ other
one_member row other is =
    elim (Contains-push_cases [] row other is) [ inl none ↦ absurd (Contains-none other none) | inr same ↦ same ]

above_all : (rows : List Row) (last : Option Row) (row : Row) → IsLast rows last → RowsAscend rows → IsAfter last row
    → All (λ r. row_cmp r row ≡ Less) rows
above_all rows None row is up after =
    subst (All (λ r. row_cmp r row ≡ Less)) (sym is) (All-nil (λ r. row_cmp r row ≡ Less))
above_all rows (Some last) row is up after =
    let front : List Row = is.0 in
    let end : Row = is.1 in
    let less : row_cmp end row ≡ Less = ap (λ r. row_cmp r row) (sym is.3) ∙ after in
    let below = All-before_last row_cmp front end (subst RowsAscend is.2 up) in
    subst (All (λ r. row_cmp r row ≡ Less)) (sym is.2) (All-push (λ r. row_cmp r row ≡ Less) front end
    (λ k d within. row_cmp_total.trans (get_or front k d) end row (below k d within) less) less)

pub ascend-more : (rows : List Row) (last : Option Row) (row : Row) → IsLast rows last → RowsAscend rows
    → IsAfter last row
    → RowsAscend (rows ++ row ∷ [])
ascend-more rows last row is up after =
    let all' = above_all rows last row is up after in
    sorted_append row_cmp rows (row ∷ []) up (one_ascends row) (λ x y in_front in_one.
    subst (λ r. row_cmp x r ≡ Less) (one_member row y in_one)
    (All-contains (λ r. row_cmp r row ≡ Less) rows x all' in_front))

ascend-less : (rows : List Row) (last : Option Row) (row : Row) → IsLast rows last → RowsAscend (rows ++ row ∷ [])
    → IsAfter last row
ascend-less rows None row is up = tt
ascend-less rows (Some last) row is up =
    let below = All-before_last row_cmp rows row up in
    let member : Contains rows is.1 = subst (λ rs. Contains rs is.1) (sym is.2) (Contains-push is.0 is.1) in
    ap (λ r. row_cmp r row) is.3 ∙ All-contains (λ r. row_cmp r row ≡ Less) rows is.1 below member

-- the last of more rows
pub last-more : (rows : List Row) (last : Option Row) (row : Row) → last ≡ Some (without_value row)
    → IsLast (rows ++ row ∷ []) last
last-more rows last row is = subst (IsLast (rows ++ row ∷ [])) (sym is) (rows, row, refl, refl)

each-more : (P : Row → Type 0) (rows : List Row) (row : Row) (before now : Bool) → (IsTrue before ↔ All P rows)
    → (IsTrue now ↔ (IsTrue before × P row)) → IsTrue now ↔ All P (rows ++ row ∷ [])
each-more P rows row before now is step = (
  λ t. All-push P rows row (is.0 (step.0 t).0) (step.0 t).1,
  λ all'. step.1 (is.1 (front_of P rows row all'), All-contains P (rows ++ row ∷ []) row all' (Contains-push rows row)),
)

-- one more row was checked, and stored if all are those of a checkpoint
pub grown-more : (head : StoreView) (stored : List Row) (last : Option Row) (a u l : Bool) (new : List Row)
    (now : Option Row) (a' u' l' : Bool) (row : Row) (kept : StoreView)
    → HasGrown (growing_of head stored last a u l) kept → now ≡ Some (without_value row)
    → (IsTrue a' ↔ (IsTrue a × IsAfter last row)) → (IsTrue u' ↔ (IsTrue u × IsUnderHead head.links row))
    → (IsTrue l' ↔ (IsTrue l × IsInLimits row))
    → (IsTrue a' → IsTrue u' → IsTrue l' → IsPermutation (stored ++ row ∷ []) new)
    → HasGrown (growing_of head new now a' u' l') (with_row kept row)
grown-more head stored last a u l new now a' u' l' row kept grown is ascend under limits put =
    let links : head.links ≡ kept.links = ap (λ (k : StoreView). k.links) grown.same in
    record {
      same = ap (λ (k : StoreView). with_rows k new) grown.same;
      last = last-more kept.rows now row is;
      ascend = (
        λ t.
            ascend-more kept.rows last row grown.last (grown.ascend.0 (ascend.0 t).0) (ascend.0 t).1,
        λ up.
            ascend.1 (
              grown.ascend.1 (ascend-front kept.rows row up),
              ascend-less kept.rows last row grown.last up,
            ),
      );
      under = each-more (IsUnderHead kept.links) kept.rows row u u' grown.under
          (subst (λ ls. IsTrue u' ↔ (IsTrue u × IsUnderHead ls row)) links under);
      limits = each-more IsInLimits kept.rows row l l' grown.limits limits;
      stored = λ t v w.
          IsPermutation-trans _ _ _ (IsPermutation-append_left (row ∷ []) kept.rows stored
          (grown.stored (ascend.0 t).0 (under.0 v).0 (limits.0 w).0)) (put t v w);
    }

-- and it is of a new version
pub grown-fresh : (head : StoreView) (stored : List Row) (last : Option Row) (a u l a' u' l' : Bool) (row : Row)
    (kept : StoreView)
    → HasGrown (growing_of head stored last a u l) kept → (IsTrue a' ↔ (IsTrue a × IsAfter last row))
    → (IsTrue u' ↔ (IsTrue u × IsUnderHead head.links row)) → (IsTrue l' ↔ (IsTrue l × IsInLimits row))
    → IsTrue a' → IsTrue u' → IsTrue l' → HasNoVersion stored row
grown-fresh head stored last a u l a' u' l' row kept grown ascend under limits t v w =
    fresh-next (kept.rows ++ row ∷ []) kept.rows [] row stored
    (ascend-more kept.rows last row grown.last (grown.ascend.0 (ascend.0 t).0) (ascend.0 t).1) refl
    (grown.stored (ascend.0 t).0 (under.0 v).0 (limits.0 w).0)

-- nothing was added
pub grown-none : (head : StoreView) → HasGrown (growing_of head [] None true true true) (with_rows head [])
unfolding IsStrictlySortedBy
grown-none head = record {
  same = refl;
  last = refl;
  ascend = (λ t. tt, λ up. refl);
  under = (λ t. All-nil (IsUnderHead head.links), λ all'. refl);
  limits = (λ t. All-nil IsInLimits, λ all'. refl);
  stored = λ t v w. IsPermutation-refl [];
}
