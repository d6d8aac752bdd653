-- One more point in the plan of a key: the changes so far and those at the remaining points are all changes of the key.
use Rattle.std.proofs.Common.{◌≡◌, ◌≢◌, ◌<◌, ◌≤◌, ◌+◌, ℕ, zero, suc, List, [], ◌∷◌, ◌++◌, length, Bool, true, cond, sym}
use Rattle.std.proofs.Common.{ap, ap₂, ◌∙◌, refl, subst, Option, Some, None, drop, map, arith, get_or, set, slice_get}
use Rattle.std.proofs.Common.{add-one, append_assoc, inl, inr}
use Rattle.std.specs.Prelude.{MatchOption, IfSome, option_and_then, Contains}
use Rattle.std.proofs.lemmas.{List.Elements.Contains-append_cases, Bool.cases_Bool, Option.none-some}
use Rattle.hlc_values.proofs.MemberLemmas.{Contains-none, Contains-first, Contains-rest, Contains-cons_cases}
use Rattle.std.proofs.lemmas.List.{append-nil, drop_more, drop_all, length-append, map-append}
use Rattle.hlc_rows.specs.{declared.row.Row.Row, Rows.newest, Rows.answer}
use Rattle.hlc_witness.specs.{declared.witness.Witness.Witness, Changes.answer_at, Cost.cost_of, Cost.changes_cost}
use Rattle.hlc_clock.specs.Points.{last_point}
use Rattle.hlc_witness.specs.AllChanges.{is_same_answer, change_at, key_changes}
use Rattle.hlc_witness.proofs.AnswerLemmas.{same_answer_true, same_answer_from}
use Rattle.hlc_table_column.specs.Rows.{at_place}
use Rattle.hlc_vacuum_draft.specs.{Draft.IsDraft, KeyPlan.IsKeyPlan, KeyPlan.AddsPlan}
use Rattle.hlc_vacuum_draft.proofs.SoFar.{point_before, PlanSoFar, KeyPlanSoFar, AddedSoFar}
use Rattle.hlc_vacuum_draft.proofs.{Drafts.draft-marked, Drafts.draft-unmarked, Costs.cost-push}

pub key_changes-more : (rows : List Row) (key : List ℕ) (before : Option ℕ) (point : ℕ) (points : List ℕ)
    → key_changes rows key before (point ∷ points)
    ≡ change_at rows key before point ++ key_changes rows key (Some point) points
unfolding key_changes
key_changes-more rows key before point points = refl

pub key_changes-none : (rows : List Row) (key : List ℕ) (before : Option ℕ) → key_changes rows key before [] ≡ []
unfolding key_changes
key_changes-none rows key before = refl

pub no_change : (rows : List Row) (key : List ℕ) (before : Option ℕ) (p : ℕ)
    → answer rows key p ≡ answer_at rows key before → change_at rows key before p ≡ []
no_change rows key before p same = ap (λ b. cond b [] (record { key = key; before = before; at = p } ∷ []))
    (same_answer_from (answer rows key p) (answer_at rows key before) same)

pub one_change : (rows : List Row) (key : List ℕ) (before : Option ℕ) (p : ℕ)
    → answer rows key p ≢ answer_at rows key before
    → change_at rows key before p ≡ record { key = key; before = before; at = p } ∷ []
one_change rows key before p differs =
    elim (cases_Bool (is_same_answer (answer rows key p) (answer_at rows key before))) [
      | inl t ↦ absurd (differs (same_answer_true (answer rows key p) (answer_at rows key before) t))
      | inr f ↦ ap (λ b. cond b [] (record { key = key; before = before; at = p } ∷ [])) f
    ]

-- the newest row at one more change is marked
pub marked : (rows : List Row) (bound : ℕ) (cs : List Witness) (flags more : List Bool) (c : Witness)
    → IsDraft rows bound cs flags
    → MatchOption (newest rows c.key c.at) (more ≡ flags)
    (λ v. (i : ℕ) × (slice_get rows i ≡ Some v) × (more ≡ set flags i true))
    → IsDraft rows bound (cs ++ c ∷ []) more
marked rows bound cs flags more c m h =
    elim (newest rows c.key c.at) as (λ o. newest rows c.key c.at ≡ o
    → MatchOption o (more ≡ flags) (λ v. (i : ℕ) × (slice_get rows i ≡ Some v) × (more ≡ set flags i true))
    → IsDraft rows bound (cs ++ c ∷ []) more) [
      | None ↦ λ e same. subst (IsDraft rows bound (cs ++ c ∷ [])) (sym same) (draft-unmarked rows bound cs flags c m e)
      | Some v ↦ λ e (i, at, is).
          subst (IsDraft rows bound (cs ++ c ∷ [])) (sym is) (draft-marked rows bound cs flags c i v m at e)
    ] refl h

all_of : (rows : List Row) (key : List ℕ) (before : Option ℕ) (points : List ℕ) (i : ℕ) (cs all : List Witness)
    → i < length points
    → cs ++ key_changes rows key before (drop i points) ≡ all
    → (cs ++ change_at rows key before (get_or points i 0))
    ++ key_changes rows key (Some (get_or points i 0)) (drop (i + 1) points) ≡ all
all_of rows key before points i cs all lt value_here =
    append_assoc cs (change_at rows key before (get_or points i 0))
    (key_changes rows key (Some (get_or points i 0)) (drop (i + 1) points))
    ∙ ap (λ ds. cs ++ ds) (sym (key_changes-more rows key before (get_or points i 0) (drop (i + 1) points))
    ∙ ap (key_changes rows key before) (sym (drop_more points i 0 lt)))
    ∙ value_here

pub next_before : (points : List ℕ) (i : ℕ) → point_before points (i + 1) ≡ Some (get_or points i 0)
next_before points i = rw add-one refl

-- the flag of the newest row
pub flagged : (rows : List Row) (key : List ℕ) (p : ℕ) (place : Option ℕ) (keep more : List Bool)
    → IfSome place (λ i. i < length rows) → at_place rows place ≡ newest rows key p
    → MatchOption place (more ≡ keep) (λ i. more ≡ set keep i true)
    → MatchOption (newest rows key p) (more ≡ keep)
    (λ v. (i : ℕ) × (slice_get rows i ≡ Some v) × (more ≡ set keep i true))
flagged rows key p None keep more within at m = subst
    (λ o. MatchOption o (more ≡ keep) (λ v. (i : ℕ) × (slice_get rows i ≡ Some v) × (more ≡ set keep i true))) at m
flagged rows key p (Some i) keep more within at m =
    elim (newest rows key p) as (λ o. slice_get rows i ≡ o
    → MatchOption o (more ≡ keep) (λ v. (i : ℕ) × (slice_get rows i ≡ Some v) × (more ≡ set keep i true))) [
      | None ↦ λ e. absurd (gap rows i within e)
      | Some v ↦ λ e. (i, e, m)
    ] at
  where
    gap : (rows : List Row) (i : ℕ) → i < length rows → slice_get rows i ≡ None → ⊥
    gap [] i l e = omega (arith, l)
    gap (r ∷ rs) zero l e = none-some r (sym e)
    gap (r ∷ rs) (suc i) l e = gap rs i (omega (arith, l)) e

set_after : (flags keep : List Bool) (j : ℕ) → set (flags ++ keep) (length flags + j) true ≡ flags ++ set keep j true
set_after [] keep j = ap (λ k. set keep k true) (let z : 0 + j ≡ j = omega arith in z)
set_after (f ∷ fs) keep j =
    ap (λ k. set (f ∷ fs ++ keep) k true) (let q : length (f ∷ fs) + j ≡ suc (length fs + j) = omega arith in q)
    ∙ ap (λ bs. f ∷ bs) (set_after fs keep j)

module _ (rows : List Row) (key points : List ℕ) (i : ℕ) (lt : i < length points) where
  pub same_so : (found : List Witness) (keep : List Bool)
      → answer rows key (get_or points i 0) ≡ answer_at rows key (point_before points i)
      → PlanSoFar rows key points i found keep → PlanSoFar rows key points (i + 1) found keep
  same_so found keep same so =
      let none = no_change rows key (point_before points i) (get_or points i 0) same in
      record {
        rest = rw (next_before points i) (rw (none, append-nil) at
            (all_of rows key (point_before points i) points i found (key_changes rows key None points) lt so.rest));
        draft = so.draft;
      }

  abbrev pub change_here : Witness
  change_here = record { key = key; before = point_before points i; at = get_or points i 0 }

  pub change_so : (found : List Witness) (keep more : List Bool)
      → answer rows key (get_or points i 0) ≢ answer_at rows key (point_before points i)
      → MatchOption (newest rows key (get_or points i 0)) (more ≡ keep)
      (λ v. (i : ℕ) × (slice_get rows i ≡ Some v) × (more ≡ set keep i true))
      → PlanSoFar rows key points i found keep
      → PlanSoFar rows key points (i + 1) (found ++ change_here ∷ []) more
  change_so found keep more differs mark so =
      let one = one_change rows key (point_before points i) (get_or points i 0) differs in
      record {
        rest = rw (next_before points i) (rw one at
            (all_of rows key (point_before points i) points i found (key_changes rows key None points) lt so.rest));
        draft = marked rows (last_point points) found keep more change_here so.draft mark;
      }

  pub same_on : (changes : List ℕ) (keep : List Bool)
      → answer rows key (get_or points i 0) ≡ answer_at rows key (point_before points i)
      → KeyPlanSoFar rows key points i changes keep → KeyPlanSoFar rows key points (i + 1) changes keep
  same_on changes keep same plan =
      record { found = plan.found; at_points = plan.at_points; so = same_so plan.found keep same plan.so }

  pub change_on : (changes : List ℕ) (keep more : List Bool)
      → answer rows key (get_or points i 0) ≢ answer_at rows key (point_before points i)
      → MatchOption (newest rows key (get_or points i 0)) (more ≡ keep)
      (λ v. (i : ℕ) × (slice_get rows i ≡ Some v) × (more ≡ set keep i true))
      → KeyPlanSoFar rows key points i changes keep
      → KeyPlanSoFar rows key points (i + 1) (changes ++ get_or points i 0 ∷ []) more
  change_on changes keep more differs mark plan =
      record {
        found = plan.found ++ change_here ∷ [];
        at_points = map-append (λ (d : Witness). d.at) plan.found (change_here ∷ [])
            ∙ ap (λ xs. xs ++ get_or points i 0 ∷ []) plan.at_points;
        so = change_so plan.found keep more differs mark plan.so;
      }

  pub same_added : (found : List Witness) (changes new : ℕ) (flags more : List Bool) (bytes total : ℕ)
      → answer rows key (get_or points i 0) ≡ answer_at rows key (point_before points i)
      → AddedSoFar rows key points i found changes new flags more bytes total
      → AddedSoFar rows key points (i + 1) found changes new flags more bytes total
  same_added found changes new flags more bytes total same added =
      record {
        keep = added.keep;
        news = added.news;
        mores = added.mores;
        cost = added.cost;
        so = same_so found added.keep same added.so;
      }

  -- the bytes that are forced, with the change here
  cost_here : (found : List Witness) (bytes total sum : ℕ) → total ≡ bytes + changes_cost rows found
      → sum ≡ total + cost_of key (answer rows key (get_or points i 0))
      → sum ≡ bytes + changes_cost rows (found ++ change_here ∷ [])
  cost_here found bytes total sum so more = let both = cost-push rows found change_here in omega arith

  -- the number of changes, with the change here
  one_more : (found : List Witness) (changes new next : ℕ) → next ≡ new + 1 → new ≡ changes + length found
      → next ≡ changes + length (found ++ change_here ∷ [])
  one_more found changes new next more so = let long = length-append found (change_here ∷ []) in omega (arith, long)

  -- a change is counted after the others, and its row is marked among the flags of this key
  pub change_added : (found : List Witness) (changes new next : ℕ) (flags more after : List Bool) (bytes total sum : ℕ)
      (place : Option ℕ)
      → answer rows key (get_or points i 0) ≢ answer_at rows key (point_before points i)
      → IfSome place (λ j. j < length rows) → at_place rows place ≡ newest rows key (get_or points i 0)
      → next ≡ new + 1
      → MatchOption place (after ≡ more) (λ j. after ≡ set more (length flags + j) true)
      → sum ≡ total + cost_of key (answer rows key (get_or points i 0))
      → AddedSoFar rows key points i found changes new flags more bytes total
      → AddedSoFar rows key points (i + 1) (found ++ change_here ∷ []) changes next flags after bytes sum
  change_added found changes new next flags more after bytes total sum None differs within at noted is cost added =
      record {
        keep = added.keep;
        news = one_more found changes new next noted added.news;
        mores = is ∙ added.mores;
        cost = cost_here found bytes total sum added.cost cost;
        so = change_so found added.keep added.keep differs
            (flagged rows key (get_or points i 0) None added.keep added.keep within at refl) added.so;
      }
  change_added found changes new next flags more after bytes total sum (Some j) differs within at noted is cost added =
      record {
        keep = set added.keep j true;
        news = one_more found changes new next noted added.news;
        mores = is ∙ ap (λ bs. set bs (length flags + j) true) added.mores ∙ set_after flags added.keep j;
        cost = cost_here found bytes total sum added.cost cost;
        so = change_so found added.keep (set added.keep j true) differs
            (flagged rows key (get_or points i 0) (Some j) added.keep (set added.keep j true) within at refl) added.so;
      }

-- if no points remain, no change does
pub none_left : (rows : List Row) (key points : List ℕ) (i : ℕ) → length points ≤ i
    → key_changes rows key (point_before points i) (drop i points) ≡ []
none_left rows key points i le = ap (key_changes rows key (point_before points i)) (drop_all i points le)
    ∙ key_changes-none rows key (point_before points i)

-- if no change remains to be found, the changes are all
pub all_found : (rows : List Row) (key points : List ℕ) (i : ℕ) (found : List Witness) (keep : List Bool)
    → key_changes rows key (point_before points i) (drop i points) ≡ [] → PlanSoFar rows key points i found keep
    → found ≡ key_changes rows key None points
all_found rows key points i found keep none so = sym (ap (λ ds. found ++ ds) none ∙ append-nil found) ∙ so.rest

pub plan_done : (rows : List Row) (key points : List ℕ) (i : ℕ) (changes : List ℕ) (keep : List Bool)
    → length points ≤ i → KeyPlanSoFar rows key points i changes keep → IsKeyPlan rows key points changes keep
plan_done rows key points i changes keep le plan =
    let e = all_found rows key points i plan.found keep (none_left rows key points i le) plan.so in
    record {
      at_points = ap (map (λ (c : Witness). c.at)) (sym e) ∙ plan.at_points;
      draft = subst (λ ds. IsDraft rows (last_point points) ds keep) e plan.so.draft;
    }

pub added_all : (rows : List Row) (key points : List ℕ) (i : ℕ) (found : List Witness) (changes new : ℕ)
    (flags more : List Bool) (bytes total : ℕ) → found ≡ key_changes rows key None points
    → AddedSoFar rows key points i found changes new flags more bytes total
    → AddsPlan rows key points changes new flags more bytes total
added_all rows key points i found changes new flags more bytes total e added =
    record {
      keep = added.keep;
      news = added.news ∙ ap (λ (ds : List Witness). changes + length ds) e;
      mores = added.mores;
      cost = added.cost ∙ ap (λ ds. bytes + changes_cost rows ds) e;
      draft = subst (λ ds. IsDraft rows (last_point points) ds added.keep) e added.so.draft;
    }

-- if the answer does not change at any point, there is no change
pub none_more : (rows : List Row) (key : List ℕ) (before : Option ℕ) (points : List ℕ)
    → ((p : ℕ) → Contains points p → answer rows key p ≡ answer_at rows key before)
    → key_changes rows key before points ≡ []
none_more rows key before [] stays = key_changes-none rows key before
none_more rows key before (p ∷ ps) stays =
    let here = stays p (Contains-first p ps) in
    key_changes-more rows key before p ps
    ∙ ap₂ (λ cs ds. cs ++ ds) (no_change rows key before p here)
    (none_more rows key (Some p) ps (λ q i. stays q (Contains-rest p q ps i) ∙ sym here))

-- the changes of a key depend only on its newest rows
pub changes_alike : (xs ys : List Row) (key : List ℕ) → ((p : ℕ) → newest xs key p ≡ newest ys key p)
    → (before : Option ℕ) (points : List ℕ) → key_changes xs key before points ≡ key_changes ys key before points
unfolding key_changes
changes_alike xs ys key alike before [] = refl
changes_alike xs ys key alike before (p ∷ ps) =
    ap₂ (λ b rest. cond b [] (record { key = key; before = before; at = p } ∷ []) ++ rest)
    (ap₂ is_same_answer (value_here p) (at_before before))
    (changes_alike xs ys key alike (Some p) ps)
  where
    value_here : (p : ℕ) → answer xs key p ≡ answer ys key p
    value_here p = ap (option_and_then (λ (r : Row). r.value)) (alike p)

    at_before : (before : Option ℕ) → answer_at xs key before ≡ answer_at ys key before
    at_before None = refl
    at_before (Some b) = ap (option_and_then (λ (r : Row). r.value)) (alike b)

-- a change of a key has that key, and is at one of the points
pub changes-of : (rows : List Row) (key : List ℕ) (before : Option ℕ) (points : List ℕ) (c : Witness)
    → Contains (key_changes rows key before points) c → (c.key ≡ key) × Contains points c.at
changes-of rows key before [] c i =
    absurd (Contains-none c (subst (λ cs. Contains cs c) (key_changes-none rows key before) i))
changes-of rows key before (p ∷ ps) c i =
    elim (Contains-append_cases (change_at rows key before p) (key_changes rows key (Some p) ps) c
    (subst (λ cs. Contains cs c) (key_changes-more rows key before p ps) i)) [
      | inl here ↦ elim (cases_Bool (is_same_answer (answer rows key p) (answer_at rows key before))) [
        | inl t ↦ absurd (Contains-none c
            (subst (λ b. Contains (cond b [] (record { key = key; before = before; at = p } ∷ [])) c) t here))
        | inr f ↦ elim (Contains-cons_cases {X = Witness} (record { key = key; before = before; at = p }) c []
            (subst (λ b. Contains (cond b [] (record { key = key; before = before; at = p } ∷ [])) c) f here)) [
              | inl is ↦ (
                ap (λ (d : Witness). d.key) (sym is),
                subst (Contains (p ∷ ps)) (ap (λ (d : Witness). d.at) is) (Contains-first p ps),
              )
              | inr none ↦ absurd (Contains-none c none)
            ]
      ]
      | inr later ↦ let h = changes-of rows key (Some p) ps c later in (h.0, Contains-rest p c.at ps h.1)
    ]
