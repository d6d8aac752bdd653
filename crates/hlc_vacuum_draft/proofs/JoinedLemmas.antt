-- The plan of a table is the plans of its columns one after another: rows of other keys change neither the newest row
-- of a key nor its changes.
use Rattle.std.proofs.Common.{◌≡◌, ◌≢◌, ◌<◌, ◌+◌, ℕ, List, [], ◌∷◌, ◌++◌, length, Bool, sym, ap, ap₂, ◌∙◌, refl, subst}
use Rattle.std.proofs.Common.{arith, None, take, drop, get_or, Contains, inl, inr, Less, nat_cmp}
use Rattle.std.specs.List.{AllByRecursion, items_where_true, Sorted.IsStrictlySortedBy}
use Rattle.std.specs.Cmp.Lexicographic.{slice_cmp}
use Rattle.std.proofs.lemmas.{Cmp.nat_list_cmp_total, Cmp.tied_itself, Map.Views.All-after_first, Grind.flat_map-append}
use Rattle.std.proofs.lemmas.List.{append-nil, length-append, take_more, map-append, take-append-drop}
use Rattle.std.proofs.lemmas.List.Elements.{Contains-append_cases, Contains-append_right, All-contains}
use Rattle.hlc_rows.specs.{declared.row.Row.Row, Rows.newest, Rows.IsRowSet}
use Rattle.hlc_witness.specs.{declared.witness.Witness.Witness, Changes.AreChanges, Cost.changes_cost}
use Rattle.hlc_clock.specs.Points.{last_point, PointsAscend}
use Rattle.hlc_witness.specs.AllChanges.{key_changes, changes_of}
use Rattle.hlc_vacuum_draft.specs.{Vacuumed.IsVacuumOf, Draft.IsDraft}
use Rattle.hlc_table_column.specs.Cells.{Cell}
use Rattle.hlc_table_column.specs.Rows.{KeyCells, rows_of, rows_in_one, rows_in, keys_in, KeysAscend}
use Rattle.hlc_vacuum_draft.specs.{declared.draft.Draft.Draft, Plan.IsPlanOf, Plan.IsTallyOf}
use Rattle.hlc_vacuum_draft.specs.KeyPlan.{IsKeyPlan, IsKeyVacuum, IsJoined, IsDraftOf, AddsPlan, own_changes}
use Rattle.hlc_table_column.proofs.RowLemmas.{row_key, key_among}
use Rattle.hlc_rows.proofs.NewestLemmas.{newest_after_others, newest_before_others}
use Rattle.hlc_witness.proofs.ChangeLemmas.{changes_are_found_key_by_key}
use Rattle.hlc_vacuum_draft.proofs.VacuumLemmas.{newest_rows_suffice, vacuums_cost_changes}
use Rattle.hlc_values.proofs.MemberLemmas.{Contains-none, Contains-first, Contains-rest, Contains-cons_cases}
use Rattle.hlc_vacuum_draft.proofs.{Costs.cost-append, Steps.changes_alike, Steps.changes-of}
use Rattle.hlc_vacuum_draft.proofs.Drafts.{draft-append, draft-none, draft-KeepsNewest}

-- the front of an ascending list, and its back, ascend
all_front : {X : Type 0} (P : X → Type 0) (xs ys : List X) → AllByRecursion P (xs ++ ys) → AllByRecursion P xs
all_front P [] ys all' = tt
all_front P (x ∷ xs) ys all' = (all'.0, all_front P xs ys all'.1)

sorted_front : (xs ys : List (List ℕ)) → IsStrictlySortedBy (slice_cmp nat_cmp) (xs ++ ys)
    → IsStrictlySortedBy (slice_cmp nat_cmp) xs
unfolding IsStrictlySortedBy
sorted_front [] ys up = tt
sorted_front (x ∷ xs) ys up = (all_front (λ y. slice_cmp nat_cmp x y ≡ Less) xs ys up.0, sorted_front xs ys up.1)

sorted_back : (xs ys : List (List ℕ)) → IsStrictlySortedBy (slice_cmp nat_cmp) (xs ++ ys)
    → IsStrictlySortedBy (slice_cmp nat_cmp) ys
unfolding IsStrictlySortedBy
sorted_back [] ys up = up
sorted_back (x ∷ xs) ys up = sorted_back xs ys up.1

pub ascend_front : (front back : List KeyCells) → KeysAscend (front ++ back) → KeysAscend front
ascend_front front back up =
    sorted_front (keys_in front) (keys_in back)
    (subst (IsStrictlySortedBy (slice_cmp nat_cmp)) (map-append (λ (c : KeyCells). c.key) front back) up)

pub ascend_back : (front back : List KeyCells) → KeysAscend (front ++ back) → KeysAscend back
ascend_back front back up =
    sorted_back (keys_in front) (keys_in back)
    (subst (IsStrictlySortedBy (slice_cmp nat_cmp)) (map-append (λ (c : KeyCells). c.key) front back) up)

-- a key in the front is not in the back
sorted_apart : (front back : List (List ℕ)) (key other : List ℕ)
    → IsStrictlySortedBy (slice_cmp nat_cmp) (front ++ back)
    → Contains front key → Contains back other → key ≢ other
unfolding IsStrictlySortedBy
sorted_apart [] back key other up i j same = Contains-none key i
sorted_apart (x ∷ xs) back key other up i j same = elim (Contains-cons_cases x key xs i) [
  | inl is ↦
      let below = All-contains (λ z. slice_cmp nat_cmp x z ≡ Less) (xs ++ back) other
      (All-after_first (slice_cmp nat_cmp) x (xs ++ back) up) (Contains-append_right xs back other j) in
      let less : slice_cmp nat_cmp x other ≡ Less = below in
      let itself = tied_itself nat_list_cmp_total other in
      absurd (let l : slice_cmp nat_cmp other other ≡ Less = rw (is ∙ same) at less in cc)
  | inr r ↦ sorted_apart xs back key other up.1 r j same
]

-- changes depend only on the newest rows of the keys
changes_among : (points : List ℕ) (whole own : List Row) (keys : List (List ℕ))
    → ((key : List ℕ) → Contains keys key → (bound : ℕ) → newest whole key bound ≡ newest own key bound)
    → changes_of whole points keys ≡ changes_of own points keys
changes_among points whole own [] each = refl
changes_among points whole own (key ∷ keys) each =
    ap₂ (λ xs ys. xs ++ ys)
    (changes_alike whole own key (each key (Contains-first key keys)) None points)
    (changes_among points whole own keys (λ k m. each k (Contains-rest key k keys m)))

change_key : (points : List ℕ) (rows : List Row) (keys : List (List ℕ)) (c : Witness)
    → Contains (changes_of rows points keys) c
    → Contains keys c.key
change_key points rows [] c i = absurd (Contains-none c i)
change_key points rows (key ∷ keys) c i =
    elim (Contains-append_cases (key_changes rows key None points) (changes_of rows points keys) c i) [
      | inl here ↦
          subst (Contains (key ∷ keys)) (sym (changes-of rows key None points c here).0) (Contains-first key keys)
      | inr there ↦ Contains-rest key c.key keys (change_key points rows keys c there)
    ]

-- the plan of one column
joined_one : (points : List ℕ) (one : KeyCells) (keep : List Bool)
    → IsDraft (rows_in_one one) (last_point points) (key_changes (rows_in_one one) one.key None points) keep
    → IsJoined (one ∷ []) points (key_changes (rows_in_one one) one.key None points) keep
    (changes_cost (rows_in_one one) (key_changes (rows_in_one one) one.key None points))
joined_one points one keep draft =
    let mine = key_changes (rows_in_one one) one.key None points in
    let alone : rows_in (one ∷ []) ≡ rows_in_one one = append-nil (rows_in_one one) in
    record {
      all_changes = sym (append-nil mine) ∙ ap (λ rows. changes_of rows points (one.key ∷ [])) (sym alone);
      draft = subst (λ rows. IsDraft rows (last_point points) mine keep) (sym alone) draft;
      cost = ap (λ rows. changes_cost rows mine) (sym alone);
    }

-- more columns after others
pub joined_append : (points : List ℕ) (front back : List KeyCells) → KeysAscend (front ++ back)
    → (changes more : List Witness) (flags keep : List Bool) (bytes total : ℕ)
    → IsJoined front points changes flags bytes → IsJoined back points more keep total
    → IsJoined (front ++ back) points (changes ++ more) (flags ++ keep) (bytes + total)
joined_append points front back up changes more flags keep bytes total so also =
    let apart = sorted_apart (keys_in front) (keys_in back) in
    let keys = subst (IsStrictlySortedBy (slice_cmp nat_cmp)) (map-append (λ (c : KeyCells). c.key) front back) up in
    let both = rows_in front ++ rows_in back in
    let rows : rows_in (front ++ back) ≡ both = flat_map-append rows_in_one front back in
    let of_front : (key : List ℕ) → Contains (keys_in front) key → (bound : ℕ) → newest both key bound ≡ newest
    (rows_in front) key bound =
    λ key i bound. newest_before_others (rows_in front) (rows_in back) key bound
    (λ row m same. apart key row.key keys i (key_among back row m) (sym same)) in
    let of_back : (key : List ℕ) → Contains (keys_in back) key → (bound : ℕ)
    → newest both key bound ≡ newest (rows_in back)
    key bound =
    λ key i bound. newest_after_others (rows_in front) (rows_in back) key bound
    (λ row m same. apart row.key key keys (key_among front row m) i same) in
    let firsts : (c : Witness) → Contains changes c → newest both c.key c.at ≡ newest (rows_in front) c.key c.at =
    λ c m. of_front c.key
    (change_key points (rows_in front) (keys_in front) c (subst (λ cs. Contains cs c) so.all_changes m)) c.at in
    let seconds : (d : Witness) → Contains more d → newest both d.key d.at ≡ newest (rows_in back) d.key d.at =
    λ d m. of_back d.key
    (change_key points (rows_in back) (keys_in back) d (subst (λ cs. Contains cs d) also.all_changes m)) d.at in
    record {
      all_changes =
          ap₂ (λ xs ys. xs ++ ys)
          (so.all_changes ∙ sym (changes_among points both (rows_in front) (keys_in front) of_front))
          (also.all_changes ∙ sym (changes_among points both (rows_in back) (keys_in back) of_back))
          ∙ sym (flat_map-append (λ key. key_changes both key None points) (keys_in front) (keys_in back))
          ∙ ap₂ (λ rows keys. changes_of rows points keys) (sym rows)
          (sym (map-append (λ (c : KeyCells). c.key) front back));
      draft =
          subst (λ rows. IsDraft rows (last_point points) (changes ++ more) (flags ++ keep)) (sym rows)
          (draft-append (rows_in front) (rows_in back) (last_point points) changes more flags keep so.draft also.draft
          firsts seconds);
      cost =
          cost-append (rows_in front) (rows_in back) both changes more bytes total firsts seconds so.cost also.cost
          ∙ ap (λ rows. changes_cost rows (changes ++ more)) (sym rows);
    }

-- the changes of columns after others
pub own-append : (points : List ℕ) (front back : List KeyCells)
    → own_changes points (front ++ back) ≡ own_changes points front ++ own_changes points back
own-append points front back =
    flat_map-append (λ (one : KeyCells). key_changes (rows_in_one one) one.key None points) front back

-- the draft of more columns after others
pub draft_append : (points : List ℕ) (front back : List KeyCells) → KeysAscend (front ++ back)
    → (old more new : Draft) → IsDraftOf front points old → IsDraftOf back points more
    → new.keep ≡ old.keep ++ more.keep → new.changes ≡ old.changes + more.changes
    → new.bytes ≡ old.bytes + more.bytes → IsDraftOf (front ++ back) points new
draft_append points front back up old more new so also flags number total =
    let firsts = own_changes points front in
    let seconds = own_changes points back in
    let both = own-append points front back in
    let long = length-append firsts seconds in
    let first = so.changes in
    let second = also.changes in
    record {
      joined = rw (own-append points front back, flags, total) (joined_append points front back up firsts seconds
          old.keep more.keep old.bytes more.bytes so.joined also.joined);
      changes =
          let sum : new.changes ≡ length (firsts ++ seconds) = omega (arith, number, first, second, long) in
          sum ∙ ap length (sym both);
    }

-- the draft of one more column after others
pub draft_push : (points : List ℕ) (front : List KeyCells) (one : KeyCells) → KeysAscend (front ++ one ∷ [])
    → (old new : Draft) → IsDraftOf front points old
    → AddsPlan (rows_in_one one) one.key points old.changes new.changes old.keep new.keep
    old.bytes new.bytes → IsDraftOf (front ++ one ∷ []) points new
draft_push points front one up old new so plan =
    let mine = key_changes (rows_in_one one) one.key None points in
    let before = own_changes points front in
    let both : own_changes points (front ++ one ∷ []) ≡ before ++ mine =
    own-append points front (one ∷ []) ∙ ap (λ cs. before ++ cs) (append-nil mine) in
    let long = length-append before mine in
    let number = plan.news in
    let first = so.changes in
    record {
      joined = rw (both, plan.mores, plan.cost) (joined_append points front (one ∷ []) up before mine old.keep plan.keep
          old.bytes (changes_cost (rows_in_one one) mine) so.joined (joined_one points one plan.keep plan.draft));
      changes =
          let sum : new.changes ≡ length (before ++ mine) = omega (arith, number, first, long) in
          sum ∙ ap length (sym both);
    }

-- one more of the columns
pub column_next : (columns : List KeyCells) (i : ℕ) (one : KeyCells) → i < length columns
    → one ≡ get_or columns i one → take (i + 1) columns ≡ take i columns ++ one ∷ []
column_next columns i one lt is = take_more columns i one lt ∙ ap (λ x. take i columns ++ x ∷ []) (sym is)

-- the draft of one more of the columns
pub draft_on : (points : List ℕ) (columns : List KeyCells) (i : ℕ) (one : KeyCells) → KeysAscend columns
    → i < length columns → one ≡ get_or columns i one
    → (old new : Draft) → IsDraftOf (take i columns) points old
    → AddsPlan (rows_in_one one) one.key points old.changes new.changes old.keep new.keep
    old.bytes new.bytes → IsDraftOf (take (i + 1) columns) points new
draft_on points columns i one up lt is old new so plan =
    let next = column_next columns i one lt is in
    let ascend : KeysAscend (take (i + 1) columns) =
    ascend_front (take (i + 1) columns) (drop (i + 1) columns)
    (subst KeysAscend (sym (take-append-drop (i + 1) columns)) up) in
    subst (λ xs. IsDraftOf xs points new) (sym next)
    (draft_push points (take i columns) one (subst KeysAscend next ascend) old new so plan)

-- the draft of no columns
pub draft_none : (points : List ℕ) (draft : Draft) → draft.keep ≡ [] → draft.changes ≡ 0 → draft.bytes ≡ 0
    → IsDraftOf [] points draft
draft_none points draft flags number total =
    record {
      joined = rw (flags, total) (record { all_changes = refl; draft = draft-none (last_point points); cost = refl });
      changes = number;
    }

-- another draft of the same
pub draft_same : (points : List ℕ) (columns : List KeyCells) (old new : Draft) → new.keep ≡ old.keep
    → new.changes ≡ old.changes → new.bytes ≡ old.bytes → IsDraftOf columns points old → IsDraftOf columns points new
draft_same points columns old new flags number total so =
    record { joined = rw (flags, total) so.joined; changes = number ∙ so.changes }

-- the rows that the joined plan keeps are a vacuum
pub joined_vacuums : (points : List ℕ) (columns : List KeyCells) (changes : List Witness) (flags : List Bool)
    (bytes : ℕ) → PointsAscend points → KeysAscend columns → IsRowSet (rows_in columns)
    → IsJoined columns points changes flags bytes → IsVacuumOf
    (rows_in columns) points changes (items_where_true flags (rows_in columns))
joined_vacuums points columns changes flags bytes ascend up apart so =
    newest_rows_suffice (rows_in columns) (items_where_true flags (rows_in columns)) points changes ascend
    (subst (AreChanges (rows_in columns) points) (sym so.all_changes)
    (changes_are_found_key_by_key (rows_in columns) points (keys_in columns) ascend up (key_among columns)))
    (draft-KeepsNewest (rows_in columns) points changes flags apart so.draft)

-- and the bytes that the changes force are the cost of the kept rows
pub joined_plans : (points : List ℕ) (columns : List KeyCells) (changes : List Witness) (flags : List Bool)
    (bytes : ℕ) → PointsAscend points → KeysAscend columns → IsRowSet (rows_in columns)
    → IsJoined columns points changes flags bytes
    → IsPlanOf (record { keep = flags; points = points; witnesses = changes; bytes = bytes }) (rows_in columns)
joined_plans points columns changes flags bytes ascend up apart so =
    let vacuumed = joined_vacuums points columns changes flags bytes ascend up apart so in
    record {
      each = so.draft.each;
      ascend = ascend;
      vacuumed = vacuumed;
      cost = so.cost ∙ sym (vacuums_cost_changes (rows_in columns) (items_where_true flags (rows_in columns)) points
          changes ascend vacuumed);
    }

-- and so does the draft, with the number of the changes
pub draft_tallies : (points : List ℕ) (columns : List KeyCells) (draft : Draft) → PointsAscend points
    → KeysAscend columns → IsRowSet (rows_in columns) → IsDraftOf columns points draft
    → IsTallyOf (record { keep = draft.keep; points = points; kept = draft.changes; bytes = draft.bytes })
    (rows_in columns)
draft_tallies points columns draft ascend up apart so =
    record {
      plan = record {
        keep = draft.keep;
        points = points;
        witnesses = own_changes points columns;
        bytes = draft.bytes;
      };
      made = joined_plans points columns (own_changes points columns) draft.keep draft.bytes ascend up apart
          so.joined;
      is = ap (λ n. record { keep = draft.keep; points = points; kept = n; bytes = draft.bytes }) so.changes;
    }

up_one : (key : List ℕ) → IsStrictlySortedBy (slice_cmp nat_cmp) (key ∷ [])
unfolding IsStrictlySortedBy
up_one key = (tt, tt)

-- the rows that the plan of one key keeps are a vacuum of its rows
pub key_vacuums : (key : List ℕ) (cells : List Cell) (points ats : List ℕ) (flags : List Bool)
    → PointsAscend points → IsRowSet (rows_of key cells)
    → IsKeyPlan (rows_of key cells) key points ats flags → IsKeyVacuum
    (rows_of key cells) points ats flags
key_vacuums key cells points ats flags ascend apart plan =
    let rows = rows_of key cells in
    let mine = key_changes rows key None points in
    let are : AreChanges rows points mine =
    subst (AreChanges rows points) (append-nil mine)
    (changes_are_found_key_by_key rows points (key ∷ []) ascend (up_one key)
    (λ row i. subst (Contains (key ∷ [])) (sym (row_key key cells row i)) (Contains-first key []))) in
    record {
      changes = mine;
      are = are;
      at_points = plan.at_points;
      vacuumed =
          newest_rows_suffice rows (items_where_true flags rows) points mine ascend are
          (draft-KeepsNewest rows points mine flags apart plan.draft);
    }
