-- Some of the rows of a row set answer as all do if they include the newest row: at a stamp, from a stamp on above
-- which they include all, without the rows above a stamp, and with one more row.
use Rattle.std.proofs.Common.{Contains, Some, None, refl, sym, ap, ◌∙◌, subst, inl, inr, arith, leb}
use Rattle.std.proofs.Common.{◌≡◌, ℕ, ◌≤◌, List, [], ◌∷◌, ◌<◌, ◌++◌}
use Rattle.std.proofs.lemmas.Bool.{cases_lt, le-leb}
use Rattle.std.proofs.lemmas.List.Elements.{Contains-push_cases, Contains-append_left, Contains-push}
use Rattle.hlc_values.proofs.MemberLemmas.{Contains-filter, Contains-from_filter, Contains-none, Contains-cons_cases}
use Rattle.hlc_values.proofs.MemberLemmas.{Contains-first, Contains-rest}
use Rattle.hlc_values.proofs.PigeonLemmas.{AreApart}
use Rattle.hlc_rows.specs.Rows.{IsRowSet, IsSameVersion, newest, answer, IsNewest}
use Rattle.hlc_rows.specs.declared.row.Row.{Row}
use Rattle.hlc_rows.proofs.NewestLemmas.{newest_is_greatest, no_newest_no_row, newest_is_unique, no_later_stamp}
use Rattle.hlc_rows.proofs.NewestLemmas.{answer_none, answer_some, answer_stays}
use Rattle.hlc_table_column.proofs.FlagLemmas.{filter-IsRowSet}
use Rattle.hlc_vacuum_draft.specs.Vacuumed.{rows_to}

-- no row of a row set is the same version as the last one
last_apart : (all : List Row) (row last : Row) → IsRowSet (all ++ last ∷ []) → Contains all row
    → IsSameVersion row last → ⊥
last_apart [] row last set' i same = Contains-none row i
last_apart (first ∷ all) row last set' i same =
    elim (Contains-cons_cases first row all i) [
      | inl e ↦ set'.0 last (Contains-push all last) (subst (λ r. IsSameVersion r last) (sym e) same)
      | inr rest ↦ last_apart all row last set'.1 rest same
    ]

-- a part of a row set is a row set with one more row, if all are
pub push-IsRowSet : (part all : List Row) (last : Row) → IsRowSet part
    → ((row : Row) → Contains part row → Contains all row) → IsRowSet (all ++ last ∷ []) → IsRowSet (part ++ last ∷ [])
push-IsRowSet [] all last set' within pushed = ((λ other i same. Contains-none other i), tt)
push-IsRowSet (first ∷ part) all last set' within pushed = (
  λ other i same.
      elim (Contains-push_cases part last other i) [
        | inl old ↦ set'.0 other old same
        | inr new ↦ last_apart all first last pushed (within first (Contains-first first part))
            (subst (λ r. IsSameVersion first r) (sym new) same)
      ],
  push-IsRowSet part all last set'.1 (λ row i. within row (Contains-rest first row part i)) pushed,
)

-- no row of a row set is the same version as a later one
pub apart_rows : (rows : List Row) → IsRowSet rows → AreApart (λ a b. IsSameVersion a b → ⊥) rows
apart_rows [] set' = tt
apart_rows (row ∷ rows) set' = (set'.0, apart_rows rows set'.1)

-- the newest of all is the newest of a part that has it
pub newest_in_part : (part all : List Row) (key : List ℕ) (stamp : ℕ) (row : Row) → IsRowSet part
    → ((r : Row) → Contains part r → Contains all r) → IsNewest all key stamp row → Contains part row
    → newest part key stamp ≡ Some row
newest_in_part part all key stamp row set' within is i =
    newest_is_unique part key stamp row set' (record {
      member = i;
      of_key = is.of_key;
      in_bound = is.in_bound;
      greatest = λ other m k s. is.greatest other (within other m) k s;
    })

pub none_in_part : (part all : List Row) (key : List ℕ) (stamp : ℕ)
    → ((r : Row) → Contains part r → Contains all r) → newest all key stamp ≡ None → newest part key stamp ≡ None
none_in_part part all key stamp within e =
    elim (newest part key stamp) as (λ o. newest part key stamp ≡ o → o ≡ None) [
      | None ↦ λ _. refl
      | Some row ↦ λ f. let is = newest_is_greatest part key stamp row f in
          absurd (no_newest_no_row all key stamp row e (within row is.member) is.of_key is.in_bound)
    ] refl

-- if they are alike at f and the part has all rows above f, they are alike from f on
pub alike_from : (part all : List Row) (f : ℕ) → IsRowSet part
    → ((r : Row) → Contains part r → Contains all r) → ((r : Row) → Contains all r → f < r.stamp → Contains part r)
    → (key : List ℕ) (stamp : ℕ) → f ≤ stamp → answer part key f ≡ answer all key f
    → answer part key stamp ≡ answer all key stamp
alike_from part all f set' within above key stamp le same =
    elim (newest all key stamp) as (λ o. newest all key stamp ≡ o → answer part key stamp ≡ answer all key stamp) [
      | None ↦ λ e. answer_none part key stamp (none_in_part part all key stamp within e)
          ∙ sym (answer_none all key stamp e)
      | Some row ↦ λ e.
          let is = newest_is_greatest all key stamp row e in
          elim (cases_lt f row.stamp) [
            | inl lt ↦ answer_some part key stamp row
                (newest_in_part part all key stamp row set' within is (above row is.member lt))
                ∙ sym (answer_some all key stamp row e)
            | inr ge ↦
                answer_stays part key f stamp le
                (λ r i k s. let t = no_later_stamp r row (is.greatest r (within r i) k s) in omega arith)
                ∙ same
                ∙ sym (answer_stays all key f stamp le
                (λ r i k s. let t = no_later_stamp r row (is.greatest r i k s) in omega arith))
          ]
    ] refl

-- a row that is no candidate changes no answer
answer-push_miss : (rows : List Row) (last : Row) (key : List ℕ) (stamp : ℕ)
    → IsRowSet (rows ++ last ∷ []) → (last.key ≡ key → last.stamp ≤ stamp → ⊥)
    → answer (rows ++ last ∷ []) key stamp ≡ answer rows key stamp
answer-push_miss rows last key stamp set' miss =
    elim (newest rows key stamp) as (λ o. newest rows key stamp ≡ o
    → answer (rows ++ last ∷ []) key stamp ≡ answer rows key stamp) [
      | None ↦ λ e.
          let none : newest (rows ++ last ∷ []) key stamp ≡ None =
          elim (newest (rows ++ last ∷ []) key stamp) as (λ o. newest (rows ++ last ∷ []) key stamp ≡ o → o ≡ None) [
            | None ↦ λ _. refl
            | Some row ↦ λ f.
                let is = newest_is_greatest (rows ++ last ∷ []) key stamp row f in
                absurd (elim (Contains-push_cases rows last row is.member) [
                  | inl old ↦ no_newest_no_row rows key stamp row e old is.of_key is.in_bound
                  | inr new ↦ miss (ap (λ (r : Row). r.key) new ∙ is.of_key)
                      (let t = ap (λ (r : Row). r.stamp) new in let b = is.in_bound in omega arith)
                ])
          ] refl in
          answer_none (rows ++ last ∷ []) key stamp none ∙ sym (answer_none rows key stamp e)
      | Some row ↦ λ e.
          let is = newest_is_greatest rows key stamp row e in
          let best : IsNewest (rows ++ last ∷ []) key stamp row = record {
            member = Contains-append_left rows (last ∷ []) row is.member;
            of_key = is.of_key;
            in_bound = is.in_bound;
            greatest = λ other m k s. elim (Contains-push_cases rows last other m) [
              | inl old ↦ is.greatest other old k s
              | inr new ↦
                  absurd (miss (ap (λ (r : Row). r.key) new ∙ k) (let t = ap (λ (r : Row). r.stamp) new in omega arith))
            ];
          } in
          answer_some (rows ++ last ∷ []) key stamp row (newest_is_unique (rows ++ last ∷ []) key stamp row set' best)
          ∙ sym (answer_some rows key stamp row e)
    ] refl

-- a row is written above the horizon
pub answer-push : (part all : List Row) (horizon : ℕ) (last : Row)
    → IsRowSet (part ++ last ∷ []) → IsRowSet (all ++ last ∷ []) → ((r : Row) → Contains part r → Contains all r)
    → ((r : Row) → Contains all r → horizon < r.stamp → Contains part r) → horizon < last.stamp
    → (key : List ℕ) (stamp : ℕ) → answer part key stamp ≡ answer all key stamp
    → answer (part ++ last ∷ []) key stamp ≡ answer (all ++ last ∷ []) key stamp
answer-push part all horizon last part_set all_set within above new key stamp same =
    let inside : (r : Row) → Contains (part ++ last ∷ []) r → Contains (all ++ last ∷ []) r =
    λ r i. elim (Contains-push_cases part last r i) [
      | inl old ↦ Contains-append_left all (last ∷ []) r (within r old)
      | inr e ↦ subst (Contains (all ++ last ∷ [])) e (Contains-push all last)
    ] in
    elim (newest (all ++ last ∷ []) key stamp) as (λ o. newest (all ++ last ∷ []) key stamp ≡ o
    → answer (part ++ last ∷ []) key stamp ≡ answer (all ++ last ∷ []) key stamp) [
      | None ↦ λ e. answer_none (part ++ last ∷ []) key stamp (none_in_part (part ++ last ∷ [])
          (all ++ last ∷ []) key stamp inside e) ∙ sym (answer_none (all ++ last ∷ []) key stamp e)
      | Some row ↦ λ e.
          let is = newest_is_greatest (all ++ last ∷ []) key stamp row e in
          elim (cases_lt horizon row.stamp) [
            | inl lt ↦
                let kept : Contains (part ++ last ∷ []) row =
                elim (Contains-push_cases all last row is.member) [
                  | inl old ↦ Contains-append_left part (last ∷ []) row (above row old lt)
                  | inr e ↦ subst (Contains (part ++ last ∷ [])) e (Contains-push part last)
                ] in
                answer_some (part ++ last ∷ []) key stamp row
                (newest_in_part (part ++ last ∷ []) (all ++ last ∷ []) key stamp row part_set inside is kept)
                ∙ sym (answer_some (all ++ last ∷ []) key stamp row e)
            | inr ge ↦
                let miss : last.key ≡ key → last.stamp ≤ stamp → ⊥ =
                λ k s. let t = no_later_stamp last row (is.greatest last (Contains-push all last) k s) in omega arith in
                answer-push_miss part last key stamp part_set miss ∙ same
                ∙ sym (answer-push_miss all last key stamp all_set miss)
          ]
    ] refl

-- a row set with the same rows has the same answers
pub same_rows : (rows others : List Row) → IsRowSet rows
    → ((row : Row) → Contains rows row → Contains others row) → ((row : Row) → Contains others row → Contains rows row)
    → (key : List ℕ) (stamp : ℕ) → answer rows key stamp ≡ answer others key stamp
same_rows rows others set' within back key stamp =
    elim (newest others key stamp) as (λ o. newest others key stamp ≡ o
    → answer rows key stamp ≡ answer others key stamp) [
      | None ↦ λ e. answer_none rows key stamp (none_in_part rows others key stamp within e)
          ∙ sym (answer_none others key stamp e)
      | Some row ↦ λ e.
          let is = newest_is_greatest others key stamp row e in
          answer_some rows key stamp row
          (newest_in_part rows others key stamp row set' within is (back row is.member))
          ∙ sym (answer_some others key stamp row e)
    ] refl

-- the rows above a stamp are not needed to answer at or below it
pub answer-rows_to : (rows : List Row) (bound : ℕ) (key : List ℕ) (point : ℕ) → IsRowSet rows
    → point ≤ bound → answer (rows_to bound rows) key point ≡ answer rows key point
answer-rows_to rows bound key point set' le =
    elim (newest rows key point) as (λ o. newest rows key point ≡ o
    → answer (rows_to bound rows) key point ≡ answer rows key point) [
      | None ↦ λ e.
          let none : newest (rows_to bound rows) key point ≡ None =
          elim (newest (rows_to bound rows) key point) as (λ o. newest (rows_to bound rows) key point ≡ o → o ≡ None) [
            | None ↦ λ _. refl
            | Some u ↦ λ f.
                let is = newest_is_greatest (rows_to bound rows) key point u f in
                absurd (no_newest_no_row rows key point u e
                (Contains-from_filter (λ r. leb r.stamp bound) rows u is.member).0 is.of_key is.in_bound)
          ] refl in
          answer_none (rows_to bound rows) key point none ∙ sym (answer_none rows key point e)
      | Some v ↦ λ e.
          let is = newest_is_greatest rows key point v e in
          let low : v.stamp ≤ bound = omega (arith, is.in_bound, le) in
          let kept : IsNewest (rows_to bound rows) key point v = record {
            member = Contains-filter (λ r. leb r.stamp bound) rows v is.member (le-leb v.stamp bound low);
            of_key = is.of_key;
            in_bound = is.in_bound;
            greatest =
                λ other i k s. is.greatest other (Contains-from_filter (λ r. leb r.stamp bound) rows other i).0 k s;
          } in
          answer_some (rows_to bound rows) key point v
          (newest_is_unique (rows_to bound rows) key point v (filter-IsRowSet (λ r. leb r.stamp bound) rows set') kept)
          ∙ sym (answer_some rows key point v e)
    ] refl
