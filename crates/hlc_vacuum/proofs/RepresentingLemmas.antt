-- Stored rows continue to represent all accepted ones. A vacuum at the floor preserves the answers at the floor and all
-- rows above it, so it preserves the answers from the floor on; a row written above the horizon is stored, and is later
-- than each row at or below it.
use Rattle.std.proofs.Common.{Contains, length, get_or, refl, sym, ◌∙◌, subst, ◌⊎◌, inl, inr, arith, leb, true, ◌≡◌, ℕ}
use Rattle.std.proofs.Common.{◌≤◌, List, [], ◌∷◌, IsPermutation, ◌-◌, ◌<◌, ◌+◌, ◌++◌, ◌↔◌}
use Rattle.std.proofs.lemmas.Bool.{cases_lt, leb-true, lt-leb, lt-ltb, le-leb, le-ltb}
use Rattle.std.proofs.lemmas.List.{length_push}
use Rattle.std.proofs.lemmas.List.Elements.{All-contains, All-weaker, filter_passes, Contains-push_cases}
use Rattle.std.proofs.lemmas.List.Elements.{Contains-get_or, Contains-append_left, Contains-push}
use Rattle.std.proofs.lemmas.List.Sorted.{All-permutation, Contains-permutation, IsPermutation-sym, length_permutation}
use Rattle.hlc_values.proofs.MemberLemmas.{Contains-from_filter}
use Rattle.hlc_clock.specs.Points.{PointsAscend, last_point}
use Rattle.hlc_rows.specs.{Rows.IsRowSet, declared.row.Row.Row}
use Rattle.hlc_witness.specs.{Certificate.IsCertificate, Certificate.RowsAscend, Cost.AreInLimits, Cost.IsInLimits}
use Rattle.hlc_witness.specs.{Changes.AreChanges, Fewest.Alike, declared.witness.Witness.Witness}
use Rattle.hlc_vacuum.specs.Representing.{RowsRepresent, RepresentsAfterVacuum, count_above, count_between}
use Rattle.hlc_vacuum_draft.specs.Vacuumed.{IsVacuumOf, rows_to}
use Rattle.hlc_witness.proofs.CertificateLemmas.{fewest_rows_are_certified, ascending_rows_are_a_row_set}
use Rattle.hlc_witness.proofs.ChangeLemmas.{changes_force_rows, changes_alike}
use Rattle.hlc_vacuum.proofs.CountLemmas.{split_count, same_above, count_push}
use Rattle.hlc_vacuum_draft.proofs.PartLemmas.{push-IsRowSet, alike_from, answer-push, same_rows, answer-rows_to}
use Rattle.hlc_witness.proofs.PlaceLemmas.{last_point-get_or, last_upper}

-- the rows above a stamp are those up to a higher one, and those above that
pub rows_above_are_counted : (low high : ℕ) (rows : List Row) → low ≤ high
    → count_above low rows ≡ count_between low high rows + count_above high rows
rows_above_are_counted low high [] le = refl
rows_above_are_counted low high (row ∷ rows) le =
    let h = rows_above_are_counted low high rows le in
    elim (cases_lt low row.stamp) [
      | inl lt ↦ elim (cases_lt high row.stamp) [
        | inl up ↦ let a = lt-ltb low row.stamp lt in let b = lt-leb row.stamp high up in
            let d = lt-ltb high row.stamp up in rw (a, b, d) (omega arith)
        | inr in_bound ↦ let a = lt-ltb low row.stamp lt in let b = le-leb row.stamp high in_bound in
            let d = le-ltb high row.stamp in_bound in rw (a, b, d) (omega arith)
      ]
      | inr ge ↦ let a = le-ltb low row.stamp ge in let d = le-ltb high row.stamp (omega arith) in
          rw (a, d) (omega arith)
    ]

pub writes_are_counted : (stored all : List Row) (horizon changes : ℕ) (row : Row)
    → length stored ≡ changes + count_above horizon all → horizon < row.stamp
    → length (stored ++ row ∷ []) ≡ changes + count_above horizon (all ++ row ∷ [])
writes_are_counted stored all horizon changes row e lt = let a = length_push stored row in
    let b = count_push horizon all row lt in omega arith

-- the stored rows at or below the floor, sorted
pub vacuums_are_certified : (stored all rows : List Row) (floor : ℕ) (opened points : List ℕ) (changes : List Witness)
    → RepresentsAfterVacuum stored all floor opened points changes → PointsAscend points → last_point points ≡ floor
    → IsPermutation (rows_to floor stored) rows → RowsAscend rows → AreInLimits all
    → IsCertificate rows points changes
vacuums_are_certified stored all rows floor opened points changes after rise last moved up limits =
    fewest_rows_are_certified rows all points changes rise up
    (All-permutation (λ row. row.stamp ≤ last_point points) (rows_to floor stored) rows moved
    (All-weaker (λ row. leb row.stamp floor ≡ true) (λ row. row.stamp ≤ last_point points)
    (λ row t. let le = leb-true row.stamp floor t in omega arith) (rows_to floor stored)
    (filter_passes (λ row. leb row.stamp floor) stored)))
    (λ key point i.
    same_rows rows (rows_to floor stored) (ascending_rows_are_a_row_set rows up)
    (λ row m.
    Contains-permutation rows (rows_to floor stored) row (IsPermutation-sym (rows_to floor stored) rows moved) m)
    (λ row m. Contains-permutation (rows_to floor stored) rows row moved m)
    key point
    ∙ after.fewest.alike key point i)
    after.listed
    (length_permutation (rows_to floor stored) rows moved ∙ after.count)
    (All-permutation IsInLimits (rows_to floor stored) rows moved
    (λ k d l.
    let row = get_or (rows_to floor stored) k d in
    let low = Contains-from_filter (λ r. leb r.stamp floor) stored row (Contains-get_or (rows_to floor stored) k d l) in
    All-contains IsInLimits all row limits (after.represents.within row low.0)))

-- a snapshot opens at or above the horizon
pub opens_keep_representing : (stored all : List Row) (horizon stamp : ℕ) (opened : List ℕ)
    → RowsRepresent stored all horizon opened → horizon ≤ stamp
    → RowsRepresent stored all horizon (opened ++ stamp ∷ [])
opens_keep_representing stored all horizon stamp opened represents le = record {
  row_set = represents.row_set;
  all_row_set = represents.all_row_set;
  within = represents.within;
  above = represents.above;
  at_open = λ key s i. elim (Contains-push_cases opened stamp s i) [
    | inl o ↦ represents.at_open key s o
    | inr e ↦ represents.from_horizon key s (omega arith)
  ];
  from_horizon = represents.from_horizon;
}

-- a row is written above the horizon
pub writes_keep_representing : (stored all : List Row) (horizon : ℕ) (opened : List ℕ) (row : Row)
    → RowsRepresent stored all horizon opened → horizon < row.stamp → IsRowSet (all ++ row ∷ [])
    → RowsRepresent (stored ++ row ∷ []) (all ++ row ∷ []) horizon opened
writes_keep_representing stored all horizon opened row represents new pushed =
    let own : IsRowSet (stored ++ row ∷ []) = push-IsRowSet stored all row represents.row_set represents.within pushed
    in
    record {
      row_set = own;
      all_row_set = pushed;
      within = λ r i. elim (Contains-push_cases stored row r i) [
        | inl o ↦ Contains-append_left all (row ∷ []) r (represents.within r o)
        | inr e ↦ subst (Contains (all ++ row ∷ [])) e (Contains-push all row)
      ];
      above = λ r i l. elim (Contains-push_cases all row r i) [
        | inl o ↦ Contains-append_left stored (row ∷ []) r (represents.above r o l)
        | inr e ↦ subst (Contains (stored ++ row ∷ [])) e (Contains-push stored row)
      ];
      at_open = λ key s o. answer-push stored all horizon row own pushed represents.within represents.above new key
          s (represents.at_open key s o);
      from_horizon = λ key s l. answer-push stored all horizon row own pushed represents.within represents.above new
          key s (represents.from_horizon key s l);
    }

-- the points are the open stamps, none of them above the floor, and the floor, so the floor is the last
last_is : (floor : ℕ) (opened points : List ℕ)
    → ((point : ℕ) → Contains points point ↔ (Contains opened point ⊎ (point ≡ floor)))
    → ((stamp : ℕ) → Contains opened stamp → stamp ≤ floor) → PointsAscend points → last_point points ≡ floor
last_is floor opened points members open_below rise =
    let a : floor ≤ last_point points = last_upper points rise floor ((members floor).1 (inr refl)) in
    let last_in : Contains points (last_point points) =
    subst (Contains points) (sym (last_point-get_or points))
    (Contains-get_or points (length points - 1) 0 (let p = rise.0 in omega arith)) in
    elim ((members (last_point points)).0 last_in) [
      | inl o ↦ let b = open_below (last_point points) o in omega arith
      | inr e ↦ e
    ]

-- at or below the floor they are as many as the changes, and each change forces a row
pub representing_rows_are_fewest : (stored all : List Row) (floor : ℕ) (opened points : List ℕ) (changes : List Witness)
    → RowsRepresent stored all floor opened
    → ((point : ℕ) → Contains points point ↔ (Contains opened point ⊎ (point ≡ floor)))
    → ((stamp : ℕ) → Contains opened stamp → stamp ≤ floor) → AreChanges all points changes
    → length stored ≡ length changes + count_above floor all
    → RepresentsAfterVacuum stored all floor opened points changes
representing_rows_are_fewest stored all floor opened points changes represents members open_below own counts =
    let count : length (rows_to floor stored) ≡ length changes =
    (let a = split_count floor stored in
    let b =
    same_above floor stored all represents.row_set represents.all_row_set (λ row i l. represents.within row i)
    represents.above in
    omega arith) in
    record {
      represents = represents;
      listed = own;
      count = count;
      fewest = record {
        alike = λ key point i. elim ((members point).0 i) [
          | inl o ↦ answer-rows_to stored floor key point represents.row_set (open_below point o)
              ∙ represents.at_open key point o
          | inr e ↦ answer-rows_to stored floor key point represents.row_set (omega arith)
              ∙ represents.from_horizon key point (omega arith)
        ];
        least = λ others set' alike.
            let h = changes_force_rows all others points changes own.ascend own.each alike in omega arith;
      };
      stored_count = counts;
    }

-- The stored rows represented all, so rows alike to them at the points are alike to all, and their changes are those of
-- all.
pub vacuums_compose : (stored all kept : List Row) (horizon floor : ℕ) (opened points : List ℕ)
    (changes : List Witness) → RowsRepresent stored all horizon opened → horizon ≤ floor → PointsAscend points
    → ((point : ℕ) → Contains points point ↔ (Contains opened point ⊎ (point ≡ floor)))
    → ((stamp : ℕ) → Contains opened stamp → stamp ≤ floor) → IsVacuumOf stored points changes kept
    → RepresentsAfterVacuum kept all floor opened points changes
vacuums_compose stored all kept horizon floor opened points changes represents le rise members open_below v =
    let last : last_point points ≡ floor = last_is floor opened points members open_below rise in
    let stored_alike : Alike stored all points = λ key point i.
    elim ((members point).0 i) [
      | inl o ↦ represents.at_open key point o
      | inr e ↦ represents.from_horizon key point (omega arith)
    ] in
    let within : (row : Row) → Contains kept row → Contains all row = λ row i. represents.within row (v.within row i) in
    let above : (row : Row) → Contains all row → floor < row.stamp → Contains kept row =
    λ row i l. v.above row (represents.above row i (omega arith)) (omega arith) in
    let kept_alike : Alike kept all points = λ key point i. v.alike key point i ∙ stored_alike key point i in
    let count : length (rows_to floor kept) ≡ length changes =
    subst (λ f. length (rows_to f kept) ≡ length changes) last v.count in
    representing_rows_are_fewest kept all floor opened points changes (record {
      row_set = v.row_set;
      all_row_set = represents.all_row_set;
      within = within;
      above = above;
      at_open = λ key stamp o. kept_alike key stamp ((members stamp).1 (inl o));
      from_horizon = λ key stamp f. alike_from kept all floor v.row_set within above key stamp f
          (kept_alike key floor ((members floor).1 (inr refl)));
    })
    members open_below (changes_alike stored all points changes stored_alike v.listed)
    (let a = split_count floor kept in
    let b = same_above floor kept all v.row_set represents.all_row_set (λ row i l. within row i) above in omega arith)

-- No property of the stored rows depends on their order.
pub stored_rows_may_be_moved : (stored moved all : List Row) (horizon : ℕ) (opened : List ℕ)
    → RowsRepresent stored all horizon opened → IsPermutation stored moved → IsRowSet moved
    → RowsRepresent moved all horizon opened
stored_rows_may_be_moved stored moved all horizon opened represent moves apart =
    let back : (row : Row) → Contains moved row → Contains stored row =
    λ row i. Contains-permutation moved stored row (IsPermutation-sym stored moved moves) i in
    let there : (row : Row) → Contains stored row → Contains moved row =
    λ row i. Contains-permutation stored moved row moves i in
    record {
      row_set = apart;
      all_row_set = represent.all_row_set;
      within = λ row i. represent.within row (back row i);
      above = λ row i up. there row (represent.above row i up);
      at_open = λ key stamp i. same_rows moved stored apart back there key stamp ∙ represent.at_open key stamp i;
      from_horizon = λ key stamp le. same_rows moved stored apart back there key stamp
          ∙ represent.from_horizon key stamp le;
    }
