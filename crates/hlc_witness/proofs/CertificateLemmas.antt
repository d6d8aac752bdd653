-- A certificate shows that its rows are the fewest and the cheapest, since its witnesses are changes and as many. Rows
-- that answer as all do have the same changes, since a change depends on answers at points alone; so rows that are as
-- many as the changes of all are certified by them. Ascending rows differ in key, stamp or node, so they are a row set.
use Rattle.std.proofs.Common.{nat_cmp, Less, Equal, length, refl, sym, ap, ◌∙◌, arith, ◌≡◌, ℕ, List, [], ◌∷◌}
use Rattle.std.specs.{Cmp.Lexicographic.slice_cmp, Ordering.ordering_then}
use Rattle.std.proofs.lemmas.Cmp.{nat_cmp_total, nat_list_cmp_total, tied_itself}
use Rattle.std.proofs.lemmas.List.Elements.{All-contains, All-from_recursion, All-weaker}
use Rattle.std.proofs.lemmas.Map.Keys.{sorted_head, sorted_tail}
use Rattle.hlc_clock.specs.Points.{PointsAscend}
use Rattle.hlc_rows.specs.{Rows.IsRowSet, Rows.IsSameVersion, declared.row.Row.Row}
use Rattle.hlc_witness.specs.Certificate.{IsCertificate, RowsAscend, NoneAbove, row_cmp}
use Rattle.hlc_witness.specs.{Changes.AreChanges, Changes.IsChange, declared.witness.Witness.Witness}
use Rattle.hlc_witness.specs.{Cost.AreInLimits, Cost.Cheapest, Fewest.Alike, Fewest.Fewest}
use Rattle.hlc_witness.proofs.ChangeLemmas.{changes_force_rows, change_alike}
use Rattle.hlc_witness.proofs.CostLemmas.{fewest_rows_are_cheapest}

-- this does not depend on who made the witnesses
pub certificates_show_fewest : (rows : List Row) (points : List ℕ) (witnesses : List Witness)
    → IsCertificate rows points witnesses → Fewest rows rows points
certificates_show_fewest rows points witnesses is = record {
  alike = λ key point i. refl;
  least = λ others set' alike.
      let h = changes_force_rows rows others points witnesses is.witnesses_ascend is.each alike in
      let e = is.count in omega arith;
}

-- this does not depend on who made the witnesses
pub certificates_show_cheapest : (rows : List Row) (points : List ℕ) (witnesses : List Witness)
    → IsCertificate rows points witnesses → Cheapest rows rows points
certificates_show_cheapest rows points witnesses is =
    fewest_rows_are_cheapest rows rows points witnesses is.witnesses_ascend is.each (λ key point i. refl) (sym is.count)

pub fewest_rows_are_certified : (rows all : List Row) (points : List ℕ) (changes : List Witness)
    → PointsAscend points → RowsAscend rows → NoneAbove points rows → Alike rows all points
    → AreChanges all points changes → length rows ≡ length changes → AreInLimits rows
    → IsCertificate rows points changes
fewest_rows_are_certified rows all points changes rise up below alike are count limits = record {
  points_ascend = rise;
  rows_ascend = up;
  none_above = below;
  witnesses_ascend = are.ascend;
  each = All-weaker (IsChange all points) (IsChange rows points)
      (λ c is. change_alike all rows points c (λ key point i. sym (alike key point i)) is) changes are.each;
  count = sym count;
  limits = limits;
}

same_version-tied : (a b : Row) → IsSameVersion a b → row_cmp a b ≡ Equal
same_version-tied a b same =
    ap (λ o. ordering_then o (ordering_then (nat_cmp a.stamp b.stamp) (nat_cmp a.node b.node)))
    (ap (slice_cmp nat_cmp a.key) (sym same.key) ∙ tied_itself nat_list_cmp_total a.key)
    ∙ ap (λ o. ordering_then o (nat_cmp a.node b.node))
    (ap (nat_cmp a.stamp) (sym same.stamp) ∙ tied_itself nat_cmp_total a.stamp)
    ∙ ap (nat_cmp a.node) (sym same.node) ∙ tied_itself nat_cmp_total a.node

pub ascending_rows_are_a_row_set : (rows : List Row) → RowsAscend rows → IsRowSet rows
ascending_rows_are_a_row_set [] up = tt
ascending_rows_are_a_row_set (row ∷ rows) up = (
  λ other i same.
      let less : row_cmp row other ≡ Less = All-contains (λ y. row_cmp row y ≡ Less) rows other
      (All-from_recursion (λ y. row_cmp row y ≡ Less) rows (sorted_head row_cmp row rows up)) i in
      let wrong : Less ≡ Equal = sym less ∙ same_version-tied row other same in
      cc,
  ascending_rows_are_a_row_set rows (sorted_tail row_cmp row rows up),
)
