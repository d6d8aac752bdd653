-- The row that a change forces costs as much as the change: it is of its key, with the changed value. So the changes
-- force bytes as they force rows. And rows that are as many as the changes are exactly the rows that these force, so
-- they cost no more.
use Rattle.std.proofs.Common.{All, Less, length, sym, arith, ◌≡◌, ℕ, ◌≤◌, List, ap₂}
use Rattle.std.proofs.lemmas.List.Elements.{All-contains}
use Rattle.hlc_values.proofs.PigeonLemmas.{served, served_all}
use Rattle.hlc_rows.specs.declared.row.Row.{Row}
use Rattle.hlc_witness.specs.Changes.{ChangesAscend, IsChange, change_cmp}
use Rattle.hlc_witness.specs.Cost.{cost_of, row_cost, rows_cost, Cheapest, change_cost, changes_cost}
use Rattle.hlc_witness.specs.{Fewest.Alike, declared.witness.Witness.Witness}
use Rattle.hlc_witness.proofs.Forced.{Serves, forced, serves_once, apart}

-- the row that serves a change costs what the change forces
serves_cost : (all : List Row) (points : List ℕ) (c : Witness) (row : Row) → Serves all points c row
    → change_cost all c ≡ row_cost row
serves_cost all points c row s = ap₂ cost_of (sym s.key) (sym s.value)

pub changes_force_bytes : (all others : List Row) (points : List ℕ) (changes : List Witness)
    → ChangesAscend changes → All (IsChange all points) changes → Alike others all points
    → changes_cost all changes ≤ rows_cost others
changes_force_bytes all others points changes up each alike =
    served (λ c d. change_cmp c d ≡ Less) (Serves all points) (change_cost all) row_cost
    (λ c v s. let e = serves_cost all points c v s in omega arith)
    (serves_once all points) changes others (apart changes up)
    (λ c i. forced all others points c (All-contains (IsChange all points) changes c each i) alike)

-- as many rows as changes cost no more than the changes force
pub fewest_rows_cost : (all rows : List Row) (points : List ℕ) (changes : List Witness)
    → ChangesAscend changes → All (IsChange all points) changes → Alike rows all points
    → length rows ≡ length changes → rows_cost rows ≡ changes_cost all changes
fewest_rows_cost all rows points changes up each alike count =
    sym (served_all (λ c d. change_cmp c d ≡ Less) (Serves all points) (change_cost all) row_cost
    (serves_cost all points)
    (serves_once all points) changes rows (apart changes up)
    (λ c i. forced all rows points c (All-contains (IsChange all points) changes c each i) alike)
    (sym count))

pub fewest_rows_are_cheapest : (all rows : List Row) (points : List ℕ) (changes : List Witness)
    → ChangesAscend changes → All (IsChange all points) changes → Alike rows all points
    → length rows ≡ length changes → Cheapest rows all points
fewest_rows_are_cheapest all rows points changes up each alike count = record {
  alike = alike;
  least = λ others set' also.
      let h = changes_force_bytes all others points changes up each also in
      let e = fewest_rows_cost all rows points changes up each alike count in
      omega arith;
}
