-- The bytes that changes force: for changes one after another it is the sum, and only the newest rows at the changes
-- count.
use Rattle.std.proofs.Common.{◌≡◌, ◌∙◌, ℕ, ◌+◌, List, [], ◌∷◌, ◌++◌, Contains, ap, ap₂, sym, refl, arith}
use Rattle.std.specs.Prelude.{option_and_then}
use Rattle.std.proofs.lemmas.List.Sums.{sum_by-append, sum_by-cons}
use Rattle.hlc_rows.specs.{declared.row.Row.Row, Rows.newest}
use Rattle.hlc_values.proofs.MemberLemmas.{Contains-first, Contains-rest}
use Rattle.hlc_witness.specs.{declared.witness.Witness.Witness, Cost.cost_of, Cost.change_cost, Cost.changes_cost}

-- one more change forces a row of its key with the changed value
pub cost-push : (rows : List Row) (changes : List Witness) (change : Witness)
    → changes_cost rows (changes ++ change ∷ []) ≡ changes_cost rows changes + change_cost rows change
cost-push rows changes change =
    let both = sum_by-append (change_cost rows) changes (change ∷ []) in
    let one = sum_by-cons (change_cost rows) change [] in
    omega (arith, both, one)

-- no change forces nothing
pub cost-none : (rows : List Row) (bytes : ℕ) → bytes ≡ bytes + changes_cost rows []
cost-none rows bytes = omega arith

-- the bytes that changes force depend only on the newest rows there
pub cost-alike : (rows others : List Row) (changes : List Witness)
    → ((change : Witness) → Contains changes change
    → newest rows change.key change.at ≡ newest others change.key change.at)
    → changes_cost rows changes ≡ changes_cost others changes
cost-alike rows others [] alike = refl
cost-alike rows others (change ∷ changes) alike =
    sum_by-cons (change_cost rows) change changes
    ∙ ap₂ (λ m n. m + n)
    (ap (λ o. cost_of change.key (option_and_then (λ (row : Row). row.value) o))
    (alike change (Contains-first change changes)))
    (cost-alike rows others changes (λ other i. alike other (Contains-rest change other changes i)))
    ∙ sym (sum_by-cons (change_cost others) change changes)

-- the bytes that the changes of two lists of rows force, if neither list affects the newest rows of the other
pub cost-append : (rows others both : List Row) (changes more : List Witness) (bytes total : ℕ)
    → ((c : Witness) → Contains changes c → newest both c.key c.at ≡ newest rows c.key c.at)
    → ((d : Witness) → Contains more d → newest both d.key d.at ≡ newest others d.key d.at)
    → bytes ≡ changes_cost rows changes → total ≡ changes_cost others more
    → bytes + total ≡ changes_cost both (changes ++ more)
cost-append rows others both changes more bytes total firsts seconds first second =
    ap₂ (λ m n. m + n) (first ∙ sym (cost-alike both rows changes firsts))
    (second ∙ sym (cost-alike both others more seconds))
    ∙ sym (sum_by-append (change_cost both) changes more)
