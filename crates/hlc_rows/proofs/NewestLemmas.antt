-- The newest row of a key at or below a stamp, for any list of rows: it is the greatest, and in a row set the only one;
-- it stays the same if no row of the key is between two stamps, and rows of other keys do not count. The same is true
-- of the answer, which is its value.
use Rattle.std.proofs.Common.{◌≡◌, ◌≢◌, ℕ, ◌≤◌, List, [], ◌∷◌, ◌++◌, Some, None, refl, ap, sym, ◌∙◌, inl, inr, arith}
use Rattle.std.proofs.Common.{Contains, option_and_then, if◌then◌else◌, append-nil}
use Rattle.std.proofs.lemmas.Bool.{cond-false}
use Rattle.hlc_values.proofs.MemberLemmas.{Contains-first, Contains-rest}
use Rattle.hlc_rows.{specs.declared.row.Row.Row, proofs.CandidateLemmas.other-misses}
use Rattle.hlc_rows.specs.Rows.{is_candidate, later, newest, answer, IsNewest, IsNoLater, IsRowSet}
use Rattle.hlc_rows.proofs.Newest.{newest-says, newest-from_says, candidate-same}

-- the newest row of a list is the greatest one
pub newest_is_greatest : (rows : List Row) (key : List ℕ) (bound : ℕ) (row : Row) → newest rows key bound ≡ Some row
    → IsNewest rows key bound row
newest_is_greatest rows key bound row h = rw h at (newest-says rows key bound)

-- with no newest row there is no candidate
pub no_newest_no_row : (rows : List Row) (key : List ℕ) (bound : ℕ) (row : Row) → newest rows key bound ≡ None
    → Contains rows row → row.key ≡ key → row.stamp ≤ bound → ⊥
no_newest_no_row rows key bound row h = rw h at (newest-says rows key bound) row

-- in a row set, the greatest row is the newest
pub newest_is_unique : (rows : List Row) (key : List ℕ) (bound : ℕ) (row : Row) → IsRowSet rows
    → IsNewest rows key bound row → newest rows key bound ≡ Some row
newest_is_unique rows key bound row set' h =
    newest-from_says rows key bound row (newest rows key bound) set' h (newest-says rows key bound)

-- if no row of the key is between the two stamps, the newest row is the same
pub newest_stays : (rows : List Row) (key : List ℕ) (low high : ℕ) → low ≤ high
    → ((row : Row) → Contains rows row → row.key ≡ key → row.stamp ≤ high → row.stamp ≤ low)
    → newest rows key high ≡ newest rows key low
unfolding newest
newest_stays [] key low high le none = refl
newest_stays (first ∷ rows) key low high le none =
    rw (
      candidate-same key low high first le (none first (Contains-first first rows)),
      newest_stays rows key low high le (λ row m. none row (Contains-rest first row rows m)),
    ) refl

-- rows of other keys before them change nothing
pub newest_after_others : (others rows : List Row) (key : List ℕ) (bound : ℕ)
    → ((row : Row) → Contains others row → row.key ≢ key) → newest (others ++ rows) key bound ≡ newest rows key bound
unfolding newest
newest_after_others [] rows key bound apart = refl
newest_after_others (first ∷ others) rows key bound apart =
    cond-false _ _ _ (other-misses key bound first (apart first (Contains-first first others)))
    ∙ newest_after_others others rows key bound (λ row m. apart row (Contains-rest first row others m))

-- nor do rows of other keys after them
pub newest_before_others : (rows others : List Row) (key : List ℕ) (bound : ℕ)
    → ((row : Row) → Contains others row → row.key ≢ key) → newest (rows ++ others) key bound ≡ newest rows key bound
unfolding newest
newest_before_others [] others key bound apart = ap (λ xs. newest xs key bound) (sym (append-nil others))
    ∙ newest_after_others others [] key bound apart
newest_before_others (first ∷ rows) others key bound apart =
    ap (λ o. if is_candidate key bound first then Some (later first o) else o)
    (newest_before_others rows others key bound apart)

-- a row that is no later has a stamp that is at or below the other's
pub no_later_stamp : (a b : Row) → IsNoLater a b → a.stamp ≤ b.stamp
no_later_stamp a b (inl less) = omega arith
no_later_stamp a b (inr same) = omega (arith, same.0)

pub answer_none : (rows : List Row) (key : List ℕ) (bound : ℕ) → newest rows key bound ≡ None
    → answer rows key bound ≡ None
answer_none rows key bound e = ap (option_and_then (λ (row : Row). row.value)) e

pub answer_some : (rows : List Row) (key : List ℕ) (bound : ℕ) (row : Row) → newest rows key bound ≡ Some row
    → answer rows key bound ≡ row.value
answer_some rows key bound row e = ap (option_and_then (λ (row : Row). row.value)) e

-- if no row of the key is between the two stamps, the answer is the same
pub answer_stays : (rows : List Row) (key : List ℕ) (low high : ℕ) → low ≤ high
    → ((row : Row) → Contains rows row → row.key ≡ key → row.stamp ≤ high → row.stamp ≤ low)
    → answer rows key high ≡ answer rows key low
answer_stays rows key low high le none =
    ap (option_and_then (λ (row : Row). row.value)) (newest_stays rows key low high le none)
