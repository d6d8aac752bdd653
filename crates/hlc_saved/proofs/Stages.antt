-- What is left to read does not change when a row is read, and when no more is.
use Rattle.std.proofs.Common.{◌≡◌, ◌≢◌, ℕ, suc, ◌-◌, ◌+◌, ◌<◌, List, [], ◌∷◌, ◌++◌, length, Result, Ok, Err, refl, eqb}
use Rattle.std.proofs.Common.{true, false, subst, sym, ap, ◌∙◌, append_assoc, arith, length-append, drop}
use Rattle.std.proofs.lemmas.List.{append-nil, drop_at, get_or-drop}
use Rattle.hlc_rows.specs.declared.row.Row.{Row}
use Rattle.hlc_core.specs.StoreView.{StoreView}
use Rattle.hlc_wire.specs.declared.fault.WireFault.{WireFault, TheVariants.Short, TheVariants.Trailing}
use Rattle.hlc_checkpoint.specs.{Growing.GrowingView, Growing.HasGrown, Growing.with_row, StoreView.with_rows}
use Rattle.hlc_wire.specs.Reading.{◌>>=◌, whole}
use Rattle.hlc_wire.proofs.FieldLemmas.{IsBytes}
use Rattle.hlc_body.specs.Spelling.{Preamble, kept_of, row_bytes, preamble_bytes}
use Rattle.hlc_body.specs.Reading.{row_at, times_at, preamble_at, checkpoint_at}
use Rattle.hlc_saved.specs.declared.stage.Stage.{Stage}
use Rattle.hlc_saved.specs.Blocks.{Reader, RowsLeave, Leaves, NextFails, rows_after}
use Rattle.hlc_body.proofs.PartLemmas.{row_field, preamble_field}
use Rattle.hlc_wire.specs.declared.fault.DecodeError.TheVariants as errors
use Rattle.hlc_saved.specs.declared.stage.Stage.TheVariants as stages

abbrev rows_read : StoreView → Result (List Row × List ℕ) WireFault → Result (StoreView × List ℕ) WireFault
rows_read kept read = read >>= λ others. Ok (with_rows kept (kept.rows ++ others.0), others.1)

one_more : (kept : StoreView) (row : Row) (read : Result (List Row × List ℕ) WireFault)
    → rows_read kept (read >>= λ others. Ok (row ∷ others.0, others.1)) ≡ rows_read (with_row kept row) read
one_more kept row (Ok x) =
    ap (λ (all : List Row). Ok (with_rows kept all, x.1)) (sym (append_assoc kept.rows (row ∷ []) x.0))
one_more kept row (Err fault) = refl

-- a row was read
pub rows_on : (kept : StoreView) (left : ℕ) (row : Row) (rest after more : List ℕ) → 0 < left
    → row_at rest ≡ Ok (row, after)
    → rows_after kept left (rest ++ more) ≡ rows_after (with_row kept row) (left - 1) (after ++ more)
unfolding rows_after times_at
rows_on kept left row rest after more lt read =
    let longer = row_field.steady.more rest more (row, after) read in
    let k : left ≡ suc (left - 1) = omega arith in
    ap (λ (n : ℕ). rows_read kept (times_at row_at n (rest ++ more))) k
    ∙ rw longer (one_more kept row (times_at row_at (left - 1) (after ++ more)))

-- a row was not read
pub rows_fail : (kept : StoreView) (left : ℕ) (rest : List ℕ) (fault : WireFault) → 0 < left → row_at rest ≡ Err fault
    → rows_after kept left rest ≡ Err fault
unfolding rows_after times_at
rows_fail kept left rest fault lt read =
    let k : left ≡ suc (left - 1) = omega arith in
    ap (λ (n : ℕ). rows_read kept (times_at row_at n rest)) k ∙ rw read refl

-- all rows were read
pub rows_done : (kept : StoreView) (rest : List ℕ) → rows_after kept 0 rest ≡ Ok (kept, rest)
unfolding rows_after times_at
rows_done kept rest = ap (λ (all : List Row). Ok (with_rows kept all, rest)) (append-nil kept.rows)

-- the part before the rows was read
pub begun : (preamble : Preamble) (bytes rest more : List ℕ) → preamble_at bytes ≡ Ok (preamble, rest)
    → rows_after (kept_of preamble []) preamble.count (rest ++ more) ≡ checkpoint_at (bytes ++ more)
unfolding rows_after checkpoint_at
begun preamble bytes rest more read =
    let longer = preamble_field.steady.more bytes more (preamble, rest) read in rw longer refl

-- it was not read
pub not_begun : (bytes : List ℕ) (fault : WireFault) → preamble_at bytes ≡ Err fault → checkpoint_at bytes ≡ Err fault
unfolding checkpoint_at
not_begun bytes fault read = rw read refl

-- what was read of the first bytes, and then of the next, is what is read of all
pub begun_rows : (growing : GrowingView) (preamble : Preamble) (bytes rest : List ℕ) (read : Reader)
    → preamble_at bytes ≡ Ok (preamble, rest) → HasGrown growing (kept_of preamble [])
    → ((more : List ℕ) → checkpoint_at (bytes ++ more) ≡ read more) → RowsLeave growing preamble.count rest read
begun_rows growing preamble bytes rest read is grown all' =
    (kept_of preamble [], grown, λ more. begun preamble bytes rest more is ∙ all' more)

pub one_row : (growing new : GrowingView) (left : ℕ) (row : Row) (rest after : List ℕ) (read : Reader) → 0 < left
    → row_at rest ≡ Ok (row, after)
    → ((kept : StoreView) → HasGrown growing kept → HasGrown new (with_row kept row))
    → RowsLeave growing left rest read → RowsLeave new (left - 1) after read
one_row growing new left row rest after read lt is grows has = (
  with_row has.0 row,
  grows has.0 has.1,
  λ more. sym (rows_on has.0 left row rest after more lt is) ∙ has.2 more,
)

-- a fault other than Short stays, whatever follows
pub stays_wrong : (stage : Stage) (bytes : List ℕ) (fault : WireFault) (read : Reader)
    → NextFails stage (errors.Fault fault) bytes → fault ≢ Short → Leaves stage bytes read
    → Leaves (stages.Wrong fault) bytes read
stays_wrong stages.Start bytes fault read fails not has = λ more.
    sym (not_begun (bytes ++ more) fault (preamble_field.steady.wrong bytes more fault fails not)) ∙ has more
stays_wrong (stages.Rows growing left) bytes fault read fails not has = λ more.
    sym (rows_fail has.0 left (bytes ++ more) fault fails.0 (row_field.steady.wrong bytes more fault fails.1 not))
    ∙ has.2 more
stays_wrong (stages.Wrong wrong) bytes fault read fails not has = absurd fails

-- the bytes after a row, and after the part before the rows, are the last ones
pub row_back : (bytes : List ℕ) (row : Row) (rest : List ℕ) → IsBytes bytes → row_at bytes ≡ Ok (row, rest)
    → (front : List ℕ) × (bytes ≡ front ++ rest)
row_back bytes row rest fits read = (row_bytes row, (row_field.reads.takes bytes (row, rest) fits read).0.parts)

pub preamble_back : (bytes : List ℕ) (preamble : Preamble) (rest : List ℕ) → IsBytes bytes
    → preamble_at bytes ≡ Ok (preamble, rest) → (front : List ℕ) × (bytes ≡ front ++ rest)
preamble_back bytes preamble rest fits read =
    (preamble_bytes preamble, (preamble_field.reads.takes bytes (preamble, rest) fits read).0.parts)

pub back_again : (bytes rest after : List ℕ) → (front : List ℕ) × (bytes ≡ front ++ rest)
    → (front : List ℕ) × (rest ≡ front ++ after) → (front : List ℕ) × (bytes ≡ front ++ after)
back_again bytes rest after a b =
    (a.0 ++ b.0, a.1 ∙ ap (λ (l : List ℕ). a.0 ++ l) b.1 ∙ sym (append_assoc a.0 b.0 after))

-- this many last bytes
pub dropped_back : (bytes rest : List ℕ) → (front : List ℕ) × (bytes ≡ front ++ rest)
    → drop (length bytes - length rest) bytes ≡ rest
dropped_back bytes rest back =
    let n = length-append back.0 rest in
    let l : length bytes ≡ length (back.0 ++ rest) = ap length back.1 in
    ap (drop (length bytes - length rest)) back.1
    ∙ drop_at back.0 rest (length bytes - length rest) (omega (arith, n, l))

-- bytes at the end are bytes
pub back_fits : (bytes rest : List ℕ) → (front : List ℕ) × (bytes ≡ front ++ rest) → IsBytes bytes → IsBytes rest
back_fits bytes rest back fits =
    subst IsBytes (dropped_back bytes rest back) (λ i. rw get_or-drop (fits (length bytes - length rest + i)))

-- ---- the end

at_end : (first : Reader) (bytes : List ℕ) (read : Reader) → ((more : List ℕ) → first (bytes ++ more) ≡ read more)
    → first bytes ≡ read []
at_end first bytes read h = ap first (sym (append-nil bytes)) ∙ h []

-- the bytes end within the part before the rows
pub ended_start : (bytes : List ℕ) (read : Reader) → preamble_at bytes ≡ Err Short
    → ((more : List ℕ) → checkpoint_at (bytes ++ more) ≡ read more) → whole (read []) ≡ Err Short
ended_start bytes read short has =
    ap whole (sym (at_end checkpoint_at bytes read has) ∙ not_begun bytes Short short)

-- they end within the rows
pub ended_short : (growing : GrowingView) (left : ℕ) (bytes : List ℕ) (read : Reader) → 0 < left
    → row_at bytes ≡ Err Short → RowsLeave growing left bytes read → whole (read []) ≡ Err Short
ended_short growing left bytes read lt short has =
    ap whole (sym (at_end (rows_after has.0 left) bytes read has.2) ∙ rows_fail has.0 left bytes Short lt short)

all_read : (kept : StoreView) (left : ℕ) (bytes : List ℕ) (read : Reader) → left ≡ 0
    → ((more : List ℕ) → rows_after kept left (bytes ++ more) ≡ read more) → read [] ≡ Ok (kept, bytes)
all_read kept left bytes read none has =
    sym (at_end (rows_after kept left) bytes read has) ∙ ap (λ (n : ℕ). rows_after kept n bytes) none
    ∙ rows_done kept bytes

-- bytes follow, or none do
pub ended_more : (growing : GrowingView) (left : ℕ) (bytes : List ℕ) (read : Reader) → left ≡ 0
    → eqb (length bytes) 0 ≡ false → RowsLeave growing left bytes read → whole (read []) ≡ Err Trailing
ended_more growing left bytes read none some has = ap whole (all_read has.0 left bytes read none has.2) ∙ rw some refl

pub ended_all : (growing : GrowingView) (left : ℕ) (bytes : List ℕ) (read : Reader) → left ≡ 0
    → eqb (length bytes) 0 ≡ true → (has : RowsLeave growing left bytes read) → whole (read []) ≡ Ok has.0
ended_all growing left bytes read none empty has = ap whole (all_read has.0 left bytes read none has.2) ∙ rw empty refl

-- one row fewer is left
pub less_again : (left done : ℕ) → left - done - 1 ≡ left - (done + 1)
less_again left done = omega arith
