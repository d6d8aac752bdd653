-- The last row of a key goes out again, and the rows are those before it was added. Rows of other keys may be added to
-- that one.
use Rattle.std.proofs.Common.{get_or, ◌≡◌, ◌≢◌, ◌<◌, ◌∙◌, ℕ, zero, suc, true, false, List, [], ◌∷◌, ◌++◌, append-nil}
use Rattle.std.proofs.Common.{take_at, refl, sym, ap, subst, inl, inr, arith, length, length-append, append_assoc}
use Rattle.std.proofs.Common.{replicate, true≢false, Contains, take, ◌-◌, bytes_eq, IsPermutation}
use Rattle.std.proofs.lemmas.{List.map-append, Slice.Eq.bytes_eq-Decides}
use Rattle.std.proofs.lemmas.Bool.{cases_Bool, false_from_ne_true, or_parts}
use Rattle.std.proofs.lemmas.List.Elements.{Contains-get_or, filter-append, Contains-append_cases, Contains-append_left}
use Rattle.std.proofs.lemmas.List.Elements.{Contains-append_right}
use Rattle.std.proofs.lemmas.List.Sorted.{IsPermutation-append_left, IsPermutation-refl, IsPermutation-trans}
use Rattle.hlc_values.proofs.MemberLemmas.{Contains-none, Contains-first, Contains-rest, Contains-cons_cases}
use Rattle.hlc_rows.specs.declared.{row.Row.Row, write.Write.Write}
use Rattle.hlc_rows.specs.Writes.{row_written, rows_written, writes_key, writes_twice}
use Rattle.hlc_table_column.specs.Rows.{rows_with}
use Rattle.hlc_columns.specs.Table.{rows_kept, HasNoVersion, InsertedLast, AllInserted}
use Rattle.hlc_columns.proofs.Inserted.{inserted-IsPermutation}
use Rattle.hlc_columns.proofs.KeptOf.{NoneOf, kept_other, kept_none, filtered_none}

none_behind : (key : List ℕ) (back : List Row) → ((other : Row) → Contains back other → other.key ≢ key)
    → NoneOf key back
none_behind key back others i d lt =
    let row : Row = get_or back i d in
    false_from_ne_true (bytes_eq row.key key)
    (λ t. others row (Contains-get_or back i d lt) ((bytes_eq-Decides row.key key).0 t))

-- the key has one more row than before it
counted : (key : List ℕ) (front back : List Row) (row : Row) → bytes_eq row.key key ≡ true → NoneOf key back
    → length (rows_with key (front ++ row ∷ back)) ≡ suc (length (rows_with key front))
counted key front back row own none =
    rw (filter-append (λ (row : Row). bytes_eq row.key key) front (row ∷ back), own, filtered_none key back none)
    (omega (arith, length-append (rows_with key front) (row ∷ [])))

-- all rows of the key but the last are kept
left_out : (key : List ℕ) (front back : List Row) (row : Row) (many : ℕ) → length (rows_with key front) ≡ many
    → bytes_eq row.key key ≡ true → NoneOf key back
    → rows_kept key (replicate many true ++ false ∷ []) (front ++ row ∷ back) ≡ front ++ back
left_out key [] back row zero e own none = rw own (kept_none key [] back none)
left_out key [] back row (suc many) e own none = absurd (omega arith)
left_out key (f ∷ front) back row zero e own none = elim (cases_Bool (bytes_eq f.key key)) [
  | inl t ↦ absurd (let n = rw t at e in omega (arith, n))
  | inr n ↦
      kept_other key (false ∷ []) f (front ++ row ∷ back) n
      ∙ ap (λ rows. f ∷ rows) (left_out key front back row zero (rw n at e) own none)
]
left_out key (f ∷ front) back row (suc many) e own none = elim (cases_Bool (bytes_eq f.key key)) [
  | inl t ↦ rw t (ap (λ rows. f ∷ rows)
      (left_out key front back row many (let n = rw t at e in omega (arith, n)) own none))
  | inr n ↦
      kept_other key (replicate (suc many) true ++ false ∷ []) f (front ++ row ∷ back) n
      ∙ ap (λ rows. f ∷ rows) (left_out key front back row (suc many) (rw n at e) own none)
]

pub last_out : (key : List ℕ) (old new : List Row) (row : Row) (many : ℕ) → row.key ≡ key → InsertedLast old row new
    → suc many ≡ length (rows_with key new) → rows_kept key (replicate many true ++ false ∷ []) new ≡ old
last_out key old new row many own (front, back, was, is, others) e =
    let same = (bytes_eq-Decides row.key key).1 own in
    let none = none_behind key back (λ other m has. others other m (has ∙ sym own)) in
    let all = ap (λ (rows : List Row). length (rows_with key rows)) is in
    let count = counted key front back row same none in
    ap (rows_kept key (replicate many true ++ false ∷ [])) is
    ∙ left_out key front back row many (omega (arith, e, all, count)) same none ∙ sym was

-- the key has a row
pub is_there : (key : List ℕ) (old new : List Row) (row : Row) → row.key ≡ key → InsertedLast old row new
    → 0 < length (rows_with key new)
is_there key old new row own (front, back, was, is, others) =
    let same = (bytes_eq-Decides row.key key).1 own in
    let none = none_behind key back (λ other m has. others other m (has ∙ sym own)) in
    omega (arith, ap (λ (rows : List Row). length (rows_with key rows)) is, counted key front back row same none)

-- Writes of different keys.

-- a version of another key is still new
pub still_new : (old new : List Row) (first row : Row) → InsertedLast old first new → HasNoVersion old row
    → row.key ≢ first.key → HasNoVersion new row
still_new old new first row (front, back, was, is, others) none apart other m same =
    elim (Contains-append_cases front (first ∷ back) other (subst (λ rows. Contains rows other) is m)) [
      | inl left ↦
          none other (subst (λ rows. Contains rows other) (sym was) (Contains-append_left front back other left)) same
      | inr right ↦ elim (Contains-cons_cases first other back right) [
        | inl e ↦ apart (same.key ∙ sym (ap (λ (r : Row). r.key) e))
        | inr r ↦
            none other (subst (λ rows. Contains rows other) (sym was) (Contains-append_right front back other r)) same
      ]
    ]

pub others_apart : (node stamp : ℕ) (key : List ℕ) (writes : List Write) → writes_key key writes ≡ false → (row : Row)
    → Contains (rows_written node stamp writes) row → row.key ≢ key
others_apart node stamp key [] h row m same = Contains-none row m
others_apart node stamp key (w ∷ ws) h row m same =
    elim (Contains-cons_cases (row_written node stamp w) row (rows_written node stamp ws) m) [
      | inl e ↦ true≢false
          (sym ((bytes_eq-Decides w.key key).1 (ap (λ (r : Row). r.key) e ∙ same))
          ∙ (or_parts (bytes_eq w.key key) (writes_key key ws) h).0)
      | inr there ↦ others_apart node stamp key ws (or_parts (bytes_eq w.key key) (writes_key key ws) h).1 row there
          same
    ]

-- one row, and then others
pub one_and_others : (old between new : List Row) (row : Row) (others : List Row)
    → IsPermutation (old ++ row ∷ []) between → IsPermutation (between ++ others) new
    → IsPermutation (old ++ row ∷ others) new
one_and_others old between new row others one more =
    subst (λ rows. IsPermutation rows new) (append_assoc old (row ∷ []) others)
    (IsPermutation-trans ((old ++ row ∷ []) ++ others) (between ++ others) new
    (IsPermutation-append_left others (old ++ row ∷ []) between one) more)

-- Rows that go in one after another.

one-more : (old : List Row) (rows : List Row) (row : Row) (now new : List Row) → AllInserted old rows now
    → InsertedLast now row new → AllInserted old (rows ++ row ∷ []) new
one-more old [] row now new same last = (new, subst (λ rows. InsertedLast rows row new) (sym same) last, refl)
one-more old (first ∷ rows) row now new (one, at', rest) last = (one, at', one-more one rows row now new rest last)

all-IsPermutation : (old : List Row) (rows : List Row) (new : List Row) → AllInserted old rows new
    → IsPermutation (old ++ rows) new
all-IsPermutation old [] new same =
    subst (IsPermutation (old ++ [])) (append-nil old ∙ same) (IsPermutation-refl (old ++ []))
all-IsPermutation old (row ∷ rows) new (one, at', rest) =
    one_and_others old one new row rows (inserted-IsPermutation old row one at') (all-IsPermutation one rows new rest)

-- if the rows after the first one went out, it is the last of its key
pub first-left : (old : List Row) (row : Row) (rows now after : List Row) → AllInserted old (row ∷ rows) now
    → ((one : List Row) → AllInserted one rows now → after ≡ one) → InsertedLast old row after
first-left old row rows now after (one, last, rest) back = subst (InsertedLast old row) (sym (back one rest)) last

-- the rows of the writes before are in, and those of the writes that are left are new, and of different keys
pub record Begun (old : List Row) (node stamp : ℕ) (writes : List Write) (now : List Row) (rest : List Write)
    : Type 0 where
  pub before : List Write
  pub parts : writes ≡ before ++ rest
  pub chain : AllInserted old (rows_written node stamp before) now
  pub new : (row : Row) → Contains (rows_written node stamp rest) row → HasNoVersion now row
  pub once : writes_twice rest ≡ false

pub begin : (old : List Row) (node stamp : ℕ) (writes : List Write)
    → ((row : Row) → Contains (rows_written node stamp writes) row → HasNoVersion old row)
    → writes_twice writes ≡ false → Begun old node stamp writes old writes
begin old node stamp writes new once =
    record { before = []; parts = refl; chain = refl; new = new; once = once }

-- the row of the next write is new
pub next-new : (old : List Row) (node stamp : ℕ) (writes : List Write) (now : List Row) (rest : List Write)
    (write : Write) (others : List Write) → Begun old node stamp writes now rest → rest ≡ write ∷ others
    → HasNoVersion now (row_written node stamp write)
next-new old node stamp writes now rest write others b is =
    b.new (row_written node stamp write)
    (subst (λ writes. Contains (rows_written node stamp writes) (row_written node stamp write)) (sym is)
    (Contains-first (row_written node stamp write) (rows_written node stamp others)))

-- one more write
pub go-on : (old : List Row) (node stamp : ℕ) (writes : List Write) (now : List Row) (rest : List Write)
    (write : Write) (others : List Write) (new : List Row) → Begun old node stamp writes now rest
    → rest ≡ write ∷ others → InsertedLast now (row_written node stamp write) new
    → Begun old node stamp writes new others
go-on old node stamp writes now rest write others new b is last =
    let row = row_written node stamp write in
    let once = subst (λ writes. writes_twice writes ≡ false) is b.once in
    let parts = or_parts (writes_key write.key others) (writes_twice others) once in record {
      before = b.before ++ write ∷ [];
      parts = b.parts ∙ ap (λ (rest : List Write). b.before ++ rest) is
          ∙ sym (append_assoc b.before (write ∷ []) others);
      chain = subst (λ rows. AllInserted old rows new) (sym (map-append (row_written node stamp) b.before (write ∷ [])))
          (one-more old (rows_written node stamp b.before) row now new b.chain last);
      new = λ later m. still_new now new row later last
          (b.new later
          (subst (λ writes. Contains (rows_written node stamp writes) later) (sym is)
          (Contains-rest row later (rows_written node stamp others) m)))
          (others_apart node stamp write.key others parts.0 later m);
      once = parts.1;
    }

-- all rows are in
pub ended : (old : List Row) (node stamp : ℕ) (writes : List Write) (now : List Row) (rest : List Write)
    → Begun old node stamp writes now rest → rest ≡ [] → IsPermutation (old ++ rows_written node stamp writes) now
ended old node stamp writes now rest b is =
    let all' : writes ≡ b.before = b.parts ∙ ap (λ (rest : List Write). b.before ++ rest) is ∙ append-nil b.before in
    subst (λ writes. IsPermutation (old ++ rows_written node stamp writes) now) (sym all')
    (all-IsPermutation old (rows_written node stamp b.before) now b.chain)

-- those that are in are the rows of the first writes
pub so-far : (old : List Row) (node stamp : ℕ) (writes : List Write) (now : List Row) (rest : List Write)
    (write : Write) (others : List Write) (count : ℕ) → Begun old node stamp writes now rest → rest ≡ write ∷ others
    → count ≡ length writes - 1 - length others → AllInserted old (rows_written node stamp (take count writes)) now
so-far old node stamp writes now rest write others count b is many =
    let all' : writes ≡ b.before ++ (write ∷ others) = b.parts ∙ ap (λ (rest : List Write). b.before ++ rest) is in
    let long = ap length all' in
    let sum = length-append b.before (write ∷ others) in
    let firsts : take count writes ≡ b.before =
    ap (λ (writes : List Write). take count writes) all'
    ∙ take_at b.before (write ∷ others) count (omega (arith, long, sum, many)) in
    subst (λ writes. AllInserted old (rows_written node stamp writes) now) (sym firsts) b.chain
