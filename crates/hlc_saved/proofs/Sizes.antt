-- The number of bytes of the parts of a checkpoint.
use Rattle.std.proofs.Common.{◌≡◌, ℕ, ◌+◌, ◌*◌, ◌<◌, ◌≤◌, Bool, true, false, List, [], ◌∷◌, ◌++◌, length, take, get_or}
use Rattle.std.proofs.Common.{refl, ap₂, slice_get, Some, sym, ap, subst, ◌∙◌, arith, length-append}
use Rattle.std.specs.{List.flat_map, Prelude.Option, Prelude.SomeIff, Int.w16, Int.w64, Int.to_be_bytes}
use Rattle.std.proofs.lemmas.Grind.{flat_map-append}
use Rattle.std.proofs.lemmas.List.{append-nil, Concat.flat_map-cons, Folds.length-flat_map-take}
use Rattle.std.proofs.lemmas.List.Elements.{All-nil, All-cons, All-append}
use Rattle.hlc_rows.specs.declared.row.Row.{Row}
use Rattle.hlc_table_column.specs.Rows.{KeyCells, rows_in, rows_in_one}
use Rattle.hlc_columns.specs.Table.{columns_in}
use Rattle.hlc_intake.specs.IntakeView.{IntakeView}
use Rattle.hlc_snapshot.specs.declared.snapshot.Snapshot.{Snapshot}
use Rattle.hlc_core.specs.StoreView.{StoreView}
use Rattle.hlc_wire.specs.Spelling.{flag_bytes}
use Rattle.hlc_body.specs.Spelling.{link_bytes, snapshot_bytes, row_bytes, list_bytes, Preamble, preamble_bytes}
use Rattle.hlc_body.specs.Spelling.{preamble_of, checkpoint_bytes, RowFits, AreOfSize}
use Rattle.hlc_saved.proofs.StorePieces.{taken_one, leaves_one}

-- each has as many bytes
each_takes : {A : Type 0} (spell : A → List ℕ) (n : ℕ) → ((a : A) → length (spell a) ≡ n) → (xs : List A)
    → length (flat_map spell xs) ≡ n * length xs
each_takes spell n each [] = omega arith
each_takes spell n each (x ∷ xs) =
    let e = each x in
    let t = each_takes spell n each xs in
    let c = ap length (flat_map-cons spell x xs) in
    let l = length-append (spell x) (flat_map spell xs) in
    omega (arith, e, t, c, l)

flag_takes : (flag : Bool) → length (flag_bytes flag) ≡ 1
flag_takes true = refl
flag_takes false = refl

link_takes : (link : IntakeView) → length (link_bytes link) ≡ 17
link_takes link =
    let one = flag_takes link.retired in
    omega (arith, one)

pub links_take : (links : List IntakeView) → length (flat_map link_bytes links) ≡ 17 * length links
links_take links = each_takes link_bytes 17 link_takes links

pub snapshots_take : (snapshots : List Snapshot) → length (flat_map snapshot_bytes snapshots) ≡ 16 * length snapshots
snapshots_take snapshots = each_takes snapshot_bytes 16 (λ snapshot. refl) snapshots

-- the part before the rows
pub preamble_takes : (p : Preamble) → length (preamble_bytes p) ≡ 30 + 17 * length p.links + 16 * length p.snapshots
preamble_takes p =
    let ls : List ℕ = flat_map link_bytes p.links in
    let ss : List ℕ = flat_map snapshot_bytes p.snapshots in
    let numbers : List ℕ = to_be_bytes w64 p.last_id ++ (to_be_bytes w64 p.horizon ++ to_be_bytes w64 p.count) in
    let later : List ℕ = list_bytes w16 snapshot_bytes p.snapshots ++ numbers in
    let a = links_take p.links in
    let b = snapshots_take p.snapshots in
    let e : length (ls ++ later) ≡ length ls + length later = length-append ls later in
    let f : length (ss ++ numbers) ≡ length ss + length numbers = length-append ss numbers in
    omega (arith, a, b, e, f)

a_sum : (whole ls ss links snapshots : ℕ) → whole ≡ 30 + 17 * links + 16 * snapshots → ls ≡ 2 + 17 * links
    → ss ≡ 2 + 16 * snapshots → 26 + ls + ss ≡ whole
a_sum whole ls ss links snapshots a b c = omega arith

pub preamble_parts : (p : Preamble) (ls ss : ℕ) → ls ≡ 2 + 17 * length p.links → ss ≡ 2 + 16 * length p.snapshots
    → 26 + ls + ss ≡ length (preamble_bytes p)
preamble_parts p ls ss a b = a_sum _ ls ss _ _ (preamble_takes p) a b

-- all of it
pub all_take : (kept : StoreView) (rows before : ℕ) → rows ≡ length (flat_map row_bytes kept.rows)
    → before ≡ length (preamble_bytes (preamble_of kept)) → rows + before ≡ length (checkpoint_bytes kept)
all_take kept rows before a b =
    let whole : length (checkpoint_bytes kept)
    ≡ length (preamble_bytes (preamble_of kept)) + length (flat_map row_bytes kept.rows) =
    length-append (preamble_bytes (preamble_of kept)) (flat_map row_bytes kept.rows) in
    omega (arith, whole, a, b)

-- ---- the rows of a store

sized_append : (rows more : List Row) (a b : ℕ) → AreOfSize rows a → AreOfSize more b → AreOfSize (rows ++ more) (a + b)
sized_append rows more a b so also = record {
  bytes = ap₂ (λ (m n : ℕ). m + n) so.bytes also.bytes
      ∙ sym (length-append (flat_map row_bytes rows) (flat_map row_bytes more))
      ∙ ap length (sym (flat_map-append row_bytes rows more));
  fits = All-append RowFits rows more so.fits also.fits;
}

-- one more row of a column
pub sized_row : (rows : List Row) (i : ℕ) (row : Row) (a b : ℕ) → slice_get rows i ≡ Some row
    → AreOfSize (take i rows) a → b ≡ length (row_bytes row) → RowFits row → AreOfSize (take (i + 1) rows) (a + b)
sized_row rows i row a b at so long fit =
    subst (λ (xs : List Row). AreOfSize xs (a + b)) (sym (taken_one rows i row at))
    (sized_append (take i rows) (row ∷ []) a b so (record {
      bytes = long ∙ ap length (sym (append-nil (row_bytes row)));
      fits = All-cons RowFits row [] fit (All-nil RowFits);
    }))

-- one more column of a leaf
pub sized_column : (leaf : List KeyCells) (i : ℕ) (one : KeyCells) (a b : ℕ) → slice_get leaf i ≡ Some one
    → AreOfSize (rows_in (take i leaf)) a → AreOfSize (rows_in_one one) b
    → AreOfSize (rows_in (take (i + 1) leaf)) (a + b)
sized_column leaf i one a b at so also =
    let is : rows_in (take (i + 1) leaf) ≡ rows_in (take i leaf) ++ rows_in_one one =
    ap rows_in (taken_one leaf i one at) ∙ flat_map-append rows_in_one (take i leaf) (one ∷ [])
    ∙ ap (λ (xs : List Row). rows_in (take i leaf) ++ xs) (append-nil (rows_in_one one)) in
    subst (λ (xs : List Row). AreOfSize xs (a + b)) (sym is)
    (sized_append (rows_in (take i leaf)) (rows_in_one one) a b so also)

-- one more leaf
pub sized_leaf : (leaves : List (List KeyCells)) (i : ℕ) (leaf : List KeyCells) (a b : ℕ)
    → slice_get leaves i ≡ Some leaf → AreOfSize (rows_in (columns_in (take i leaves))) a → AreOfSize (rows_in leaf) b
    → AreOfSize (rows_in (columns_in (take (i + 1) leaves))) (a + b)
sized_leaf leaves i leaf a b at so also =
    let is : rows_in (columns_in (take (i + 1) leaves)) ≡ rows_in (columns_in (take i leaves)) ++ rows_in leaf =
    ap rows_in (leaves_one leaves i leaf at) ∙ flat_map-append rows_in_one (columns_in (take i leaves)) leaf in
    subst (λ (xs : List Row). AreOfSize xs (a + b)) (sym is)
    (sized_append (rows_in (columns_in (take i leaves))) (rows_in leaf) a b so also)

pub some_iff : (r : Option ℕ) (n m : ℕ) → n ≡ m → SomeIff r (n < 18446744073709551616) n
    → SomeIff r (m < 18446744073709551616) m
some_iff r n m e h = subst (λ (k : ℕ). SomeIff r (k < 18446744073709551616) k) e h

pub size_within : {A : Type 0} (spell : A → List ℕ) (xs : List A) (i : ℕ) (x : A) → i < length xs → x ≡ get_or xs i x
    → length (flat_map spell (take i xs)) + length (spell x) ≤ length (flat_map spell xs)
size_within spell xs i x lt is =
    let w = length-flat_map-take spell xs i x lt in
    let e : length (spell x) ≡ length (spell (get_or xs i x)) = ap (λ y. length (spell y)) is in
    omega (arith, w, e)
