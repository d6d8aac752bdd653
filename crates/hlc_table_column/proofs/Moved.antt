-- Rows that move from one place to another: one more row in each list, the first rows of longer lists, and the room of
-- lists.
use Rattle.std.proofs.Common.{append_assoc, drop-drop, get_or-take, length-take, ◌≡◌, ◌<◌, ◌≤◌, ◌+◌, ℕ, zero, suc, List}
use Rattle.std.proofs.Common.{[], ◌∷◌, ◌++◌, length, take, drop, slice_get, min, length-take-le, Bool, Option, Some}
use Rattle.std.proofs.Common.{sym, ap, ap₂, ◌∙◌, refl, subst, arith, set}
use Rattle.std.proofs.lemmas.Option.{same_Some, slice_get_within, slice_get-get_or, get_or_from_slice_get}
use Rattle.std.{proofs.lemmas.List.take_more_set, proofs.lemmas.List.take_more, specs.List.items_where_true}
use Rattle.hlc_table_column.specs.Cells.{Cell, CellsWithRoom, cells_of, AreBeside}
use Rattle.hlc_table_order.specs.Order.{IsIndex}
use Rattle.hlc_table_column.proofs.Beside.{length_cells, cells_push, cell_there, cells_chosen, length_chosen_same}
use Rattle.hlc_table_column.proofs.Chosen.{chosen_front}

-- what is at a position is at the same position where the rest is the same
pub at_same : {X : Type 0} (xs ys : List X) (i : ℕ) (x : X) → drop i xs ≡ drop i ys → slice_get xs i ≡ Some x
    → slice_get ys i ≡ Some x
at_same xs ys i x same at = sym (first_at ys i) ∙ ap (λ l. slice_get l 0) (sym same) ∙ first_at xs i ∙ at
  where
    first_at : {X : Type 0} (xs : List X) (i : ℕ) → slice_get (drop i xs) 0 ≡ slice_get xs i
    first_at [] zero = refl
    first_at [] (suc i) = refl
    first_at (x ∷ xs) zero = refl
    first_at (x ∷ xs) (suc i) = first_at xs i

-- and so is the rest after it
pub rest_same : {X : Type 0} (xs ys : List X) (i : ℕ) → drop i xs ≡ drop i ys → drop (i + 1) xs ≡ drop (i + 1) ys
rest_same xs ys i e = sym (drop-drop 1 i xs) ∙ ap (drop 1) e ∙ drop-drop 1 i ys

-- one more row moves
pub moved_more : (before rows : List Cell) (i : ℕ) (row : Cell) → slice_get rows i ≡ Some row
    → (before ++ take i rows) ++ row ∷ [] ≡ before ++ take (i + 1) rows
moved_more before rows i row at =
    append_assoc before (take i rows) (row ∷ [])
    ∙ ap (λ l. before ++ l) (sym (take_more rows i row (slice_get_within rows i row at)
    ∙ ap (λ (r : Cell). take i rows ++ r ∷ []) (get_or_from_slice_get rows i row row at)))

-- the only row
pub only_row : (cells : List Cell) (row : Cell) → length cells ≡ 1 → slice_get cells 0 ≡ Some row → cells ≡ row ∷ []
only_row (c ∷ []) row one at = ap (λ (x : Cell). x ∷ []) (same_Some c row at)
only_row cells row one at = absurd (omega arith)

-- lists of one item each are one row
pub one_cell : (ss ns : List ℕ) (vs : List (Option (List ℕ))) (s n : ℕ) (v : Option (List ℕ)) → length ss ≡ 1
    → length ns ≡ 1 → length vs ≡ 1 → slice_get ss 0 ≡ Some s → slice_get ns 0 ≡ Some n → slice_get vs 0 ≡ Some v
    → cells_of ss ns vs ≡ record { stamp = s; node = n; value = v } ∷ []
one_cell (x ∷ []) (y ∷ ns) (w ∷ vs) s n v a b c es en ev =
    rw (same_Some x s es, same_Some y n en, same_Some w v ev) refl
one_cell ss ns vs s n v a b c es en ev = absurd (omega arith)

-- one more item in each list is one more row
pub pushed_cells : (ss ns ss_new ns_new : List ℕ) (vs vs_new : List (Option (List ℕ))) (s n : ℕ) (v : Option (List ℕ))
    (row : Cell) (before : List Cell) → AreBeside ss ns vs → ss_new ≡ ss ++ s ∷ [] → ns_new ≡ ns ++ n ∷ []
    → vs_new ≡ vs ++ v ∷ [] → cells_of ss ns vs ≡ before
    → ◌≡◌ {A = Cell} (record { stamp = s; node = n; value = v }) row
    → cells_of ss_new ns_new vs_new ≡ before ++ row ∷ []
pushed_cells ss ns ss_new ns_new vs vs_new s n v row before b es en ev is same =
    rw (es, en, ev) (cells_push ss ns vs s n v b ∙ ap₂ (λ (cs : List Cell) (c : Cell). cs ++ c ∷ []) is same)

-- the first items of longer lists are side by side
pub beside_front : (len N : ℕ) (ss ns : List ℕ) (vs : List (Option (List ℕ))) → len ≤ N → length ss ≡ N → length ns ≡ N
    → length vs ≡ N → AreBeside (take len ss) (take len ns) (take len vs)
beside_front len N ss ns vs le a b c =
    let s = length-take-le len ss (omega (arith, le, a)) in
    (length-take-le len ns (omega (arith, le, b)) ∙ sym s, length-take-le len vs (omega (arith, le, c)) ∙ sym s)

-- and as many rows
pub length_front : (len N : ℕ) (ss ns : List ℕ) (vs : List (Option (List ℕ))) (now : List Cell) → len ≤ N
    → length ss ≡ N → length ns ≡ N → length vs ≡ N → cells_of (take len ss) (take len ns) (take len vs) ≡ now
    → length now ≡ len
length_front len N ss ns vs now le a b c is =
    ap length (sym is) ∙ length_cells (take len ss) (take len ns) (take len vs) (beside_front len N ss ns vs le a b c)
    ∙ length-take-le len ss (omega (arith, le, a))

-- what is at a position of each list is the row there
pub front_there : (len i s n : ℕ) (v : Option (List ℕ)) (ss ns : List ℕ) (vs : List (Option (List ℕ)))
    (now : List Cell) → i < len → slice_get ss i ≡ Some s → slice_get ns i ≡ Some n → slice_get vs i ≡ Some v
    → cells_of (take len ss) (take len ns) (take len vs) ≡ now
    → slice_get now i ≡ Some (record { stamp = s; node = n; value = v })
front_there len i s n v ss ns vs now lt es en ev is =
    ap (λ (cs : List Cell). slice_get cs i) (sym is)
    ∙ cell_there (take len ss) (take len ns) (take len vs) i s n v (in_front len ss i s lt es)
    (in_front len ns i n lt en) (in_front len vs i v lt ev)
  where
    in_front : {X : Type 0} (n : ℕ) (xs : List X) (i : ℕ) (x : X) → i < n → slice_get xs i ≡ Some x
        → slice_get (take n xs) i ≡ Some x
    in_front n xs i x lt e =
        slice_get-get_or (take n xs) i x (omega (arith, length-take n xs, slice_get_within xs i x e))
        ∙ ap (λ y. Some y) (get_or-take n xs i x lt ∙ get_or_from_slice_get xs i x x e)

-- other values change no row from a position on if they are the same from there on
pub front_same : (i len : ℕ) (ss ns : List ℕ) (vs ws : List (Option (List ℕ))) → length vs ≡ length ws
    → drop i vs ≡ drop i ws → drop i (cells_of (take len ss) (take len ns) (take len vs))
    ≡ drop i (cells_of (take len ss) (take len ns) (take len ws))
front_same zero len ss ns vs ws long e = ap (λ l. cells_of (take len ss) (take len ns) (take len l)) e
front_same (suc i) zero ss ns vs ws long e = refl
front_same (suc i) (suc len) [] ns vs ws long e = refl
front_same (suc i) (suc len) (s ∷ ss) [] vs ws long e = refl
front_same (suc i) (suc len) (s ∷ ss) (n ∷ ns) [] [] long e = refl
front_same (suc i) (suc len) (s ∷ ss) (n ∷ ns) (v ∷ vs) (w ∷ ws) long e =
    front_same i len ss ns vs ws (omega (arith, long)) e
front_same i len ss ns vs ws long e = absurd (omega arith)

-- one more item after the first
pub front_push : {X : Type 0} (len N : ℕ) (xs : List X) (x : X) → len < N → length xs ≡ N
    → take (len + 1) (set xs len x) ≡ take len xs ++ x ∷ []
front_push len N xs x lt e = take_more_set xs len x (omega (arith, lt, e))

-- the flagged of the first rows
pub front_chosen : (bs : List Bool) (len N k kn ks : ℕ) (ss ns ss_new ns_new : List ℕ)
    (vs vs_new : List (Option (List ℕ))) (now : List Cell) → len ≤ N → length ss ≡ N → length ns ≡ N → length vs ≡ N
    → length bs ≡ len → ks ≤ length ss_new → kn ≤ length ns_new → k ≤ length vs_new
    → take ks ss_new ≡ items_where_true bs ss → take kn ns_new ≡ items_where_true bs ns
    → take k vs_new ≡ items_where_true bs vs → cells_of (take len ss) (take len ns) (take len vs) ≡ now
    → cells_of (take k ss_new) (take k ns_new) (take k vs_new) ≡ items_where_true bs now
front_chosen bs len N k kn ks ss ns ss_new ns_new vs vs_new now le a b c flags fs fn fv es en ev is =
    let front_s = es ∙ chosen_front bs ss len (omega (arith, flags)) in
    let front_n = en ∙ chosen_front bs ns len (omega (arith, flags)) in
    let front_v = ev ∙ chosen_front bs vs len (omega (arith, flags)) in
    let beside = beside_front len N ss ns vs le a b c in
    let alike_s = length_chosen_same bs (take len ss) (take len vs) (sym beside.1) in
    let alike_n = length_chosen_same bs (take len ns) (take len vs) (beside.0 ∙ sym beside.1) in
    let count_v = sym (length-take-le k vs_new fv) ∙ ap length front_v in
    let count_s : ks ≡ k = sym (length-take-le ks ss_new fs) ∙ ap length front_s ∙ alike_s ∙ sym count_v in
    let count_n : kn ≡ k = sym (length-take-le kn ns_new fn) ∙ ap length front_n ∙ alike_n ∙ sym count_v in
    rw (
      subst (λ m. take m ss_new ≡ items_where_true bs (take len ss)) count_s front_s,
      subst (λ m. take m ns_new ≡ items_where_true bs (take len ns)) count_n front_n,
      front_v,
    )
    (cells_chosen bs (take len ss) (take len ns) (take len vs) beside ∙ ap (items_where_true bs) is)

-- lists of the same items are side by side as before, and have the same index
pub same_lists : (ss ns ss_new ns_new order : List ℕ) (vs vs_new : List (Option (List ℕ))) → ss_new ≡ ss → ns_new ≡ ns
    → vs_new ≡ vs → AreBeside ss ns vs × IsIndex ss ns order
    → AreBeside ss_new ns_new vs_new × IsIndex ss_new ns_new order
same_lists ss ns ss_new ns_new order vs vs_new es en ev is = rw (es, en, ev) is

-- if one more row fits, one more item fits in each list
pub fits_each : (ss ns : List ℕ) (vs : List (Option (List ℕ))) (a b c : ℕ) (now : CellsWithRoom) → AreBeside ss ns vs
    → ◌≡◌ {A = CellsWithRoom} (record { cells = cells_of ss ns vs; room = min a (min b c) }) now
    → length now.cells < now.room → (length ss < a) × (length ns < b) × (length vs < c)
fits_each ss ns vs a b c now beside is fits =
    let room = ap (λ (l : CellsWithRoom). l.room) is in
    let cells = ap (λ (l : CellsWithRoom). length l.cells) is in
    let count = length_cells ss ns vs beside in
    let nodes = beside.0 in
    let values = beside.1 in (
      omega (arith, fits, room, cells, count),
      omega (arith, fits, room, cells, count, nodes),
      omega (arith, fits, room, cells, count, values),
    )

-- rows and room
pub with_room : (cells others : List Cell) (room other : ℕ) → cells ≡ others → room ≡ other
    → ◌≡◌ {A = CellsWithRoom} (record { cells = cells; room = room }) (record { cells = others; room = other })
with_room cells others room other e f =
    ap₂ (λ (cs : List Cell) (r : ℕ). the_room cs r) e f
  where
    the_room : List Cell → ℕ → CellsWithRoom
    the_room cs r = record { cells = cs; room = r }

-- the room is that of the fullest list
pub room_kept : (N a b c a_new b_new c_new room : ℕ) → min a (min b c) ≡ room → (N ≤ a → N ≤ a_new)
    → (N ≤ b → N ≤ b_new) → (N ≤ c → N ≤ c_new) → N ≤ room → N ≤ min a_new (min b_new c_new)
room_kept N a b c a_new b_new c_new room e fa fb fc le =
    omega (arith, fa (omega (arith, e, le)), fb (omega (arith, e, le)), fc (omega (arith, e, le)))
