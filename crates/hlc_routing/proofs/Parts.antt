-- Parts of a checkpoint, and what two are joined into, are states with which stores begin, and take over the keys.
use Rattle.std.proofs.Common.{◌≡◌, ℕ, zero, suc, ◌+◌, ◌≤◌, Bool, true, false, cond, List, [], ◌∷◌, ◌++◌, length, Some}
use Rattle.std.proofs.Common.{None, refl, ap, sym, ◌∙◌, subst, inl, inr, arith, append-nil, slice_get, Contains, not}
use Rattle.std.proofs.lemmas.{Bool.cond-true, Bool.cond-false, Bool.cases_lt, Option.slice_get_past}
use Rattle.std.proofs.lemmas.List.Elements.{All-nil, All-cons, All-append, All-contains, filter-append}
use Rattle.hlc_values.proofs.MemberLemmas.{Contains-first, Contains-rest}
use Rattle.hlc_rows.specs.declared.row.Row.{Row}
use Rattle.hlc_intake.specs.IntakeView.{IntakeView}
use Rattle.hlc_checkpoint.specs.StoreView.{marks_of, greatest_head}
use Rattle.hlc_heads.specs.Heads.{floor_of}
use Rattle.hlc_core.specs.{Past.Step, Past.Began, Past.link_in, Parts.rows_of_keys}
use Rattle.hlc_core.specs.StoreView.{StoreView, with_rows, Represents as CoreRepresents}
use Rattle.hlc_core.specs.Checkpoint.{IsCheckpoint, floor_in}
use Rattle.hlc_split.specs.Split.{part_of, is_under, is_from}
use Rattle.hlc_split.specs.Merge.{AreDivided, AreJoinable, is_of_left}
use Rattle.hlc_split.proofs.StateLemmas.{part-is_checkpoint, joined-is_checkpoint}
use Rattle.hlc_ranges.specs.{Run.Layout, Run.Turn, Run.past_of, Change.IsDrained, Change.TakesOver}
use Rattle.hlc_routing.specs.Division.{DivisionView, ByKeys, store_of}
use Rattle.hlc_routing.specs.{Placing.ArePlaced, Ranges.RangesView, Ranges.Represents}
use Rattle.hlc_routing.specs.Beginning.{layout_from, begun_with, halves_of, AreStates, AreRestored}
use Rattle.hlc_routing.proofs.{Beginning.begin-with, Stepping.some-same, Stepping.get-some}

-- rows of a kind are of one that each key of the kind is of
kind-placed : (division : DivisionView) (s : ℕ) (is_of : List ℕ → Bool) (rows : List Row)
    → ((key : List ℕ) → is_of key ≡ true → store_of division key ≡ s) → ArePlaced division s (rows_of_keys is_of rows)
kind-placed division s is_of [] own = All-nil (λ (row : Row). store_of division row.key ≡ s)
kind-placed division s is_of (row ∷ rows) own =
    elim (is_of row.key) as (λ b. is_of row.key ≡ b
    → ArePlaced division s (cond b (row ∷ rows_of_keys is_of rows) (rows_of_keys is_of rows))) [
      | true ↦ λ t. All-cons (λ (other : Row). store_of division other.key ≡ s) row (rows_of_keys is_of rows)
          (own row.key t) (kind-placed division s is_of rows own)
      | false ↦ λ f. kind-placed division s is_of rows own
    ] refl

pub part-state : (kept : StoreView) (is_of : List ℕ → Bool) (division : DivisionView) (s : ℕ) → IsCheckpoint kept
    → ((key : List ℕ) → is_of key ≡ true → store_of division key ≡ s)
    → IsCheckpoint (part_of is_of kept) × ArePlaced division s (part_of is_of kept).rows
part-state kept is_of division s is own =
    (part-is_checkpoint kept is_of is, kind-placed division s is_of kept.rows own)

pub joined-state : (left right : StoreView) (division : DivisionView) (s : ℕ) → AreJoinable left right
    → IsCheckpoint left → IsCheckpoint right → ArePlaced division s left.rows → ArePlaced division s right.rows
    → IsCheckpoint (with_rows left (left.rows ++ right.rows)) × ArePlaced division s (left.rows ++ right.rows)
joined-state left right division s fit l r low high = (
  joined-is_checkpoint left right fit l r,
  All-append (λ (row : Row). store_of division row.key ≡ s) left.rows right.rows low high,
)

-- a key below the one boundary is of the first store, and any other of the second
under-first : (bound key : List ℕ) → is_under bound key ≡ true → store_of (ByKeys (bound ∷ [])) key ≡ 0
under-first bound key t = cond-true _ _ _ t

from-second : (bound key : List ℕ) → is_from bound key ≡ true → store_of (ByKeys (bound ∷ [])) key ≡ 1
from-second bound key t =
    elim (is_under bound key) as (λ b. not b ≡ true → ◌≡◌ {A = ℕ} (cond b 0 1) 1) [
      | true ↦ λ e. absurd (cc)
      | false ↦ λ e. refl
    ] t

-- each of the two halves is one of these
half-cases : (kept : StoreView) (key : List ℕ) (P : ℕ → StoreView → Type 0) → P 0 (part_of (is_under key) kept)
    → P 1 (part_of (is_from key) kept) → (s : ℕ) (store : StoreView)
    → slice_get (halves_of kept key).stores s ≡ Some store → P s store
half-cases kept key P low high zero store at = subst (P 0) (some-same _ store at) low
half-cases kept key P low high (suc zero) store at = subst (P 1) (some-same _ store at) high
half-cases kept key P low high (suc (suc s)) store at = absurd (cc)

pub halves-states : (kept : StoreView) (key : List ℕ) (machine : ℕ → ℕ → ℕ) (clock : ℕ → ℕ) → IsCheckpoint kept
    → ((s n : ℕ) → (link_in kept n).head ≤ clock (machine s n)) → AreStates (halves_of kept key) machine clock
halves-states kept key machine clock is reached =
    let low = part-state kept (is_under key) (ByKeys (key ∷ [])) 0 is (under-first key) in
    let high = part-state kept (is_from key) (ByKeys (key ∷ [])) 1 is (from-second key) in
    record {
      checkpoints = half-cases kept key (λ s store. IsCheckpoint store) low.0 high.0;
      placed = half-cases kept key (λ s store. ArePlaced (ByKeys (key ∷ [])) s store.rows) low.1 high.1;
      reached = λ s n store at.
          half-cases kept key (λ t half. (link_in half n).head ≤ clock (machine t n)) (reached 0 n) (reached 1 n) s
          store at;
    }

-- stores that were restored from states represent a run that begins with these
pub restored-begin : (states kept : RangesView) (machine : ℕ → ℕ → ℕ) (clock : ℕ → ℕ) → AreStates states machine clock
    → AreRestored states kept → Represents (layout_from states machine clock) kept []
restored-begin states kept machine clock are restored = record {
  legal = begin-with states machine clock are;
  many = restored.many;
  pasts = λ s store there.
      elim (cases_lt s (length states.stores)) [
        | inl within ↦
            let state = get-some states.stores s within in
            subst (λ (p : List Step). CoreRepresents store p) (sym (ap begun_with state.1))
            (restored.pasts s state.0 store state.1 there)
        | inr out ↦ absurd (let many : length kept.stores ≡ length states.stores = restored.many in
            let out' : length states.stores ≤ s = out in
            let none : slice_get kept.stores s ≡ None = slice_get_past kept.stores s (omega arith) in
            let e : None ≡ Some store = sym none ∙ there in cc)
      ];
  routed = λ key. ap (λ (d : DivisionView). store_of d key) (sym restored.division);
}

-- rows of a kind of rows of that kind are these
kind-again : (is_of : List ℕ → Bool) (rows : List Row)
    → rows_of_keys is_of (rows_of_keys is_of rows) ≡ rows_of_keys is_of rows
kind-again is_of [] = refl
kind-again is_of (row ∷ rows) =
    elim (is_of row.key) as (λ b. is_of row.key ≡ b
    → rows_of_keys is_of (cond b (row ∷ rows_of_keys is_of rows) (rows_of_keys is_of rows))
    ≡ cond b (row ∷ rows_of_keys is_of rows) (rows_of_keys is_of rows)) [
      | true ↦ λ t. cond-true _ _ _ t ∙ ap (λ rest. row ∷ rest) (kind-again is_of rows)
      | false ↦ λ f. kind-again is_of rows
    ] refl

-- none of some rows is of a kind
kind-none : (is_of : List ℕ → Bool) (rows : List Row) → ((row : Row) → Contains rows row → is_of row.key ≡ false)
    → rows_of_keys is_of rows ≡ []
kind-none is_of [] miss = refl
kind-none is_of (row ∷ rows) miss =
    cond-false _ _ _ (miss row (Contains-first row rows))
    ∙ kind-none is_of rows (λ other m. miss other (Contains-rest row other rows m))

pub part-takes : (old new : Layout) (run : List Turn) (s t : ℕ) (is_of : List ℕ → Bool) (kept : StoreView)
    → IsDrained old run s → CoreRepresents kept (past_of old s run) → new.begun t ≡ Began (part_of is_of kept) ∷ []
    → TakesOver old run new s t is_of
part-takes old new run s t is_of kept drained represents begins = record {
  drained = drained;
  kept = kept;
  represents = represents;
  state = part_of is_of kept;
  begins = begins;
  rows = kind-again is_of kept.rows;
  horizon = refl;
  snapshots = refl;
  floor = omega arith;
}

pub moved-takes : (old new : Layout) (run : List Turn) (s t : ℕ) (is_of : List ℕ → Bool) (kept : StoreView)
    → IsDrained old run s → CoreRepresents kept (past_of old s run) → new.begun t ≡ Began kept ∷ []
    → TakesOver old run new s t is_of
moved-takes old new run s t is_of kept drained represents begins = record {
  drained = drained;
  kept = kept;
  represents = represents;
  state = kept;
  begins = begins;
  rows = refl;
  horizon = refl;
  snapshots = refl;
  floor = omega arith;
}

-- the rows of two lists that are divided are those of the one, at the keys of that
left-rows : (left right : List Row) → AreDivided left right
    → rows_of_keys (is_of_left right) (left ++ right) ≡ rows_of_keys (is_of_left right) left
left-rows left [] divided = ap (rows_of_keys (is_of_left [])) (append-nil left)
left-rows left (first ∷ rest) divided =
    let is_of : List ℕ → Bool = is_under first.key in
    let none : rows_of_keys is_of (first ∷ rest) ≡ [] = kind-none is_of (first ∷ rest)
    (λ row m. not-true (is_of row.key)
    (All-contains (λ (r : Row). is_from first.key r.key ≡ true) (first ∷ rest) row divided.1 m)) in
    filter-append (λ (r : Row). is_of r.key) left (first ∷ rest)
    ∙ ap (λ rows. rows_of_keys is_of left ++ rows) none ∙ append-nil (rows_of_keys is_of left)
  where
    not-true : (b : Bool) → not b ≡ true → b ≡ false
    not-true true e = absurd (cc)
    not-true false e = refl

right-rows : (left right : List Row) → AreDivided left right
    → rows_of_keys (λ key. not (is_of_left right key)) (left ++ right)
    ≡ rows_of_keys (λ key. not (is_of_left right key)) right
right-rows left [] divided =
    ap (rows_of_keys (λ _. false)) (append-nil left) ∙ kind-none (λ _. false) left (λ row m. refl)
right-rows left (first ∷ rest) divided =
    let is_of : List ℕ → Bool = λ key. not (is_under first.key key) in
    filter-append (λ (r : Row). is_of r.key) left (first ∷ rest)
    ∙ ap (λ rows. rows ++ rows_of_keys is_of (first ∷ rest))
    (kind-none is_of left
    (λ row m. ap not (All-contains (λ (r : Row). is_under first.key r.key ≡ true) left row divided.0 m)))

pub left-takes : (old new : Layout) (run : List Turn) (s t : ℕ) (left right : StoreView) → IsDrained old run s
    → CoreRepresents left (past_of old s run) → AreJoinable left right
    → new.begun t ≡ Began (with_rows left (left.rows ++ right.rows)) ∷ []
    → TakesOver old run new s t (is_of_left right.rows)
left-takes old new run s t left right drained represents fit begins = record {
  drained = drained;
  kept = left;
  represents = represents;
  state = with_rows left (left.rows ++ right.rows);
  begins = begins;
  rows = left-rows left.rows right.rows fit.3;
  horizon = refl;
  snapshots = refl;
  floor = omega arith;
}

pub right-takes : (old new : Layout) (run : List Turn) (s t : ℕ) (left right : StoreView) → IsDrained old run s
    → CoreRepresents right (past_of old s run) → AreJoinable left right → IsCheckpoint left → IsCheckpoint right
    → new.begun t ≡ Began (with_rows left (left.rows ++ right.rows)) ∷ []
    → TakesOver old run new s t (λ key. not (is_of_left right.rows key))
right-takes old new run s t left right drained represents fit l r begins =
    let tops : right.top ≡ left.top =
    r.store.sound.top ∙ ap greatest_head (sym fit.0.1) ∙ sym l.store.sound.top in
    let same : floor_in right ≡ floor_in left =
    ap (λ (links : List IntakeView). floor_of (marks_of links right.top)) (sym fit.0.1)
    ∙ ap (λ top. floor_of (marks_of left.links top)) tops in
    record {
      drained = drained;
      kept = right;
      represents = represents;
      state = with_rows left (left.rows ++ right.rows);
      begins = begins;
      rows = right-rows left.rows right.rows fit.3;
      horizon = fit.2;
      snapshots = fit.1.1;
      floor = (let e : floor_in right ≡ floor_in left = same in omega arith);
    }
