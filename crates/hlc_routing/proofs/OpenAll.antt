-- A snapshot is open in all stores just if it has as many ids, and each store has it open under its id.
use Rattle.std.proofs.Common.{◌≡◌, ℕ, ◌+◌, ◌<◌, ◌≤◌, List, length, get_or, Some, None, Option, Result, Ok, Err, true}
use Rattle.std.proofs.Common.{false, ap, sym, ◌∙◌, subst, inl, inr, arith, slice_get, MatchOption, IsErr, IsOkAnd, IfOk}
use Rattle.std.proofs.Common.{OnErr, nat_lt, is_some, lt-ltb}
use Rattle.std.proofs.lemmas.{Bool.cases_eq, Bool.cases_lt, Option.slice_get-get_or, Option.get_or_from_slice_get}
use Rattle.hlc_core.specs.Past.{stamp_of}
use Rattle.hlc_ranges.specs.Run.{Layout, Turn, past_of}
use Rattle.hlc_routing.{specs.Ranges.RangesView, specs.Ranges.Represents, proofs.Closing.past-none}
use Rattle.hlc_routing.specs.All.{SnapshotView, IsOpenAll, IsOpenAt, IsIdAt}

-- the first stores have it open, at its stamp
abbrev pub IsOpenUpto : Layout → SnapshotView → List Turn → ℕ → Type 0
IsOpenUpto layout snapshot run n = (s : ℕ) → s < n → IsOpenAt layout snapshot run s

pub open-here : (layout : Layout) (snapshot : SnapshotView) (run : List Turn) (s : ℕ) → IsOpenAll layout snapshot run
    → s < layout.stores → IsOpenAt layout snapshot run s
open-here layout snapshot run s open' inside =
    let many : length snapshot.ids ≡ layout.stores = open'.many in
    let below : s < layout.stores = inside in
    (get_or snapshot.ids s 0, (slice_get-get_or snapshot.ids s 0 (omega arith), open'.each s inside))

pub open-all : (layout : Layout) (snapshot : SnapshotView) (run : List Turn) → length snapshot.ids ≡ layout.stores
    → IsOpenUpto layout snapshot run layout.stores → IsOpenAll layout snapshot run
open-all layout snapshot run many each' = record {
  many = many;
  each = λ s inside.
      let is = each' s inside in
      ap (λ id. stamp_of id (past_of layout s run)) (get_or_from_slice_get snapshot.ids s is.0 0 is.1.0) ∙ is.1.1;
}

pub open-none : (layout : Layout) (snapshot : SnapshotView) (run : List Turn) → IsOpenUpto layout snapshot run 0
open-none layout snapshot run = λ s below. absurd (omega (arith, below))

pub open-next : (layout : Layout) (snapshot : SnapshotView) (run : List Turn) (n : ℕ) → IsOpenUpto layout snapshot run n
    → IsOpenAt layout snapshot run n → IsOpenUpto layout snapshot run (n + 1)
open-next layout snapshot run n before is = λ s below.
    elim (cases_eq s n) [
      | inl e ↦ subst (IsOpenAt layout snapshot run) (sym e) is
      | inr e ↦ before s (let b : s < n + 1 = below in omega (arith, b, e))
    ]

-- a store that has it open has it open under this id
pub one-id : (layout : Layout) (snapshot : SnapshotView) (run : List Turn) (s id : ℕ)
    → slice_get snapshot.ids s ≡ Some id
    → IsOpenAt layout snapshot run s → stamp_of id (past_of layout s run) ≡ Some snapshot.stamp
one-id layout snapshot run s id is open' =
    let e : Some open'.0 ≡ Some id = sym open'.1.0 ∙ is in
    let same : open'.0 ≡ id = cc in
    ap (λ k. stamp_of k (past_of layout s run)) (sym same) ∙ open'.1.1

-- it is not open where there is no store
pub not-there : (layout : Layout) (kept : RangesView) (snapshot : SnapshotView) (run : List Turn) (s : ℕ)
    → Represents layout kept run → nat_lt s (length kept.stores) ≡ false → IsOpenAt layout snapshot run s → ⊥
not-there layout kept snapshot run s h out open' =
    elim (cases_lt s (length kept.stores)) [
      | inl low ↦ (let e : false ≡ true = sym out ∙ lt-ltb s (length kept.stores) low in cc)
      | inr high ↦
          (let many : length kept.stores ≡ layout.stores = h.many in
          let past : length kept.stores ≤ s = high in
          let none : stamp_of open'.0 (past_of layout s run) ≡ None =
          ap (stamp_of open'.0) (past-none layout run s h.legal (omega arith)).1 in
          let e : None ≡ Some snapshot.stamp = sym none ∙ open'.1.1 in cc)
    ]

-- what was found of a store
pub id-open : (layout : Layout) (snapshot : SnapshotView) (run : List Turn) (s : ℕ) (found : Option ℕ)
    → MatchOption found (IsOpenAt layout snapshot run s → ⊥) (IsIdAt layout snapshot run s) → is_some found ≡ true
    → IsOpenAt layout snapshot run s
id-open layout snapshot run s None is some = absurd (cc)
id-open layout snapshot run s (Some id) is some = (id, is)

pub id-shut : (layout : Layout) (snapshot : SnapshotView) (run : List Turn) (s : ℕ) (found : Option ℕ)
    → MatchOption found (IsOpenAt layout snapshot run s → ⊥) (IsIdAt layout snapshot run s) → is_some found ≡ false
    → IsOpenAt layout snapshot run s → ⊥
id-shut layout snapshot run s None is none = is
id-shut layout snapshot run s (Some id) is none = absurd (cc)

-- what a read says, where the snapshot is open
seen : {T E : Type 0} (result : Result T E) (o : Option ℕ) (at : ℕ) (P : ℕ → T → Type 0) → o ≡ Some at
    → MatchOption o (IsErr result) (λ stamp. IsOkAnd result (P stamp)) → IsOkAnd result (P at)
seen result o at P is read = subst (λ x. MatchOption x (IsErr result) (λ stamp. IsOkAnd result (P stamp))) is read

ok-of : {T E : Type 0} (result : Result T E) (P : T → Type 0) (Q : Type 0) → Q → IsOkAnd result P
    → IfOk result (λ value. Q × P value)
ok-of (Ok value) P Q q is = (q, is)
ok-of (Err fault) P Q q is = tt

no-error : {T E : Type 0} (result : Result T E) (P : T → Type 0) (Q : Type 0) → IsOkAnd result P → OnErr result Q
no-error (Ok value) P Q is = tt
no-error (Err fault) P Q is = absurd is

pub read-ok : {T E : Type 0} (result : Result T E) (o : Option ℕ) (at : ℕ) (P : ℕ → T → Type 0) (Q : Type 0)
    → o ≡ Some at → MatchOption o (IsErr result) (λ stamp. IsOkAnd result (P stamp)) → Q
    → IfOk result (λ value. Q × P at value)
read-ok result o at P Q is read q = ok-of result (P at) Q q (seen result o at P is read)

pub read-err : {T E : Type 0} (result : Result T E) (o : Option ℕ) (at : ℕ) (P : ℕ → T → Type 0) (Q : Type 0)
    → o ≡ Some at → MatchOption o (IsErr result) (λ stamp. IsOkAnd result (P stamp)) → OnErr result Q
read-err result o at P Q is read = no-error result (P at) Q (seen result o at P is read)
