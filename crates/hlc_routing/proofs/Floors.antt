-- The least floor of the stores so far, and of all.
use Rattle.std.proofs.Common.{◌≡◌, ℕ, ◌+◌, ◌<◌, ◌≤◌, List, length, Some, min, ap, sym, ◌∙◌, inl, inr, arith, slice_get}
use Rattle.std.proofs.lemmas.{Bool.cases_eq, Bool.cases_lt, Option.slice_get_within}
use Rattle.hlc_core.specs.{Past.Step, Past.floor, Checkpoint.floor_in}
use Rattle.hlc_core.specs.StoreView.{StoreView, Represents as CoreRepresents}
use Rattle.hlc_ranges.specs.{Run.Layout, Run.Turn, Run.past_of, Cut.IsCut}
use Rattle.hlc_routing.specs.Ranges.{RangesView, Represents, IsFloorOfOne, IsLeastFloor}
use Rattle.hlc_routing.proofs.Stepping.{some-same}

-- the stamp is the floor of every past that the store represents
abbrev pub IsFloorOf : StoreView → ℕ → Type 0
IsFloorOf store stamp = (past : List Step) → CoreRepresents store past → stamp ≡ floor past

-- no floor of the first stores is below the least one, which is that of one of them
pub record IsLeastTo (kept : RangesView) (index least : ℕ) : Type 0 where
  pub low : (s : ℕ) (store : StoreView) → s < index → slice_get kept.stores s ≡ Some store → least ≤ floor_in store
  pub one : IsFloorOfOne kept.stores least
  pub cut : (layout : Layout) (run : List Turn) → Represents layout kept run → (s : ℕ) → s < index
      → least ≤ floor (past_of layout s run)

floor-is : (layout : Layout) (kept : RangesView) (run : List Turn) (s : ℕ) (store : StoreView) (stamp : ℕ)
    → Represents layout kept run → slice_get kept.stores s ≡ Some store → IsFloorOf store stamp
    → stamp ≡ floor (past_of layout s run)
floor-is layout kept run s store stamp h at is =
    is (past_of layout s run) (h.pasts s store at)

pub next : (kept : RangesView) (index least stamp : ℕ) (store : StoreView) → IsLeastTo kept index least
    → slice_get kept.stores index ≡ Some store → stamp ≡ floor_in store → IsFloorOf store stamp
    → IsLeastTo kept (index + 1) (min least stamp)
next kept index least stamp store h at value is = record {
  low = λ s other below there.
      elim (cases_eq s index) [
        | inl e ↦
            (let same : store ≡ other =
            some-same store other (sym at ∙ ap (slice_get kept.stores) (sym e) ∙ there) in
            let f : stamp ≡ floor_in other = value ∙ ap floor_in same in omega arith)
        | inr e ↦
            (let b : s < index + 1 = below in
            let old : least ≤ floor_in other = h.low s other (omega (arith, b, e)) there in omega arith)
      ];
  one =
      elim (cases_lt stamp least) [
        | inl lower ↦ (let l : stamp < least = lower in
            let f : min least stamp ≡ stamp = omega arith in (index, store, at, f ∙ value))
        | inr not ↦ (let l : least ≤ stamp = not in
            let f : min least stamp ≡ least = omega arith in
            (h.one.0, h.one.1, h.one.2, f ∙ h.one.3))
      ];
  cut = λ layout run represents s below.
      elim (cases_eq s index) [
        | inl e ↦
            (let f : stamp ≡ floor (past_of layout s run) =
            floor-is layout kept run index store stamp represents at is
            ∙ ap (λ k. floor (past_of layout k run)) (sym e) in omega arith)
        | inr e ↦
            (let b : s < index + 1 = below in
            let old : least ≤ floor (past_of layout s run) =
            h.cut layout run represents s (omega (arith, b, e)) in omega arith)
      ];
}

pub first : (kept : RangesView) (stamp : ℕ) (store : StoreView) → slice_get kept.stores 0 ≡ Some store
    → stamp ≡ floor_in store → IsFloorOf store stamp → IsLeastTo kept 1 stamp
first kept stamp store at value is = record {
  low = λ s other below there.
      (let b : s < 1 = below in
      let e : s ≡ 0 = omega arith in
      let same : store ≡ other =
      some-same store other (sym at ∙ ap (slice_get kept.stores) (sym e) ∙ there) in
      let f : stamp ≡ floor_in other = value ∙ ap floor_in same in omega arith);
  one = (0, store, at, value);
  cut = λ layout run represents s below.
      (let b : s < 1 = below in
      let e : s ≡ 0 = omega arith in
      let f : stamp ≡ floor (past_of layout s run) =
      floor-is layout kept run 0 store stamp represents at is
      ∙ ap (λ k. floor (past_of layout k run)) (sym e) in omega arith);
}

pub least : (kept : RangesView) (index stamp : ℕ) → length kept.stores ≤ index → IsLeastTo kept index stamp
    → IsLeastFloor kept.stores stamp
least kept index stamp all' h = record {
  low = λ s store there.
      (let l : s < length kept.stores = slice_get_within kept.stores s store there in
      h.low s store (omega (arith, l, all')) there);
  one = h.one;
}

pub is-cut : (kept : RangesView) (index stamp : ℕ) → length kept.stores ≤ index → IsLeastTo kept index stamp
    → (layout : Layout) (run : List Turn) → Represents layout kept run → IsCut layout run stamp
is-cut kept index stamp all' h layout run represents = λ s within.
    let w : s < layout.stores = within in
    let many : length kept.stores ≡ layout.stores = represents.many in
    h.cut layout run represents s (omega (arith, w, many, all'))
