-- Checkpoints of the stores, one after another.
use Rattle.std.proofs.Common.{◌≡◌, ℕ, ◌+◌, ◌<◌, ◌≤◌, List, [], ◌∷◌, ◌++◌, length, Some, ap, sym, ◌∙◌, subst, inl, inr}
use Rattle.std.proofs.Common.{arith, length-append}
use Rattle.std.{specs.Prelude.slice_get, proofs.lemmas.Bool.cases_lt, proofs.lemmas.Option.slice_get_within}
use Rattle.hlc_core.specs.{Past.Step, Checkpoint.IsCheckpointOf}
use Rattle.hlc_core.specs.StoreView.{StoreView, Represents as CoreRepresents}
use Rattle.hlc_ranges.specs.Run.{Layout, Turn, past_of}
use Rattle.hlc_routing.specs.{Ranges.RangesView, Ranges.Represents, All.AreCheckpoints}
use Rattle.hlc_routing.proofs.Stepping.{get-some, get-push_before, get-push_here, some-same}

-- the checkpoint is the store's, and represents what the store does
pub record IsCopied (store checkpoint : StoreView) : Type 0 where
  pub kept : IsCheckpointOf store checkpoint
  pub represents : (past : List Step) → CoreRepresents store past → CoreRepresents checkpoint past

-- the checkpoints of the first stores
pub record AreCopied (stores made : List StoreView) (n : ℕ) : Type 0 where
  pub many : length made ≡ n
  pub each : (s : ℕ) (store checkpoint : StoreView) → slice_get stores s ≡ Some store
      → slice_get made s ≡ Some checkpoint → IsCopied store checkpoint

pub none-copied : (stores made : List StoreView) → made ≡ [] → AreCopied stores made 0
none-copied stores made none = record {
  many = ap length none;
  each = λ s store checkpoint there is.
      absurd (let within : s < length made = slice_get_within made s checkpoint is in
      let few : length made ≡ 0 = ap length none in omega arith);
}

pub one-copied : (stores made : List StoreView) (n : ℕ) (store checkpoint : StoreView) → AreCopied stores made n
    → slice_get stores n ≡ Some store → IsCopied store checkpoint
    → AreCopied stores (made ++ checkpoint ∷ []) (n + 1)
one-copied stores made n store checkpoint h at one =
    let many : length made ≡ n = h.many in
    record {
      many = length-append made (checkpoint ∷ []) ∙ ap (λ k. k + 1) many;
      each = λ s other copy there is.
          let within : s < length (made ++ checkpoint ∷ []) = slice_get_within (made ++ checkpoint ∷ []) s copy is in
          let long : length (made ++ checkpoint ∷ []) ≡ length made + 1 = length-append made (checkpoint ∷ []) in
          elim (cases_lt s (length made)) [
            | inl low ↦ h.each s other copy there (sym (get-push_before made checkpoint s low) ∙ is)
            | inr high ↦
                (let l : length made ≤ s = high in
                let last : length made ≡ s = omega arith in
                let same : checkpoint ≡ copy = some-same checkpoint copy
                (sym (get-push_here made checkpoint s last) ∙ is) in
                let same_store : store ≡ other = some-same store other
                (sym at ∙ ap (slice_get stores) (sym many ∙ last) ∙ there) in
                subst (λ (x : StoreView). IsCopied x copy) same_store
                (subst (λ (x : StoreView). IsCopied store x) same one))
          ];
    }

pub all-kept : (stores made : List StoreView) → AreCopied stores made (length stores) → AreCheckpoints stores made
all-kept stores made h = record {
  many = h.many;
  each = λ s store checkpoint there is. (h.each s store checkpoint there is).kept;
}

-- together they represent the run of the stores
pub all-copied : (layout : Layout) (kept : RangesView) (made : List StoreView) (run : List Turn)
    → AreCopied kept.stores made (length kept.stores) → Represents layout kept run
    → Represents layout (record { division = kept.division; stores = made }) run
all-copied layout kept made run h represents =
    let store-at = λ (s : ℕ) (copy : StoreView) (is : slice_get made s ≡ Some copy).
    get-some kept.stores s (let within : s < length made = slice_get_within made s copy is in
    let many : length made ≡ length kept.stores = h.many in omega arith) in
    record {
      legal = represents.legal;
      many = h.many ∙ represents.many;
      pasts = λ s copy is.
          let store = store-at s copy is in
          (h.each s store.0 copy store.1 is).represents (past_of layout s run) (represents.pasts s store.0 store.1);
      routed = represents.routed;
    }
