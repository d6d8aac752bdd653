-- One link of a store: its accepted items are its first ones, and all others are above its head.
use Rattle.std.proofs.Common.{◌≡◌, ℕ, Bool, false, ◌+◌, ◌<◌, ◌≤◌, List, [], ◌∷◌, ◌++◌, length, refl, ap, sym, ◌∙◌}
use Rattle.std.proofs.Common.{subst, inl, inr, arith, append_assoc}
use Rattle.std.{specs.Prelude.Contains, proofs.lemmas.List.Elements.Contains-append_left}
use Rattle.hlc_values.proofs.MemberLemmas.{Contains-none, Contains-cons_cases}
use Rattle.hlc_node.specs.declared.item.Item.{Item}
use Rattle.hlc_ranges.{specs.Run.ends_with, proofs.Chains.IsChain, proofs.Chains.chain-next, proofs.Chains.chain-rises}

-- the issued items of a node, the last one first, and what the store accepted of them
pub record IsLink (base : ℕ) (ended : Bool) (last many n : ℕ) (items taken : List Item) (top : ℕ) : Type 0 where
  pub later : List Item
  pub is : items ≡ later ++ taken
  pub chain : IsChain base ended items
  pub low : (item : Item) → Contains items item → item.stamp ≤ last
  pub ahead : (item : Item) → Contains later item → top < item.stamp
  pub top_low : top ≤ last
  pub inside : (item : Item) → Contains items item → n < many

-- a link of no item of the run
pub link-begins : (base : ℕ) (ended : Bool) (last many n top : ℕ) → top ≤ last → IsLink base ended last many n [] [] top
link-begins base ended last many n top low = record {
  later = [];
  is = refl;
  chain = tt;
  low = λ item m. absurd (Contains-none item m);
  ahead = λ item m. absurd (Contains-none item m);
  top_low = low;
  inside = λ item m. absurd (Contains-none item m);
}

-- it stays one while the clock rises
pub link-rises : (base : ℕ) (ended : Bool) (last last' many n : ℕ) (items taken : List Item) (top : ℕ) → last ≤ last'
    → IsLink base ended last many n items taken top → IsLink base ended last' many n items taken top
link-rises base ended last last' many n items taken top up h = record {
  later = h.later;
  is = h.is;
  chain = h.chain;
  low = λ item m. (let l : item.stamp ≤ last = h.low item m in omega arith);
  ahead = h.ahead;
  top_low = (let l : top ≤ last = h.top_low in omega arith);
  inside = h.inside;
}

-- and when the node issues an item
pub link-issue : (base : ℕ) (ended : Bool) (last many n : ℕ) (items taken : List Item) (top : ℕ) (item : Item)
    → IsLink base ended last many n items taken top → n < many → ends_with ended items ≡ false
    → item.number ≡ base + length items → last < item.stamp
    → IsLink base ended item.stamp many n (item ∷ items) taken top
link-issue base ended last many n items taken top item h within open' number up =
    let low : (other : Item) → Contains items other → other.stamp < item.stamp =
    λ other m. (let l : other.stamp ≤ last = h.low other m in omega arith) in
    let t : top ≤ last = h.top_low in
    record {
      later = item ∷ h.later;
      is = ap (λ xs. item ∷ xs) h.is;
      chain = (number, low, open', h.chain);
      low = λ other m.
          elim (Contains-cons_cases item other items m) [
            | inl same ↦ (let e : item.stamp ≡ other.stamp = ap (λ x. x.stamp) same in omega arith)
            | inr old ↦ (let l : other.stamp < item.stamp = low other old in omega arith)
          ];
      ahead = λ other m.
          elim (Contains-cons_cases item other h.later m) [
            | inl same ↦ (let e : item.stamp ≡ other.stamp = ap (λ x. x.stamp) same in omega arith)
            | inr old ↦ h.ahead other old
          ];
      top_low = omega arith;
      inside = λ other m. within;
    }

-- and when the store accepts its next item
pub link-took : (base : ℕ) (ended : Bool) (last many n : ℕ) (items taken : List Item) (top : ℕ) (item : Item)
    → IsLink base ended last many n items taken top → Contains items item → item.number ≡ base + length taken
    → IsLink base ended last many n items (item ∷ taken) item.stamp
link-took base ended last many n items taken top item h m number =
    let chain' : IsChain base ended (h.later ++ taken) = subst (IsChain base ended) h.is h.chain in
    let m' : Contains (h.later ++ taken) item = subst (λ xs. Contains xs item) h.is m in
    let next = chain-next base ended h.later taken item chain' m' number in
    let rest : List Item = next.0 in
    let is' : items ≡ rest ++ (item ∷ taken) =
    h.is ∙ ap (λ xs. xs ++ taken) next.1 ∙ append_assoc rest (item ∷ []) taken in
    record {
      later = rest;
      is = is';
      chain = h.chain;
      low = h.low;
      ahead = λ other k. chain-rises base ended rest taken item other (subst (IsChain base ended) is' h.chain) k;
      top_low = h.low item m;
      inside = h.inside;
    }

-- and when a node joins
pub link-more : (base : ℕ) (ended : Bool) (last many many' n : ℕ) (items taken : List Item) (top : ℕ) → many ≤ many'
    → IsLink base ended last many n items taken top → IsLink base ended last many' n items taken top
link-more base ended last many many' n items taken top up h = record {
  later = h.later;
  is = h.is;
  chain = h.chain;
  low = h.low;
  ahead = h.ahead;
  top_low = h.top_low;
  inside = λ item m. (let l : n < many = h.inside item m in omega arith);
}

-- the node that joins has issued nothing, and starts at a stamp that its clock has reached
pub link-start : (base : ℕ) (ended : Bool) (last many n : ℕ) (items taken : List Item) (top start : ℕ) → n ≡ many
    → start ≤ last → IsLink base ended last many n items taken top
    → IsLink base ended last (many + 1) n items taken start
link-start base ended last many n items taken top start is up h = record {
  later = h.later;
  is = h.is;
  chain = h.chain;
  low = h.low;
  ahead = λ item m. absurd (let l : n < many =
      h.inside item (subst (λ xs. Contains xs item) (sym h.is)
      (Contains-append_left h.later taken item m)) in omega arith);
  top_low = up;
  inside = λ item m. omega arith;
}
