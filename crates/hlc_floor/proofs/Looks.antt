-- One node after another is loaded: the least so far is that of the nodes loaded, since each load finds one more value,
-- and the values seen before do not change.
use Rattle.std.proofs.Common.{◌≡◌, ◌≢◌, ℕ, ◌+◌, ◌<◌, ◌≤◌, [], ◌∷◌, ◌++◌, min, sym, ap, ◌∙◌, subst, arith, slice_index}
use mathlib.Core.Logic.{dite}
use native.Mathlib.Decide.{ℕ_discrete, dec_le}
use Rattle.hlc_floor.specs.{Board.found_at, Views.FloorPassView, Views.LooksAt}

-- the first `node` nodes were loaded once, and least is the least of what was seen
pub record HasLooked (first now : FloorPassView) (node least : ℕ) : Type 0 where
  pub board : now.board ≡ first.board
  pub among : (k : ℕ) × (k < node) × (slice_index now.seen k ≡ least)
  pub below : (k : ℕ) → k < node → least ≤ slice_index now.seen k
  pub finds : (k : ℕ) → k < node → found_at now.found k ≡ found_at first.found k ++ slice_index now.seen k ∷ []
  pub waiting : (k : ℕ) → node ≤ k → found_at now.found k ≡ found_at first.found k
  pub rises : (k : ℕ) → slice_index first.seen k ≤ slice_index now.seen k

pub looks_next : (first before after : FloorPassView) (node least n : ℕ) → HasLooked first before node least
    → LooksAt node n before after
    → HasLooked first after (node + 1) (min least n)
looks_next first before after node least n h l =
    record {
      board = l.board ∙ h.board;
      among = among;
      below = λ k b. dite (ℕ_discrete k node)
          (λ (e : k ≡ node).
          subst (λ (j : ℕ). min least n ≤ slice_index after.seen j) (sym e) (let s = l.sees in omega arith))
          (λ (ne : k ≢ node). let s = l.seen_else k ne in let o = h.below k (omega arith) in omega arith);
      finds = λ k b. dite (ℕ_discrete k node)
          (λ (e : k ≡ node). subst
          (λ (j : ℕ). found_at after.found j ≡ found_at first.found j ++ slice_index after.seen j ∷ []) (sym e)
          (l.finds
          ∙ ap (λ f. f ++ n ∷ []) (h.waiting node (omega arith))
          ∙ ap (λ m. found_at first.found node ++ m ∷ []) (sym l.sees)))
          (λ (ne : k ≢ node).
          l.found_else k ne
          ∙ h.finds k (omega arith)
          ∙ ap (λ m. found_at first.found k ++ m ∷ []) (sym (l.seen_else k ne)));
      waiting = λ k b. l.found_else k (λ e. omega arith) ∙ h.waiting k (omega arith);
      rises = λ k. dite (ℕ_discrete k node)
          (λ (e : k ≡ node). subst (λ (j : ℕ). slice_index first.seen j ≤ slice_index after.seen j) (sym e)
          (let s = l.sees in let r = l.rises in let o = h.rises node in omega arith))
          (λ (ne : k ≢ node). let s = l.seen_else k ne in let o = h.rises k in omega arith);
    }
  where
    among : (k : ℕ) × (k < node + 1) × (slice_index after.seen k ≡ min least n)
    among = dite (dec_le least n)
        (λ (le : least ≤ n).
        let k = h.among.0 in
        let s = l.seen_else k (λ e. let b = h.among.1 in omega arith) in
        (k, (let b = h.among.1 in omega arith), (let v = h.among.2 in omega arith)))
        (λ (gt : ¬ (least ≤ n)). (node, omega arith, (let s = l.sees in omega arith)))
