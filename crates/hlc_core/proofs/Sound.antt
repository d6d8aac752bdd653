-- A core remains sound: it has its nodes and links of them with possible progress; the top is the greatest head, the
-- horizon is not above the floor, and an item may write each row.
use Rattle.std.proofs.Common.{◌≡◌, ℕ, zero, suc, ◌+◌, ◌<◌, ◌≤◌, List, [], ◌∷◌, ◌++◌, length, max, get_or, Bool, None}
use Rattle.std.proofs.Common.{refl, ap, sym, ◌∙◌, arith, length-set, length-append, replicate, IsPermutation, false}
use Rattle.std.specs.Prelude.{Contains, slice_set}
use Rattle.std.proofs.lemmas.List.{length-replicate, Sorted.All-permutation}
use Rattle.std.proofs.lemmas.List.Elements.{All-nil, All-weaker, All-contains, All-contains_itself, All-set, All-push}
use Rattle.hlc_rows.specs.declared.row.Row.{Row}
use Rattle.hlc_node.specs.{declared.item.Body.Body, Items.body_refusal}
use Rattle.hlc_intake.specs.IntakeView.{IntakeView}
use Rattle.hlc_heads.specs.Heads.{HeadsView, a_link, no_link, link_at, floor_of, advanced, joined}
use Rattle.hlc_heads.specs.declared.heads.TheConstants.{MAX_INITIAL_NODES, MAX_NODES}
use Rattle.hlc_witness.specs.Cost.{IsInLimits}
use Rattle.hlc_core.specs.Past.{body_rows}
use Rattle.hlc_core.specs.StoreView.{HasStamps, HasLastItem, IsSound, greatest_head, marks_of}
use Rattle.hlc_core.proofs.{PastLemmas.limits-body, Consistent.floor-advanced, Consistent.floor-joined}

pub greatest-le : (links : List IntakeView) (most : ℕ)
    → ((k : ℕ) (d : IntakeView) → k < length links → (get_or links k d).head ≤ most) → greatest_head links ≤ most
greatest-le [] most low = omega arith
greatest-le (link ∷ links) most low =
    let a : link.head ≤ most = low 0 link (omega arith) in
    let b : greatest_head links ≤ most = greatest-le links most (λ k d lt. low (suc k) d (omega arith)) in
    omega arith

greatest-new : (n : ℕ) → greatest_head (replicate n (a_link 0 0 false)) ≡ 0
greatest-new zero = refl
greatest-new (suc n) =
    (let h : greatest_head (replicate n (a_link 0 0 false)) ≡ 0 = greatest-new n in omega arith)

greatest-set : (links : List IntakeView) (n next stamp : ℕ) (has_retired : Bool) (d : IntakeView) → n < length links
    → (get_or links n d).head ≤ stamp
    → greatest_head (slice_set links n (a_link next stamp has_retired)) ≡ max (greatest_head links) stamp
greatest-set [] n next stamp has_retired d lt low = absurd (omega arith)
greatest-set (link ∷ links) zero next stamp has_retired d lt low = (let h : link.head ≤ stamp = low in omega arith)
greatest-set (link ∷ links) (suc n) next stamp has_retired d lt low =
    (let h : greatest_head (slice_set links n (a_link next stamp has_retired)) ≡ max (greatest_head links) stamp =
    greatest-set links n next stamp has_retired d (omega arith) low in omega arith)

greatest-joined : (links : List IntakeView) (link : IntakeView)
    → greatest_head (links ++ link ∷ []) ≡ max (greatest_head links) link.head
greatest-joined [] link = omega arith
greatest-joined (first ∷ links) link =
    (let h : greatest_head (links ++ link ∷ []) ≡ max (greatest_head links) link.head = greatest-joined links link in
    omega arith)

all-new : (P : IntakeView → Type 0) (n : ℕ) (link : IntakeView) → P link → (k : ℕ) (d : IntakeView)
    → k < length (replicate n link) → P (get_or (replicate n link) k d)
all-new P zero link one k d lt = absurd (omega arith)
all-new P (suc n) link one zero d lt = one
all-new P (suc n) link one (suc k) d lt = all-new P n link one k d (omega arith)

pub sound-new : (nodes : ℕ) → 0 < nodes → nodes ≤ MAX_INITIAL_NODES
    → IsSound nodes (replicate nodes (a_link 0 0 false)) 0 0 []
sound-new nodes some few =
    let l : length (replicate nodes (a_link 0 0 false)) ≡ nodes = length-replicate nodes (a_link 0 0 false) in
    record {
      nodes = record { some = some; few = few; linked = omega arith; bounded = omega arith };
      stamps = all-new HasStamps nodes (a_link 0 0 false) (omega arith);
      last = all-new HasLastItem nodes (a_link 0 0 false) (λ has_retired. absurd cc);
      top = sym (greatest-new nodes);
      horizon = omega arith;
      limits = All-nil _;
    }

-- an item above its node's head is accepted
pub sound-accept : (nodes : ℕ) (marks : HeadsView) (horizon : ℕ) (rows : List Row) (node number stamp : ℕ) (body : Body)
    (last : Bool) → IsSound nodes marks.links marks.top horizon rows → node < length marks.links
    → (link_at marks.links node).retired ≡ false → number ≡ (link_at marks.links node).next
    → (link_at marks.links node).head < stamp → body_refusal body ≡ None
    → IsSound nodes (slice_set marks.links node (a_link (number + 1) stamp last)) (max marks.top stamp) horizon
    (rows ++ body_rows node stamp body)
sound-accept nodes marks horizon rows node number stamp body last h within here next up limits =
    let links : List IntakeView = marks.links in
    let link : IntakeView = a_link (number + 1) stamp last in
    let low : (link_at links node).next ≤ (link_at links node).head = h.stamps node no_link within in
    let l : length (slice_set links node link) ≡ length links = length-set links node link in
    let old : horizon ≤ floor_of marks = h.horizon in
    let rise : floor_of marks ≤ floor_of (advanced marks node link) = floor-advanced marks node link within here up in
    record {
      nodes = record {
        some = h.nodes.some;
        few = h.nodes.few;
        linked = (let g = h.nodes.linked in omega (arith, g));
        bounded = (let g = h.nodes.bounded in omega (arith, g));
      };
      stamps = All-set HasStamps links node link (omega arith) h.stamps;
      last = All-set HasLastItem links node link (λ has_retired. omega arith) h.last;
      top = ap (λ t. max t stamp) h.top
          ∙ sym (greatest-set links node (number + 1) stamp last no_link within (omega arith));
      horizon = omega (arith, old, rise);
      limits = limits-body node stamp body rows limits h.limits;
    }

-- its rows are put into another order
pub sound-moved : (nodes : ℕ) (links : List IntakeView) (top horizon : ℕ) (rows moved : List Row)
    → IsSound nodes links top horizon rows → IsPermutation rows moved → IsSound nodes links top horizon moved
sound-moved nodes links top horizon rows moved h moves = record {
  nodes = h.nodes;
  stamps = h.stamps;
  last = h.last;
  top = h.top;
  horizon = h.horizon;
  limits = All-permutation IsInLimits rows moved moves h.limits;
}

-- a node joins, not below the floor
pub sound-joined : (nodes : ℕ) (marks : HeadsView) (horizon at : ℕ) (rows : List Row)
    → IsSound nodes marks.links marks.top horizon rows → length marks.links < MAX_NODES → floor_of marks ≤ at
    → IsSound nodes (marks.links ++ a_link 0 at false ∷ []) (max marks.top at) horizon rows
sound-joined nodes marks horizon at rows h few up =
    let links : List IntakeView = marks.links in
    let link : IntakeView = a_link 0 at false in
    let l : length (links ++ link ∷ []) ≡ length links + 1 = length-append links (link ∷ []) in
    let old : horizon ≤ floor_of marks = h.horizon in
    let stay : floor_of marks ≤ floor_of (joined marks at) = floor-joined marks at up in
    record {
      nodes = record {
        some = h.nodes.some;
        few = h.nodes.few;
        linked = (let g = h.nodes.linked in omega (arith, g));
        bounded = omega arith;
      };
      stamps = All-push HasStamps links link h.stamps (omega arith);
      last = All-push HasLastItem links link h.last (λ has_retired. absurd cc);
      top = ap (λ t. max t at) h.top ∙ sym (greatest-joined links link);
      horizon = omega (arith, old, stay);
      limits = h.limits;
    }

-- rows are dropped up to a stamp that is not above the floor
pub sound-vacuum : (nodes : ℕ) (links : List IntakeView) (top horizon at : ℕ) (rows fewer : List Row)
    → IsSound nodes links top horizon rows → at ≤ floor_of (marks_of links top)
    → ((row : Row) → Contains fewer row → Contains rows row) → IsSound nodes links top at fewer
sound-vacuum nodes links top horizon at rows fewer h low within =
    record {
      nodes = h.nodes;
      stamps = h.stamps;
      last = h.last;
      top = h.top;
      horizon = low;
      limits = All-weaker (Contains fewer) IsInLimits
          (λ row m. All-contains IsInLimits rows row h.limits (within row m)) fewer (All-contains_itself fewer);
    }
