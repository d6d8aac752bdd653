-- A machine made of nodes that just joined all stores is the run's: none of its nodes has issued an item, and its clock
-- is at or above their starts.
use Rattle.std.proofs.Common.{◌≡◌, ℕ, zero, suc, ◌+◌, ◌<◌, ◌≤◌, List, [], ◌∷◌, length, max, Some, refl, ap, sym, ◌∙◌}
use Rattle.std.proofs.Common.{subst, inl, inr, arith, slice_get, eq-eqb, ne_eqb}
use Rattle.std.proofs.lemmas.{Bool.cases_eq, Bool.cond-true, Bool.cond-false, Option.slice_get_within}
use Rattle.hlc_node.specs.Node.{NodeView}
use Rattle.hlc_core.specs.Past.{Step, count, retired, numbered}
use Rattle.hlc_core.proofs.PastLemmas.{fresh as fresh-node}
use Rattle.hlc_ranges.specs.Run.{Layout, Turn, Issued, Sent, Received, Observed, Stepped, past_of, issued, last_stamp}
use Rattle.hlc_ranges.specs.Run.{raised_by, ends_with, IsLegal}
use Rattle.hlc_ranges.proofs.TurnLemmas.{can-begin}
use Rattle.hlc_routing.specs.All.{each_stepped, join_step, next_join, AreJoins}
use Rattle.hlc_routing.specs.Machine.{MachineView, IsMachineOf, IsNewMachine}
use Rattle.hlc_routing.proofs.{Stepping.some-same, Stepping.numbered-legal, Stepping.numbered-later, Each.past-within}

-- a node that has not joined yet has issued nothing
issued-none : (layout : Layout) (run : List Turn) (s n : ℕ) → IsLegal layout run
    → numbered (past_of layout s run) ≤ n → issued s n run ≡ []
issued-none layout [] s n legal above = refl
issued-none layout (Sent m stamp ∷ run) s n legal above = issued-none layout run s n legal.1 above
issued-none layout (Received m message stamp ∷ run) s n legal above = issued-none layout run s n legal.1 above
issued-none layout (Observed m t at stamp ∷ run) s n legal above = issued-none layout run s n legal.1 above
issued-none layout (Issued t item ∷ run) s n legal above =
    elim (cases_eq t s) [
      | inr other ↦ cond-false _ _ _ (ne_eqb t s other) ∙ issued-none layout run s n legal.1 above
      | inl same ↦
          let low : item.node < numbered (past_of layout t run) = legal.0.1 in
          let low' : item.node < numbered (past_of layout s run) =
          subst (λ k. item.node < numbered (past_of layout k run)) same low in
          cond-true _ _ _ (eq-eqb t s same)
          ∙ cond-false _ _ _ (ne_eqb item.node n (λ e. absurd (omega (arith, e, low', above))))
          ∙ issued-none layout run s n legal.1 above
    ]
issued-none layout (Stepped t step ∷ run) s n legal above =
    let many : numbered (past_of layout s (Stepped t step ∷ run)) ≤ n = above in
    let grows : numbered (past_of layout s run) ≤ numbered (past_of layout s (Stepped t step ∷ run)) =
    numbered-later layout run t s step (numbered-legal step (past_of layout t run) legal.0.1) in
    issued-none layout run s n legal.1 (omega arith)

-- a store has at least the node numbers that it began with
numbered-from : (layout : Layout) (run : List Turn) (s : ℕ) → IsLegal layout run
    → numbered (layout.begun s) ≤ numbered (past_of layout s run)
numbered-from layout [] s legal = omega arith
numbered-from layout (Sent m stamp ∷ run) s legal = numbered-from layout run s legal.1
numbered-from layout (Received m message stamp ∷ run) s legal = numbered-from layout run s legal.1
numbered-from layout (Observed m t at stamp ∷ run) s legal = numbered-from layout run s legal.1
numbered-from layout (Issued t item ∷ run) s legal = numbered-from layout run s legal.1
numbered-from layout (Stepped t step ∷ run) s legal =
    let before : numbered (layout.begun s) ≤ numbered (past_of layout s run) = numbered-from layout run s legal.1 in
    let grows : numbered (past_of layout s run) ≤ numbered (past_of layout s (Stepped t step ∷ run)) =
    numbered-later layout run t s step (numbered-legal step (past_of layout t run) legal.0.1) in omega arith

-- steps issue nothing
issued-stepped : (step : ℕ → Step) (k s n : ℕ) (run : List Turn)
    → issued s n (each_stepped step k run) ≡ issued s n run
issued-stepped step zero s n run = refl
issued-stepped step (suc k) s n run = issued-stepped step k s n run

raised-low : (m : ℕ) (mark : ℕ × ℕ) (before last : ℕ) → before ≤ last → mark.1 ≤ last
    → raised_by m (Some mark) before ≤ last
raised-low m mark before last low start =
    elim (cases_eq mark.0 m) [
      | inl e ↦ (let is : raised_by m (Some mark) before ≡ max before mark.1 = cond-true _ _ _ (eq-eqb mark.0 m e) in
          omega (arith, is, low, start))
      | inr other ↦ (let is : raised_by m (Some mark) before ≡ before = cond-false _ _ _ (ne_eqb mark.0 m other) in
          omega (arith, is, low))
    ]

-- the clock of a machine after the joins is at most a stamp that it and the starts were at most
clock-low : (layout : Layout) (run : List Turn) (m k last : ℕ) → last_stamp layout m run ≤ last
    → ((s : ℕ) → s < k → (next_join layout run s).1 ≤ last)
    → last_stamp layout m (each_stepped (join_step layout run) k run) ≤ last
clock-low layout run m zero last low starts = low
clock-low layout run m (suc k) last low starts =
    raised-low m (layout.machine k (next_join layout run k).0, (next_join layout run k).1)
    (last_stamp layout m (each_stepped (join_step layout run) k run)) last
    (clock-low layout run m k last low (λ s below. starts s (let b : s < k = below in omega (arith, b))))
    (starts k (omega arith))

pub new-machine : (layout : Layout) (run : List Turn) (m : ℕ) (made : List (ℕ × ℕ)) (machine : MachineView)
    → IsLegal layout run → AreJoins layout run made layout.stores → IsNewMachine made machine
    → ((s : ℕ) → s < layout.stores → layout.machine s (next_join layout run s).0 ≡ m)
    → last_stamp layout m run ≤ machine.last
    → IsMachineOf layout (each_stepped (join_step layout run) layout.stores run) m machine
new-machine layout run m made machine legal joins new on low =
    let step : ℕ → Step = join_step layout run in
    let after : List Turn = each_stepped step layout.stores run in
    let many : length machine.nodes ≡ layout.stores = new.many ∙ joins.many in
    let number : (s : ℕ) (node : NodeView) → slice_get machine.nodes s ≡ Some node
    → (s < layout.stores) × (node.id ≡ (next_join layout run s).0) =
    λ s node there.
    let within : s < length machine.nodes = slice_get_within machine.nodes s node there in
    let inside : s < layout.stores = omega (arith, within, many) in
    let fresh = new.fresh s node there in
    let same : fresh.0 ≡ next_join layout run s =
    some-same fresh.0 (next_join layout run s) (sym fresh.1 ∙ joins.each s inside) in
    (inside, fresh.2.id ∙ ap (λ (j : ℕ × ℕ). j.0) same) in
    record {
      many = many;
      nodes = λ s node there.
          let is = number s node there in
          let fresh = new.fresh s node there in
          let none : issued s node.id after ≡ [] =
          issued-stepped step layout.stores s node.id run
          ∙ issued-none layout run s node.id legal (let e : node.id ≡ (next_join layout run s).0 = is.1 in
          omega (arith, e)) in
          let past : past_of layout s after ≡ step s ∷ past_of layout s run =
          past-within layout step layout.stores s run is.0 in
          let grown = numbered-from layout run s legal in
          let unused = fresh-node (layout.begun s) node.id ((can-begin layout run legal).legal s)
          (let e : node.id ≡ (next_join layout run s).0 = is.1 in omega (arith, e, grown)) in
          record {
            inside = subst (λ p. node.id < numbered p) (sym past)
                (let e : node.id ≡ (next_join layout run s).0 = is.1 in omega (arith, e));
            next =
                (let zero' : node.next ≡ 0 = fresh.2.next in
                let base : count node.id (layout.begun s) ≡ 0 = unused.0 in
                let empty : length (issued s node.id after) ≡ 0 = ap length none in
                let goal : node.next ≡ count node.id (layout.begun s) + length (issued s node.id after) = omega arith in
                goal);
            retired = fresh.2.retired ∙ sym (ap (ends_with (retired node.id (layout.begun s))) none ∙ unused.1);
          };
      machines = λ s node there.
          let is = number s node there in ap (layout.machine s) is.1 ∙ on s is.0;
      clock = clock-low layout run m layout.stores machine.last low (λ s inside.
          new.clock s (next_join layout run s) (joins.each s inside));
    }
