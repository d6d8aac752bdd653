-- What the events of a machine do to a run.
use Rattle.std.proofs.Common.{◌≡◌, ℕ, ◌+◌, ◌<◌, ◌≤◌, List, [], ◌∷◌, ◌++◌, length, max, set, Some, None, Option, Ok, Err}
use Rattle.std.proofs.Common.{Result, refl, ap, sym, ◌∙◌, subst, inl, inr, arith, length-set}
use Rattle.std.specs.{Prelude.slice_get, Prelude.IfOk, Prelude.◌≢◌, Option.option_map}
use Rattle.std.proofs.lemmas.Bool.{cases_eq, cond-true, cond-false, eq-eqb, ne_eqb}
use Rattle.std.proofs.lemmas.{Option.slice_get_within, List.Elements.All-head, List.Elements.All-tail}
use Rattle.hlc_clock.specs.{NextStamp.IsClockAnswer, declared.clock.ClockFault.ClockFault}
use Rattle.hlc_node.specs.Node.{NodeView, next_item, after_issue, expected_issue}
use Rattle.hlc_node.specs.declared.item.{Item.Item, Body.Body, Body.TheVariants.Report}
use Rattle.hlc_core.specs.{Past.Step, Past.count, Past.retired, Past.floor, Past.numbered, Replicas.begun}
use Rattle.hlc_ranges.specs.Run.{Layout, Turn, Issued, Sent, Received, Observed, past_of, issued, last_stamp, raised_by}
use Rattle.hlc_ranges.specs.Run.{Stepped, mark_of, start_of, turn_at, IsLegal, IsRouted, ends_with}
use Rattle.hlc_ranges.specs.Calls.{IsNodeOf, HasClock, Extends}
use Rattle.hlc_ranges.proofs.ExtendingLemmas.{node-extends, other-stays}
use Rattle.hlc_routing.specs.Machine.{MachineView, raised, acting, moved, Issues, Reports, IsMachineOf, GoesOn}
use Rattle.hlc_routing.specs.Machine.{issued_from, none, one}
use Rattle.hlc_routing.proofs.Stepping.{get-set_same, get-set_other, some-same, numbered-grows, numbered-later}

acts-some : (o : Option NodeView) (last : ℕ) (node : NodeView) → option_map (raised last) o ≡ Some node
    → (kept : NodeView) × (o ≡ Some kept) × (raised last kept ≡ node)
acts-some None last node e = absurd (cc)
acts-some (Some kept) last node e = (kept, refl, some-same (raised last kept) node e)

-- a node that acts is one of the machine's
pub acts-within : (machine : MachineView) (s : ℕ) (node : NodeView) → acting machine s ≡ Some node
    → s < length machine.nodes
acts-within machine s node acts =
    let kept = acts-some (slice_get machine.nodes s) machine.last node acts in
    slice_get_within machine.nodes s kept.0 kept.1

-- one of its nodes, raised, issued an item
issued-by : (layout : Layout) (run : List Turn) (m : ℕ) (old : MachineView) (s : ℕ) (kept : NodeView) (body : Body)
    (reading stamp : ℕ) → IsLegal layout run → IsMachineOf layout run m old → IsRouted layout s body
    → slice_get old.nodes s ≡ Some kept → expected_issue (raised old.last kept) body reading ≡ Ok stamp
    → (raised old.last kept).last < stamp
    → GoesOn layout (Issued s (next_item (raised old.last kept) body stamp)) run m
    (moved old s (after_issue (raised old.last kept) body stamp))
issued-by layout run m old s kept body reading stamp legal h routed at expected rises =
    let node : NodeView = raised old.last kept in
    let item : Item = next_item node body stamp in
    let after : NodeView = after_issue node body stamp in
    let is = h.nodes s kept at in
    let within : s < length old.nodes = slice_get_within old.nodes s kept at in
    let many : length old.nodes ≡ layout.stores = h.many in
    let inside : s < layout.stores = omega arith in
    let on : layout.machine s kept.id ≡ m = h.machines s kept at in
    let reached : last_stamp layout m run ≤ old.last = h.clock in
    let same_clock : last_stamp layout (layout.machine s kept.id) run ≡ last_stamp layout m run =
    ap (λ k. last_stamp layout k run) on in
    let is_node : IsNodeOf layout run s node =
    record { inside = is.inside; next = is.next; retired = is.retired } in
    let clock : HasClock layout run s node =
    (let goal : last_stamp layout (layout.machine s kept.id) run ≤ max kept.last old.last = omega arith in goal) in
    let made : Extends layout run s node body stamp =
    node-extends layout run s node body reading stamp legal inside is_node clock routed expected rises in
    let clock_is : last_stamp layout m (Issued s item ∷ run) ≡ stamp =
    ap (λ k. last_stamp layout k (Issued s item ∷ run)) (sym on) ∙ made.clock in (
      made.legal,
      record {
        many = length-set old.nodes s after ∙ many;
        nodes = λ t other there.
            elim (cases_eq s t) [
              | inl e ↦
                  (let same : after ≡ other = some-same after other
                  (sym (get-set_same old.nodes s after within) ∙ ap (slice_get (set old.nodes s after)) e ∙ there) in
                  subst (λ k. IsNodeOf layout (Issued s item ∷ run) k other) e
                  (subst (λ (x : NodeView). IsNodeOf layout (Issued s item ∷ run) s x) same made.after))
              | inr e ↦ other-stays layout run t s item other
                  (h.nodes t other (sym (get-set_other old.nodes s t after e) ∙ there)) (λ same _. e same)
            ];
        machines = λ t other there.
            elim (cases_eq s t) [
              | inl e ↦
                  (let same : after ≡ other = some-same after other
                  (sym (get-set_same old.nodes s after within) ∙ ap (slice_get (set old.nodes s after)) e ∙ there) in
                  ap (λ (x : NodeView). layout.machine t x.id) (sym same)
                  ∙ ap (λ k. layout.machine k kept.id) (sym e) ∙ on)
              | inr e ↦ h.machines t other (sym (get-set_other old.nodes s t after e) ∙ there)
            ];
        clock = omega (arith, clock_is);
      },
    )

-- an item that the machine issued extends the run
pub issue-goes_on : (layout : Layout) (run : List Turn) (m : ℕ) (old new : MachineView) (s : ℕ) (body : Body)
    (reading : ℕ) (item : Item) → IsLegal layout run → IsMachineOf layout run m old → IsRouted layout s body
    → Issues old new s body reading item → GoesOn layout (Issued s item) run m new
issue-goes_on layout run m old new s body reading item legal h routed issues =
    let kept = acts-some (slice_get old.nodes s) old.last issues.node issues.acts in
    let same : raised old.last kept.0 ≡ issues.node = kept.2 in
    let made = issued-by layout run m old s kept.0 body reading item.stamp legal h routed kept.1
    (subst (λ (x : NodeView). expected_issue x body reading ≡ Ok item.stamp) (sym same) issues.expected)
    (subst (λ (x : NodeView). x.last < item.stamp) (sym same) issues.rises) in
    subst (λ (x : MachineView). GoesOn layout (Issued s item) run m x) (sym issues.new_is)
    (subst (λ (x : Item). GoesOn layout (Issued s x) run m (moved old s (after_issue issues.node body item.stamp)))
    (sym issues.item_is)
    (subst (λ (x : NodeView). GoesOn layout (Issued s (next_item x body item.stamp)) run m
    (moved old s (after_issue x body item.stamp))) same made))

-- an event without an item, at the machine
marked : (layout : Layout) (run : List Turn) (m : ℕ) (old : MachineView) (turn : Turn) (stamp : ℕ)
    → IsMachineOf layout run m old → old.last < stamp
    → ((s : ℕ) → past_of layout s (turn ∷ run) ≡ past_of layout s run) → ((s n : ℕ)
    → issued s n (turn ∷ run) ≡ issued s n run)
    → mark_of layout turn ≡ Some (m, stamp) → IsMachineOf layout (turn ∷ run) m (record old { last = stamp })
marked layout run m old turn stamp h up pasts links mark =
    let reached : last_stamp layout m run ≤ old.last = h.clock in
    let raise : raised_by m (Some (m, stamp)) (last_stamp layout m run) ≡ max (last_stamp layout m run) stamp =
    cond-true _ _ _ (eq-eqb m m refl) in
    let clock_is : last_stamp layout m (turn ∷ run) ≡ max (last_stamp layout m run) stamp =
    ap (λ o. raised_by m o (last_stamp layout m run)) mark ∙ raise in
    record {
      many = h.many;
      nodes = λ s node there.
          let is = h.nodes s node there in
          record {
            inside = subst (λ past. node.id < numbered past) (sym (pasts s)) is.inside;
            next = is.next ∙ ap (λ xs. count node.id (layout.begun s) + length xs) (sym (links s node.id));
            retired = is.retired ∙ ap (ends_with (retired node.id (layout.begun s))) (sym (links s node.id));
          };
      machines = h.machines;
      clock = omega (arith, clock_is);
    }

pub send-goes_on : (layout : Layout) (run : List Turn) (m : ℕ) (old : MachineView) (stamp : ℕ) → IsLegal layout run
    → IsMachineOf layout run m old → old.last < stamp
    → GoesOn layout (Sent m stamp) run m (record old { last = stamp })
send-goes_on layout run m old stamp legal h up =
    let reached : last_stamp layout m run ≤ old.last = h.clock in
    let above : last_stamp layout m run < stamp = omega arith in
    ((above, legal), marked layout run m old (Sent m stamp) stamp h up (λ s. refl) (λ s n. refl) refl)

pub receive-goes_on : (layout : Layout) (run : List Turn) (m sender message : ℕ) (old : MachineView) (seen stamp : ℕ)
    → IsLegal layout run → IsMachineOf layout run m old → turn_at run message ≡ Some (Sent sender seen)
    → old.last < stamp → seen < stamp → GoesOn layout (Received m message stamp) run m (record old { last = stamp })
receive-goes_on layout run m sender message old seen stamp legal h at up later =
    let reached : last_stamp layout m run ≤ old.last = h.clock in
    let above : last_stamp layout m run < stamp = omega arith in (
      ((above, (sender, seen, at, later)), legal),
      marked layout run m old (Received m message stamp) stamp h up (λ s. refl) (λ s n. refl) refl,
    )

pub observe-goes_on : (layout : Layout) (run : List Turn) (m s : ℕ) (old : MachineView) (seen stamp : ℕ)
    → IsLegal layout run → IsMachineOf layout run m old → s < layout.stores
    → seen ≤ floor (past_of layout s run) → old.last < stamp → seen < stamp
    → GoesOn layout (Observed m s seen stamp) run m (record old { last = stamp })
observe-goes_on layout run m s old seen stamp legal h inside low up later =
    let reached : last_stamp layout m run ≤ old.last = h.clock in
    let above : last_stamp layout m run < stamp = omega arith in (
      ((above, inside, low, later), legal),
      marked layout run m old (Observed m s seen stamp) stamp h up (λ t. refl) (λ t n. refl) refl,
    )

pub issued_from-push : (s : ℕ) (items : List Item) (item : Item) (run : List Turn)
    → issued_from s (items ++ item ∷ []) run ≡ Issued (s + length items) item ∷ issued_from s items run
issued_from-push s [] item run =
    let e : s ≡ s + length {A = Item} [] = omega arith in ap (λ k. Issued k item ∷ run) e
issued_from-push s (first ∷ items) item run =
    let e : s + 1 + length items ≡ s + length (first ∷ items) = omega arith in
    issued_from-push (s + 1) items item (Issued s first ∷ run)
    ∙ ap (λ k. Issued k item ∷ issued_from (s + 1) items (Issued s first ∷ run)) e

-- reports to all stores extend the run
pub reports-go_on : (layout : Layout) (run : List Turn) (m : ℕ) (old : MachineView) (reading : ℕ) (new : MachineView)
    (items : List Item) → IsLegal layout run → IsMachineOf layout run m old → Reports old reading new items
    → IsLegal layout (issued_from 0 items run) × IsMachineOf layout (issued_from 0 items run) m new
reports-go_on layout run m old reading new items legal h none = (legal, h)
reports-go_on layout run m old reading new items legal h (one {machine} {items = before} item earlier issues) =
    let so_far = reports-go_on layout run m old reading machine before legal h earlier in
    let e : length before ≡ 0 + length before = omega arith in
    subst (λ r. IsLegal layout r × IsMachineOf layout r m new)
    (ap (λ k. Issued k item ∷ issued_from 0 before run) e ∙ sym (issued_from-push 0 before item run))
    (issue-goes_on layout (issued_from 0 before run) m machine new (length before) Report reading item so_far.0 so_far.1
    tt issues)

-- a mark of another machine raises no clock of this one
not-raised : (m last : ℕ) (o : Option (ℕ × ℕ)) → ((mark : ℕ × ℕ) → o ≡ Some mark → mark.0 ≡ m → ⊥)
    → raised_by m o last ≡ last
not-raised m last None apart = refl
not-raised m last (Some mark) apart = cond-false _ _ _ (ne_eqb mark.0 m (apart mark refl))

-- a step of a store by which no node of this machine joins
pub step-keeps : (layout : Layout) (run : List Turn) (m s : ℕ) (machine : MachineView) (step : Step)
    → IsMachineOf layout run m machine
    → ((mark : ℕ × ℕ) → start_of layout s step ≡ Some mark → mark.0 ≢ m) → begun (step ∷ []) ≡ []
    → IsMachineOf layout (Stepped s step ∷ run) m machine
step-keeps layout run m s machine step h free stateless =
    let same : last_stamp layout m (Stepped s step ∷ run) ≡ last_stamp layout m run =
    not-raised m (last_stamp layout m run) (start_of layout s step) free in
    record {
      many = h.many;
      nodes = λ t node there.
          let is = h.nodes t node there in
          record {
            inside = (let was : node.id < numbered (past_of layout t run) = is.inside in
                let grows : numbered (past_of layout t run) ≤ numbered (past_of layout t (Stepped s step ∷ run)) =
                numbered-later layout run s t step (numbered-grows step (past_of layout s run) stateless) in
                omega arith);
            next = is.next;
            retired = is.retired;
          };
      machines = h.machines;
      clock = (let reached : last_stamp layout m run ≤ machine.last = h.clock in omega (arith, same));
    }

-- the clock stamped a send, a receipt or an observation, or refused
pub sent-by_clock : (layout : Layout) (run : List Turn) (m : ℕ) (old : MachineView) (clock reading : ℕ)
    (result : Result ℕ ClockFault) → IsLegal layout run → IsMachineOf layout run m old
    → IsClockAnswer (old.last ∷ []) reading result → IfOk result (λ stamp. clock ≡ stamp)
    → IfOk result (λ stamp. GoesOn layout (Sent m stamp) run m (record { last = clock; nodes = old.nodes }))
sent-by_clock layout run m old clock reading (Err fault) legal h rule same = tt
sent-by_clock layout run m old clock reading (Ok stamp) legal h rule same =
    subst (λ k. GoesOn layout (Sent m stamp) run m (record { last = k; nodes = old.nodes })) (sym same)
    (send-goes_on layout run m old stamp legal h (All-head (λ other. other < stamp) old.last [] rule.1.after.above))

pub received-by_clock : (layout : Layout) (run : List Turn) (m sender message : ℕ) (old : MachineView)
    (clock seen reading : ℕ) (result : Result ℕ ClockFault) → IsLegal layout run → IsMachineOf layout run m old
    → turn_at run message ≡ Some (Sent sender seen) → IsClockAnswer (old.last ∷ seen ∷ []) reading result
    → IfOk result (λ stamp. clock ≡ stamp)
    → IfOk result (λ stamp. GoesOn layout (Received m message stamp) run m (record { last = clock; nodes = old.nodes }))
received-by_clock layout run m sender message old clock seen reading (Err fault) legal h at rule same = tt
received-by_clock layout run m sender message old clock seen reading (Ok stamp) legal h at rule same =
    subst (λ k. GoesOn layout (Received m message stamp) run m (record { last = k; nodes = old.nodes })) (sym same)
    (receive-goes_on layout run m sender message old seen stamp legal h at
    (All-head (λ other. other < stamp) old.last (seen ∷ []) rule.1.after.above)
    (All-head (λ other. other < stamp) seen []
    (All-tail (λ other. other < stamp) old.last (seen ∷ []) rule.1.after.above)))

pub observed-by_clock : (layout : Layout) (run : List Turn) (m s : ℕ) (old : MachineView) (clock seen reading : ℕ)
    (result : Result ℕ ClockFault) → IsLegal layout run → IsMachineOf layout run m old → s < layout.stores
    → seen ≤ floor (past_of layout s run) → IsClockAnswer (old.last ∷ seen ∷ []) reading result
    → IfOk result (λ stamp. clock ≡ stamp)
    → IfOk result (λ stamp. GoesOn layout (Observed m s seen stamp) run m (record { last = clock; nodes = old.nodes }))
observed-by_clock layout run m s old clock seen reading (Err fault) legal h inside low rule same = tt
observed-by_clock layout run m s old clock seen reading (Ok stamp) legal h inside low rule same =
    subst (λ k. GoesOn layout (Observed m s seen stamp) run m (record { last = k; nodes = old.nodes })) (sym same)
    (observe-goes_on layout run m s old seen stamp legal h inside low
    (All-head (λ other. other < stamp) old.last (seen ∷ []) rule.1.after.above)
    (All-head (λ other. other < stamp) seen []
    (All-tail (λ other. other < stamp) old.last (seen ∷ []) rule.1.after.above)))
