-- What is true of the items of every legal schedule: they have their numbers, their stamps rise, none is above its
-- node's clock, and those that were not yet accepted lie above the node's head. So the store refuses an issued item
-- only because of its number. A node's Retire is its last item, and where it was accepted, all of them were. So the
-- floor is complete: an item at or below it is not above its node's head; and no head is above its node's clock. A node
-- that has not joined yet has no stamp.
use Rattle.std.proofs.lemmas.{Grind.common_steps, Option.slice_get_within, Option.slice_get-get_or, Option.same_Some}
use Rattle.std.proofs.Common.{◌≡◌, ℕ, Bool, true, false, ◌+◌, ◌*◌, ◌<◌, ◌≤◌, List, [], ◌∷◌, ◌++◌, length, max, Some}
use Rattle.std.proofs.Common.{None, Ok, Err, Option, Result, refl, ap, sym, ◌∙◌, subst, inl, inr, arith, length-append}
use Rattle.std.specs.Prelude.{◌==◌, nat_le, slice_get, if◌then◌else◌, Contains}
use Rattle.std.proofs.lemmas.Bool.{cond-true, cond-false, eq-eqb, ne_eqb, cases_lt, cases_eq, cases_Bool, leb-false}
use Rattle.hlc_clock.specs.NextStamp.{expected_stamp, next_stamp, greatest, is_carried}
use Rattle.hlc_clock.specs.declared.clock.ClockFault.{ClockFault}
use Rattle.hlc_node.specs.declared.item.{Item.Item, Body.Body, Message.Message}
use Rattle.hlc_node.specs.declared.item.Body.TheVariants.{Write as a_write, Report as a_report, Retire as a_retire}
use Rattle.hlc_rows.specs.declared.limits.BodyFault.{BodyFault}
use Rattle.hlc_node.specs.declared.node.NodeFault.TheVariants.{NumbersSpent, Retired as retired_node}
use Rattle.hlc_node.specs.Items.{an_item, body_refusal, retires}
use Rattle.hlc_node.specs.Node.{NodeView, clocked, unless_retired, unless_bad, expected_issue}
use Rattle.hlc_events.specs.declared.{fault.CoreFault.CoreFault, event.CoreEvent.CoreEvent}
use Rattle.hlc_core.specs.{declared.reply.CoreReply.CoreReply, History.past_of}
use Rattle.hlc_core.specs.Past.{Step, Took, Joined as JoinedOf, numbered, retired, count, head, Opened}
use Rattle.hlc_core.specs.Past.{Closed as ClosedOf, Vacuumed as VacuumedOf, floor}
use Rattle.hlc_core.proofs.PastLemmas.{inside, on_link as on_its_link, admissible, floor-le}
use Rattle.hlc_world_event.specs.declared.event.Event.TheVariants.{Write, Delete, Report, Retire, Join, Send, Receive}
use Rattle.hlc_world_event.specs.declared.event.Event.TheVariants.{Observe, Deliver, OpenAt, OpenFloor, Read}
use Rattle.hlc_world_event.specs.declared.event.Event.TheVariants.{List as ListAll, Close, Vacuum}
use Rattle.hlc_world.specs.{declared.reply.Reply.Reply, Floor.IsComplete, Floor.IsBelowClocks}
use Rattle.hlc_world.specs.declared.reply.Reply.TheVariants.{Stamped, Joined, Sent, Received, Observed, Accepted}
use Rattle.hlc_world.specs.declared.reply.Reply.TheVariants.{Snapshot, Answer, Listing, Closed, Vacuumed}
use Rattle.hlc_values.specs.declared.bounds.TheConstants.{NUMBER_BOUND}
use Rattle.hlc_world.specs.declared.refusal.Refusal.{Refusal, TheVariants.NoNode, TheVariants.Node as at_node}
use Rattle.hlc_world.specs.Schedule.{with_item, stamp_or, issued, has_retired, last_stamp, node_of, ends}
use Rattle.hlc_world_event.specs.Events.{Event}
use Rattle.hlc_world.specs.Store.{accepting, accepted, paired, with_entry, store_history, core_past}
use Rattle.hlc_world.specs.Expected.{core_refusal, on_link, on_node, deliver_refusal, IsReceived, IsObserved, MayReply}
use Rattle.hlc_world.specs.Expected.{IsLegal}
use Rattle.hlc_world.proofs.Lists.{push-cases}
use Rattle.hlc_values.proofs.MemberLemmas.{Contains-first, Contains-rest}
use Rattle.hlc_clock.specs.declared.clock.ClockFault.TheVariants as clock_fault

-- an item of a node fits the node's last stamp, its count and its head; it was accepted if its number is below that
-- count, and is the last one if it retires the node
pub record FitsItsNode (many last count top n k long : ℕ) (over : Bool) (past : List Step) (item : Item) : Type 0 where
  pub inside : n < many
  pub node : item.node ≡ n
  pub number : item.number ≡ k
  pub left : k ≡ NUMBER_BOUND → ⊥
  pub body : body_refusal item.body ≡ None
  pub low : item.stamp ≤ last
  pub ahead : count ≤ k → top < item.stamp
  pub taken : k < count → Contains past (Took item)
  pub ending : retires item.body ≡ true → (k + 1 ≡ long) × (over ≡ true)

-- and it still fits where these conditions are still true
refit : {many last count top n k long many' last' count' top' long' : ℕ} {over over' : Bool} {past past' : List Step}
    {item : Item} → FitsItsNode many last count top n k long over past item → n < many' → item.stamp ≤ last'
    → (count' ≤ k → top' < item.stamp) → (k < count' → Contains past' (Took item))
    → (retires item.body ≡ true → (k + 1 ≡ long') × (over' ≡ true))
    → FitsItsNode many' last' count' top' n k long' over' past' item
refit i inside low ahead taken ending = grind (arith, common_steps)

-- the items that a node issued fit together, and fit what was accepted of them
pub record Fits (many last count top n : ℕ) (over out : Bool) (items : List Item) (past : List Step) : Type 0 where
  pub each : (k : ℕ) (item : Item) → slice_get items k ≡ Some item
      → FitsItsNode many last count top n k (length items) over past item
  pub rising : (j k : ℕ) (a b : Item) → j < k → slice_get items j ≡ Some a → slice_get items k ≡ Some b
      → a.stamp < b.stamp
  pub head_low : top ≤ last
  pub fresh : many ≤ n → last ≡ 0
  pub few : count ≤ length items
  pub all_taken : out ≡ true → (count ≡ length items) × (over ≡ true)

module _ {many last count top n : ℕ} {over out : Bool} {items : List Item} {past : List Step}
    (h : Fits many last count top n over out items past) where
  -- they still do after an event of another node, or with a higher stamp
  goes-on : {many' last' : ℕ} {past' : List Step} → many ≤ many' → last ≤ last' → (many' ≤ n → last' ≡ 0)
      → ((item : Item) → Contains past (Took item) → Contains past' (Took item))
      → Fits many' last' count top n over out items past'
  goes-on more up fresh keeps =
      let low : top ≤ last = h.head_low in
      record {
        each = λ k item at.
            let i = h.each k item at in
            let inside : n < many = i.inside in
            let below : item.stamp ≤ last = i.low in
            refit i (omega arith) (omega arith) i.ahead (λ old. keeps item (i.taken old)) i.ending;
        rising = h.rising;
        head_low = omega arith;
        fresh = fresh;
        few = h.few;
        all_taken = h.all_taken;
      }

  -- so do they after a step of the store that is not of this node
  kept : (step : Step) → Fits many last count top n over out items (step ∷ past)
  kept step = goes-on (omega arith) (omega arith) h.fresh (λ item m. Contains-rest step (Took item) past m)

  -- after the node issued one more item
  issues : (item : Item) → n < many → over ≡ false → item.node ≡ n → item.number ≡ length items
      → (length items ≡ NUMBER_BOUND → ⊥) → body_refusal item.body ≡ None → last < item.stamp
      → Fits many item.stamp count top n (retires item.body) out (items ++ item ∷ []) past
  issues item within active own number left ok up =
      let few : count ≤ length items = h.few in
      let low : top ≤ last = h.head_low in
      let longer : length (items ++ item ∷ []) ≡ length items + 1 = length-append items (item ∷ []) in
      let not_over : over ≡ true → ⊥ = λ e. (let f : true ≡ false = sym e ∙ active in cc) in
      record {
        each = λ k x at.
            elim (push-cases items item x k at) [
              | inl old ↦
                  let i = h.each k x old in
                  let below : x.stamp ≤ last = i.low in
                  refit i within (omega arith) i.ahead i.taken (λ ends'. absurd (not_over (i.ending ends').1))
              | inr new ↦
                  let e : k ≡ length items = new.0 in
                  subst (λ y. FitsItsNode many item.stamp count top n k (length (items ++ item ∷ []))
                  (retires item.body) past y) new.1
                  (record {
                    inside = within;
                    node = own;
                    number = number ∙ sym e;
                    left = λ q. left (sym e ∙ q);
                    body = ok;
                    low = omega arith;
                    ahead = λ c. omega arith;
                    taken = λ old. absurd (omega (arith, old));
                    ending = λ ends'. (omega arith, ends');
                  })
            ];
        rising = λ j k a b lt at_a at_b.
            elim (push-cases items item a j at_a) [
              | inl old ↦
                  elim (push-cases items item b k at_b) [
                    | inl old_b ↦ h.rising j k a b lt old old_b
                    | inr new ↦ (let below : a.stamp ≤ last = (h.each j a old).low in
                        let e : item.stamp ≡ b.stamp = ap (λ x. x.stamp) new.1 in omega arith)
                  ]
              | inr new ↦
                  absurd (let inside : k < length (items ++ item ∷ []) =
                  slice_get_within (items ++ item ∷ []) k b at_b in let e : j ≡ length items = new.0 in omega arith)
            ];
        head_low = omega arith;
        fresh = λ far. absurd (omega (arith, far));
        few = omega arith;
        all_taken = λ all'. absurd (not_over (h.all_taken all').1);
      }

  -- after the store accepted the node's next item
  takes : (k : ℕ) (item : Item) → slice_get items k ≡ Some item → k ≡ count
      → Fits many last (count + 1) item.stamp n over (retires item.body) items (Took item ∷ past)
  takes k item at next =
      let own = h.each k item at in
      let within : k < length items = slice_get_within items k item at in
      record {
        each = λ j x there.
            let i = h.each j x there in
            refit i i.inside i.low
            (λ behind. (let b : count + 1 ≤ j = behind in h.rising k j item x (omega arith) at there))
            (λ before. let b : j < count + 1 = before in
            elim (cases_lt j count) [
              | inl old ↦ Contains-rest (Took item) (Took x) past (i.taken old)
              | inr new ↦
                  let e : k ≡ j = omega arith in
                  let is : item ≡ x = same_Some item x (sym at ∙ ap (λ q. slice_get items q) e ∙ there) in
                  subst (λ y. Contains (Took item ∷ past) (Took y)) is (Contains-first (Took item) past)
            ])
            i.ending;
        rising = h.rising;
        head_low = own.low;
        fresh = h.fresh;
        few = omega arith;
        all_taken = λ ends'. (let e = own.ending ends' in (omega (arith, e.0, next), e.1));
      }

  -- after the node joined
  joins : (start : ℕ) (step : Step) → n ≡ many → Fits (many + 1) start count start n over out items (step ∷ past)
  joins start step is = record {
    each = λ k item at. absurd (let inside : n < many = (h.each k item at).inside in omega arith);
    rising = h.rising;
    head_low = omega arith;
    fresh = λ far. absurd (omega (arith, far));
    few = h.few;
    all_taken = h.all_taken;
  }

pub unless : {X : Type 0} (b : Bool) (x : X) (rest : Option X) → (if b then Some x else rest) ≡ None
    → (b ≡ false) × (rest ≡ None)
unless true x rest h = absurd (cc)
unless false x rest h = (refl, h)

-- a node whose link is not refused exists
pub on_link-none : (nodes : ℕ) (s : List (Event × Reply)) (p : ℕ) (rest : Option Refusal)
    → on_link nodes s p rest ≡ None → (p < numbered (core_past nodes s)) × (rest ≡ None)
on_link-none nodes s p rest h =
    let u = unless (nat_le (numbered (core_past nodes s)) p) NoNode rest h in
    (leb-false (numbered (core_past nodes s)) p u.0, u.1)

-- a node at which nothing is refused exists and has not retired
pub on_node-none : (nodes : ℕ) (s : List (Event × Reply)) (p : ℕ) (rest : Option Refusal)
    → on_node nodes s p rest ≡ None → (p < numbered (core_past nodes s)) × (has_retired p s ≡ false) × (rest ≡ None)
on_node-none nodes s p rest h =
    let there = on_link-none nodes s p _ h in
    let u = unless (has_retired p s) (at_node retired_node) rest there.1 in (there.0, u.0, u.1)

clocked-ok : (r : Result ℕ ClockFault) (st : ℕ) → clocked r ≡ Ok st → r ≡ Ok st
clocked-ok (Ok x) st h = ap Ok (cc)
clocked-ok (Err fault) st h = absurd (cc)

unrefused : (b c : Bool) (f g : ClockFault) (x st : ℕ)
    → (if b then Err f else if c then Err g else Ok x) ≡ Ok st → x ≡ st
unrefused true c f g x st h = absurd (cc)
unrefused false true f g x st h = absurd (cc)
unrefused false false f g x st h = cc

-- an expected stamp is the next stamp
expected-next : (earlier : List ℕ) (reading st : ℕ) → expected_stamp earlier reading ≡ Ok st
    → next_stamp earlier reading ≡ st
expected-next earlier reading st h =
    unrefused (nat_le 281474976710656 reading) (is_carried earlier reading) clock_fault.ReadingTooLarge
    (clock_fault.CounterFull (greatest earlier)) (next_stamp earlier reading) st h

-- it lies above the last one
pub stamp-rises : (last reading st : ℕ) → expected_stamp (last ∷ []) reading ≡ Ok st → last < st
stamp-rises last reading st h =
    (let is : max (max (last + 1) 0) (65536 * reading) ≡ st = expected-next (last ∷ []) reading st h in omega arith)

-- and above one that was seen
pub sight-rises : (last seen reading st : ℕ) → expected_stamp (last ∷ seen ∷ []) reading ≡ Ok st → (last < st)
    × (seen < st)
sight-rises last seen reading st h =
    let is : max (max (last + 1) (max (seen + 1) 0)) (65536 * reading) ≡ st =
    expected-next (last ∷ seen ∷ []) reading st h in
    (omega arith, omega arith)

pub received-rises : (o : Option Message) (last reading st : ℕ) → IsReceived o last reading st → last < st
received-rises None last reading st h = absurd h
received-rises (Some message) last reading st h = (sight-rises last message.stamp reading st h).0

pub observed-rises : (o : Option ℕ) (last reading st : ℕ) → IsObserved o last reading st → last < st
observed-rises None last reading st h = absurd h
observed-rises (Some seen) last reading st h = (sight-rises last seen reading st h).0

-- what follows for an item that has an expected stamp
issue-by : (was_last : Bool) (body : Option BodyFault) (last next reading st : ℕ)
    → unless_retired was_last (unless_bad body
    (if next == NUMBER_BOUND then Err NumbersSpent else clocked (expected_stamp (last ∷ []) reading))) ≡ Ok st
    → (body ≡ None) × (next ≡ NUMBER_BOUND → ⊥) × (last < st)
issue-by true body last next reading st h = absurd (cc)
issue-by false (Some fault) last next reading st h = absurd (cc)
issue-by false None last next reading st h =
    grind (arith, common_steps, cases_eq, cond-true, eq-eqb, stamp-rises, clocked-ok, cond-false, ne_eqb)

pub issue-ok : (node : NodeView) (body : Body) (reading st : ℕ) → expected_issue node body reading ≡ Ok st
    → (body_refusal body ≡ None) × (node.next ≡ NUMBER_BOUND → ⊥) × (node.last < st)
issue-ok node body reading st h = issue-by node.retired (body_refusal body) node.last node.next reading st h

-- where a fault of the core is no refusal, the core has no fault
pub no-core : (o : Option CoreFault) → core_refusal o ≡ None → o ≡ None
no-core None h = refl
no-core (Some fault) h = absurd (cc)

-- an item whose delivery is not refused is the next one
pub delivered : (past : List Step) (p k : ℕ) (item : Item) → item.node ≡ p → item.number ≡ k
    → deliver_refusal past (Some item) ≡ None → k ≡ count p past
delivered past p k item own number none = grind (arith, common_steps, no-core, on_its_link, inside, admissible)

-- the core's past after a delivery
abbrev pub past_taken : ℕ → ℕ → ℕ → Option Item → List (CoreEvent × CoreReply) → List Step
past_taken nodes p st o history = past_of nodes (with_entry (paired (accepted p st o) (accepting o)) history)

-- what a node issued fits together, where the core's past after the schedule is this one
abbrev FitsAt : ℕ → List (Event × Reply) → List Step → Type 0
FitsAt n s past =
    Fits (numbered past) (last_stamp n s) (count n past) (head n past) n (has_retired n s) (retired n past) (issued n s)
    past

-- what each node issued fits together
abbrev pub IsOrderly : ℕ → List (Event × Reply) → Type 0
IsOrderly nodes s = (n : ℕ) → FitsAt n s (core_past nodes s)

orderly-issued : (nodes : ℕ) (s : List (Event × Reply)) (p reading st num : ℕ) (body : Body) (rest : Option Refusal)
    → on_node nodes s p rest ≡ None → expected_issue (node_of p s) body reading ≡ Ok st → num ≡ length (issued p s)
    → IsOrderly nodes s → (n : ℕ) → Fits (numbered (core_past nodes s)) (stamp_or n (Some (p, st)) (last_stamp n s))
    (count n (core_past nodes s)) (head n (core_past nodes s)) n
    (ends n (Some (an_item p num st body)) (has_retired n s)) (retired n (core_past nodes s))
    (with_item n (Some (an_item p num st body)) (issued n s)) (core_past nodes s)
orderly-issued nodes s p reading st num body rest none expected is h n =
    let free = on_node-none nodes s p rest none in
    let f = issue-ok (node_of p s) body reading st expected in
    elim (cases_eq p n) [
      | inl same ↦
          rw (← same, eq-eqb p p refl) (issues (h p) (an_item p num st body) free.0 free.1 refl is f.1 f.0 f.2)
      | inr other ↦ rw (ne_eqb p n other) (h n)
    ]

orderly-stamped : (nodes : ℕ) (s : List (Event × Reply)) (p st : ℕ) (rest : Option Refusal)
    → on_node nodes s p rest ≡ None → last_stamp p s < st → IsOrderly nodes s → (n : ℕ)
    → Fits (numbered (core_past nodes s)) (stamp_or n (Some (p, st)) (last_stamp n s)) (count n (core_past nodes s))
    (head n (core_past nodes s)) n (has_retired n s) (retired n (core_past nodes s)) (issued n s) (core_past nodes s)
orderly-stamped nodes s p st rest none up h n =
    let inside = (on_node-none nodes s p rest none).0 in
    elim (cases_eq p n) [
      | inl same ↦
          rw (← same, eq-eqb p p refl)
          (goes-on (h p) (omega arith) (omega arith) (λ far. absurd (omega (arith, inside, far))) (λ item m. m))
      | inr other ↦ rw (ne_eqb p n other) (h n)
    ]

orderly-taken : (nodes : ℕ) (s : List (Event × Reply)) (p k st : ℕ) (o : Option Item)
    → slice_get (issued p s) k ≡ o → deliver_refusal (core_past nodes s) o ≡ None → IsOrderly nodes s
    → (n : ℕ) → FitsAt n s (past_taken nodes p st o (store_history s))
orderly-taken nodes s p k st None at none h n = h n
orderly-taken nodes s p k st (Some item) at none h n =
    let is = (h p).each k item at in
    let next = delivered (core_past nodes s) p k item is.node is.number none in
    elim (cases_eq item.node n) [
      | inl same ↦
          subst (λ j. FitsAt j s (Took item ∷ core_past nodes s)) (sym is.node ∙ same)
          (rw (eq-eqb item.node p is.node) (takes (h p) k item at next))
      | inr other ↦ rw (ne_eqb item.node n other) (kept (h n) (Took item))
    ]

orderly-joined : (nodes : ℕ) (s : List (Event × Reply)) (node start : ℕ) → node ≡ numbered (core_past nodes s)
    → IsOrderly nodes s → (n : ℕ)
    → Fits (numbered (core_past nodes s) + 1) (stamp_or n (Some (node, start)) (last_stamp n s))
    (count n (core_past nodes s)) (head n (JoinedOf node start ∷ core_past nodes s)) n (has_retired n s)
    (retired n (core_past nodes s)) (issued n s) (JoinedOf node start ∷ core_past nodes s)
orderly-joined nodes s node start is h n =
    let step : Step = JoinedOf node start in
    elim (cases_eq node n) [
      | inl same ↦ rw (← same, eq-eqb node node refl) (joins (h node) start step is)
      | inr other ↦
          rw (ne_eqb node n other)
          (goes-on (h n) (omega arith) (omega arith) (λ far. (h n).fresh (omega (arith, far)))
          (λ item m. Contains-rest step (Took item) (core_past nodes s) m))
    ]

orderly-entry : (nodes : ℕ) (s : List (Event × Reply)) (event : Event) (reply : Reply) → MayReply nodes s event reply
    → IsOrderly nodes s → IsOrderly nodes ((event, reply) ∷ s)
orderly-entry nodes s (Write p reading key value) (Stamped st num) allowed h =
    orderly-issued nodes s p reading st num (a_write key (Some value)) _ allowed.0 allowed.1.0 allowed.1.1 h
orderly-entry nodes s (Delete p reading key) (Stamped st num) allowed h =
    orderly-issued nodes s p reading st num (a_write key None) _ allowed.0 allowed.1.0 allowed.1.1 h
orderly-entry nodes s (Report p reading) (Stamped st num) allowed h =
    orderly-issued nodes s p reading st num a_report _ allowed.0 allowed.1.0 allowed.1.1 h
orderly-entry nodes s (Retire p reading) (Stamped st num) allowed h =
    orderly-issued nodes s p reading st num a_retire _ allowed.0 allowed.1.0 allowed.1.1 h
orderly-entry nodes s Join (Joined node start) allowed h =
    orderly-joined nodes s node start allowed.1.0 h
orderly-entry nodes s (Send p reading) (Sent st num) allowed h =
    orderly-stamped nodes s p st _ allowed.0 (stamp-rises _ reading st allowed.1.0) h
orderly-entry nodes s (Receive p reading number) (Received st) allowed h =
    orderly-stamped nodes s p st _ allowed.0 (received-rises _ _ reading st allowed.1) h
orderly-entry nodes s (Observe p reading id) (Observed st) allowed h =
    orderly-stamped nodes s p st _ allowed.0 (observed-rises _ _ reading st allowed.1) h
orderly-entry nodes s (Deliver p k) (Accepted st) allowed h =
    orderly-taken nodes s p k st (slice_get (issued p s) k) refl (on_link-none nodes s p _ allowed.0).1 h
orderly-entry nodes s (OpenAt at) (Snapshot id st) allowed h = λ n. kept (h n) (Opened st)
orderly-entry nodes s OpenFloor (Snapshot id st) allowed h = λ n. kept (h n) (Opened st)
orderly-entry nodes s (Read id key) (Answer value) allowed h = h
orderly-entry nodes s (ListAll id) (Listing pairs) allowed h = h
orderly-entry nodes s (Close id) (Closed st) allowed h = λ n. kept (h n) (ClosedOf id)
orderly-entry nodes s Vacuum (Vacuumed report) allowed h = λ n. kept (h n) (VacuumedOf report.floor)
orderly-entry nodes s _ _ allowed h = h

-- every legal schedule is orderly
pub orderly : (nodes : ℕ) (s : List (Event × Reply)) → IsLegal nodes s → IsOrderly nodes s
orderly nodes [] legal = grind (arith, common_steps)
orderly nodes (entry ∷ s) legal = orderly-entry nodes s entry.0 entry.1 legal.0 (orderly nodes s legal.1)

-- every issued item at or below the floor was accepted
pub complete : (nodes : ℕ) (s : List (Event × Reply)) → IsLegal nodes s → IsComplete nodes s
complete nodes s legal = λ item from low.
    let n : ℕ = from.0 in
    let k : ℕ = from.1.0 in
    let within : k < length (issued n s) = from.1.1 in
    let at : slice_get (issued n s) k ≡ Some item = slice_get-get_or (issued n s) k item within ∙ ap Some from.1.2 in
    let all' = orderly nodes s legal n in
    let is = all'.each k item at in
    is.taken
    (elim (cases_lt k (count n (core_past nodes s))) [
      | inl before ↦ before
      | inr later ↦
          elim (cases_Bool (retired n (core_past nodes s))) [
            | inl out ↦ (let each = (all'.all_taken out).0 in omega (arith, within, each))
            | inr here ↦ absurd
                (let least : floor (core_past nodes s) ≤ head n (core_past nodes s) =
                floor-le (core_past nodes s) n is.inside here in
                let up : head n (core_past nodes s) < item.stamp = is.ahead later in
                let low' : item.stamp ≤ floor (core_past nodes s) = low in omega arith)
          ]
    ])

-- no clock of a node whose last item was not accepted is below the floor
pub below_clocks : (nodes : ℕ) (s : List (Event × Reply)) → IsLegal nodes s → IsBelowClocks nodes s
below_clocks nodes s legal = λ n inside here.
    let least : floor (core_past nodes s) ≤ head n (core_past nodes s) = floor-le (core_past nodes s) n inside here in
    let low = (orderly nodes s legal n).head_low in omega (arith, low)
