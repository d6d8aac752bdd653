-- The run says of the store, of the links and of the clocks what the schedule says, and so it is legal: an item has the
-- next number of its link and a stamp above its node's clock, a received message was sent, and a snapshot is not above
-- the floor.
use Rattle.std.proofs.lemmas.{Grind.common_steps, Bool.eq-eqb, Bool.ne_eqb, Bool.cases_eq}
use Rattle.std.proofs.Common.{◌≡◌, ℕ, zero, suc, Bool, false, ◌+◌, ◌<◌, ◌≤◌, List, [], ◌∷◌, ◌++◌, length, Some, None}
use Rattle.std.proofs.Common.{Option, refl, ap, sym, ◌∙◌, subst, inl, inr, arith, length-append, Ok}
use Rattle.std.specs.Prelude.{Contains, slice_get, reverse}
use Rattle.std.proofs.lemmas.{Option.slice_get_within, Option.same_Some, List.length-reverse, List.reverse-append}
use Rattle.std.proofs.lemmas.List.Elements.{Contains-append_left, Contains-push}
use Rattle.hlc_node.specs.declared.item.{Item.Item, Body.Body, Message.Message}
use Rattle.hlc_node.specs.declared.item.Body.TheVariants.{Write as a_write, Report as a_report, Retire as a_retire}
use Rattle.hlc_node.specs.{Items.an_item, Node.expected_issue}
use Rattle.hlc_snapshot.proofs.RegisterLemmas.{stamp_in-all}
use Rattle.hlc_core.specs.Past.{Step, Took, Opened as OpenedAt, Closed as ClosedOf, Vacuumed as VacuumedTo}
use Rattle.hlc_core.specs.Past.{Joined as JoinedAt, numbered, floor, open_snapshots, stamp_of, IsLegal as IsLegalPast}
use Rattle.hlc_core.proofs.PastLemmas.{open-low}
use Rattle.hlc_core.specs.History.{past_of as past_by}
use Rattle.hlc_world_event.specs.declared.event.Event.TheVariants.{Write, Delete, Report, Retire, Join, Send, Receive}
use Rattle.hlc_world_event.specs.declared.event.Event.TheVariants.{Observe, Deliver, OpenAt, OpenFloor, Read}
use Rattle.hlc_world_event.specs.declared.event.Event.TheVariants.{List as ListAll, Close, Vacuum}
use Rattle.hlc_world.specs.declared.{reply.Reply.Reply, refusal.Refusal.Refusal}
use Rattle.hlc_world.specs.declared.reply.Reply.TheVariants.{Stamped, Joined, Sent, Received, Observed, Accepted}
use Rattle.hlc_world.specs.declared.reply.Reply.TheVariants.{Snapshot, Answer, Listing, Closed, Vacuumed}
use Rattle.hlc_world.specs.Schedule.{with_item, ends, stamp_or, has_retired, node_of, sent, message_at}
use Rattle.hlc_world.specs.Schedule.{issued as issued_by, last_stamp as clock_of}
use Rattle.hlc_world_event.specs.Events.{Event}
use Rattle.hlc_world.specs.Store.{accepting, accepted, paired, with_entry, store_history, core_past}
use Rattle.hlc_world.specs.Expected.{on_node, deliver_refusal, IsReceived, IsObserved, MayReply, IsLegal}
use Rattle.hlc_world.proofs.ScheduleLemmas.{push-cases, orderly, on_link-none, on_node-none, issue-ok, no-core}
use Rattle.hlc_world.proofs.ScheduleLemmas.{stamp-rises, sight-rises, legal-past}
use Rattle.hlc_ranges.specs.Run.{Turn, Issued, Sent as Sends, Received as Receives, Observed as Observes, Stepped}
use Rattle.hlc_ranges.specs.Run.{past_of, issued, ends_with, start_of, raised_by, last_stamp, turn_at, IsRouted}
use Rattle.hlc_ranges.specs.Run.{next_number, IsIssuedStep, IsLegal as IsLegalRun}
use Rattle.hlc_ranges.proofs.TurnLemmas.{turn-keeps, past-same, new-begin}
use Rattle.hlc_world_run.specs.RunOf.{layout_of, messages, sent_at, observing, step_by, stepping, with_turn, run_of}

-- the run is legal, and has this past, these items of each link, these clocks, and these messages
pub record Mirrors (nodes : ℕ) (items : ℕ → List Item) (overs : ℕ → Bool) (lasts : ℕ → ℕ) (letters : List Message)
    (past : List Step) (run : List Turn) : Type 0 where
  pub legal : IsLegalRun (layout_of nodes) run
  pub past_is : past_of (layout_of nodes) 0 run ≡ past
  pub link : (n : ℕ) → issued 0 n run ≡ reverse (items n)
  pub over : (n : ℕ) → ends_with false (issued 0 n run) ≡ overs n
  pub clock : (n : ℕ) → last_stamp (layout_of nodes) n run ≡ lasts n
  pub many : messages run ≡ length letters
  pub each : (k : ℕ) (letter : Message) → slice_get letters k ≡ Some letter
      → turn_at run (sent_at k run) ≡ Some (Sends letter.from letter.stamp)

one : 0 < 1
one = omega arith

-- a clock that is raised to a stamp that is not below it has that stamp
clock-marked : (n a last : ℕ) (mark : ℕ × ℕ) → a ≡ last → (mark.0 ≡ n → last ≤ mark.1)
    → raised_by n (Some mark) a ≡ stamp_or n (Some mark) last
clock-marked n a last mark is up = grind (arith, common_steps, cases_eq, eq-eqb, ne_eqb)

clock-by : (n a last : ℕ) (mark : Option (ℕ × ℕ)) → a ≡ last
    → ((p : ℕ × ℕ) → mark ≡ Some p → p.0 ≡ n → last ≤ p.1) → raised_by n mark a ≡ stamp_or n mark last
clock-by n a last None is up = is
clock-by n a last (Some mark) is up = clock-marked n a last mark is (up mark refl)

-- an item is the last one of its link
link-item : (n : ℕ) (item : Item) (run : List Turn) (items : List Item) → issued 0 n run ≡ reverse items
    → issued 0 n (Issued 0 item ∷ run) ≡ reverse (with_item n (Some item) items)
link-item n item run items is = grind (arith, common_steps, cases_eq, eq-eqb, reverse-append, ne_eqb)

over-item : (n : ℕ) (item : Item) (run : List Turn) (before : Bool) → ends_with false (issued 0 n run) ≡ before
    → ends_with false (issued 0 n (Issued 0 item ∷ run)) ≡ ends n (Some item) before
over-item n item run before is = grind (arith, common_steps, cases_eq, eq-eqb, ne_eqb)

module _ {nodes : ℕ} {items : ℕ → List Item} {overs : ℕ → Bool} {lasts : ℕ → ℕ} {letters : List Message}
    {past : List Step} {run : List Turn} (h : Mirrors nodes items overs lasts letters past run) where
  -- a stamp above the last one of a node is above its clock, and becomes it
  above : (p st : ℕ) → lasts p < st → last_stamp (layout_of nodes) p run < st
  above p st up = (let e : last_stamp (layout_of nodes) p run ≡ lasts p = h.clock p in omega (arith, e, up))

  clock-stamped : (p st n : ℕ) → lasts p < st
      → raised_by n (Some (p, st)) (last_stamp (layout_of nodes) n run) ≡ stamp_or n (Some (p, st)) (lasts n)
  clock-stamped p st n up = clock-marked n _ (lasts n) (p, st) (h.clock n)
      (λ same. (let u : lasts n < st = subst (λ k. lasts k < st) same up in omega arith))

  stays : (turn : Turn) (k : ℕ) (letter : Message) → slice_get letters k ≡ Some letter
      → turn_at (turn ∷ run) (sent_at k run) ≡ Some (Sends letter.from letter.stamp)
  stays turn k letter at = turn-keeps turn run (sent_at k run) _ (h.each k letter at)

  -- an item that a node issues
  issues : (p st num : ℕ) (body : Body) → p < numbered past → overs p ≡ false → num ≡ length (items p)
      → lasts p < st → IsRouted (layout_of nodes) 0 body
      → Mirrors nodes (λ n. with_item n (Some (an_item p num st body)) (items n))
      (λ n. ends n (Some (an_item p num st body)) (overs n)) (λ n. stamp_or n (Some (p, st)) (lasts n)) letters past
      (Issued 0 (an_item p num st body) ∷ run)
  issues p st num body inside active is up routed =
      let item = an_item p num st body in
      let number : num ≡ next_number (layout_of nodes) 0 p run =
      (let long : length (issued 0 p run) ≡ length (items p) = ap length (h.link p) ∙ length-reverse (items p) in
      let goal : num ≡ 0 + length (issued 0 p run) = omega arith in goal) in
      record {
        legal = (
          (
            one,
            subst (λ x. p < numbered x) (sym h.past_is) inside,
            h.over p ∙ active,
            number,
            above p st up,
            routed,
          ),
          h.legal,
        );
        past_is = h.past_is;
        link = λ n. link-item n item run (items n) (h.link n);
        over = λ n. over-item n item run (overs n) (h.over n);
        clock = λ n. clock-stamped p st n up;
        many = h.many;
        each = stays (Issued 0 item);
      }

  -- a message that a node sends
  sends : (p st : ℕ) → lasts p < st
      → Mirrors nodes items overs (λ n. stamp_or n (Some (p, st)) (lasts n))
      (letters ++ record { from = p; stamp = st } ∷ []) past (Sends p st ∷ run)
  sends p st up =
      let mine : Message = record { from = p; stamp = st } in
      let l : length (letters ++ mine ∷ []) ≡ length letters + 1 = length-append letters (mine ∷ []) in
      let m : messages run ≡ length letters = h.many in
      record {
        legal = (above p st up, h.legal);
        past_is = h.past_is;
        link = h.link;
        over = h.over;
        clock = λ n. clock-stamped p st n up;
        many = omega (arith, l, m);
        each = λ k letter at.
            elim (push-cases letters mine letter k at) [
              | inl old ↦
                  let within : k < length letters = slice_get_within letters k letter old in
                  rw (ne_eqb (messages run) k (λ e. omega (arith, e, within, m)))
                  (stays (Sends p st) k letter old)
              | inr new ↦
                  rw (eq-eqb (messages run) k (m ∙ sym new.0), eq-eqb (length run) (length run) refl)
                  (ap (λ (x : Message). Some (Sends x.from x.stamp)) new.1)
            ];
      }

  -- a message that a node receives
  receives : (p st k : ℕ) (letter : Message) → slice_get letters k ≡ Some letter → lasts p < st → letter.stamp < st
      → Mirrors nodes items overs (λ n. stamp_or n (Some (p, st)) (lasts n)) letters past
      (Receives p (sent_at k run) st ∷ run)
  receives p st k letter at up above_it = record {
    legal = ((above p st up, (letter.from, letter.stamp, h.each k letter at, above_it)), h.legal);
    past_is = h.past_is;
    link = h.link;
    over = h.over;
    clock = λ n. clock-stamped p st n up;
    many = h.many;
    each = stays (Receives p (sent_at k run) st);
  }

  -- the store that a node observes
  observes : (p st at : ℕ) → at ≤ floor past → lasts p < st → at < st
      → Mirrors nodes items overs (λ n. stamp_or n (Some (p, st)) (lasts n)) letters past (Observes p 0 at st ∷ run)
  observes p st at low up above_it = record {
    legal = ((above p st up, one, subst (λ x. at ≤ floor x) (sym h.past_is) low, above_it), h.legal);
    past_is = h.past_is;
    link = h.link;
    over = h.over;
    clock = λ n. clock-stamped p st n up;
    many = h.many;
    each = stays (Observes p 0 at st);
  }

  -- a step of the store
  steps : (step : Step) → IsLegalPast (step ∷ past) → IsIssuedStep 0 step run
      → ((p : ℕ × ℕ) → start_of (layout_of nodes) 0 step ≡ Some p → lasts p.0 ≤ p.1)
      → Mirrors nodes items overs (λ n. stamp_or n (start_of (layout_of nodes) 0 step) (lasts n)) letters
      (step ∷ past) (Stepped 0 step ∷ run)
  steps step legal is_issued starts = record {
    legal = ((one, subst (λ x. IsLegalPast (step ∷ x)) (sym h.past_is) legal, is_issued), h.legal);
    past_is = past-same (layout_of nodes) 0 0 step run refl ∙ ap (λ x. step ∷ x) h.past_is;
    link = h.link;
    over = h.over;
    clock = λ n. clock-by n (last_stamp (layout_of nodes) n run) (lasts n) (start_of (layout_of nodes) 0 step)
        (h.clock n) (λ p e same. subst (λ k. lasts k ≤ p.1) same (starts p e));
    many = h.many;
    each = stays (Stepped 0 step);
  }

-- what is said of this schedule, where the core's past after it is this one, and its run is this one
abbrev MirrorsAt : ℕ → List (Event × Reply) → (ℕ → ℕ) → List Step → List Turn → Type 0
MirrorsAt nodes s lasts past run =
    Mirrors nodes (λ n. issued_by n s) (λ n. has_retired n s) lasts (sent s) past run

-- the run of a schedule says what the schedule says
abbrev pub IsMirrored : ℕ → List (Event × Reply) → Type 0
IsMirrored nodes s = MirrorsAt nodes s (λ n. clock_of n s) (core_past nodes s) (run_of nodes s)

issued-mirrors : (nodes : ℕ) (s : List (Event × Reply)) (p reading st num : ℕ) (body : Body) (rest : Option Refusal)
    → on_node nodes s p rest ≡ None → expected_issue (node_of p s) body reading ≡ Ok st
    → num ≡ length (issued_by p s) → IsRouted (layout_of nodes) 0 body → IsMirrored nodes s
    → Mirrors nodes (λ n. with_item n (Some (an_item p num st body)) (issued_by n s))
    (λ n. ends n (Some (an_item p num st body)) (has_retired n s)) (λ n. stamp_or n (Some (p, st)) (clock_of n s))
    (sent s) (core_past nodes s) (Issued 0 (an_item p num st body) ∷ run_of nodes s)
issued-mirrors nodes s p reading st num body rest none expected is routed h =
    let free = on_node-none nodes s p rest none in
    issues h p st num body free.0 free.1 is (issue-ok (node_of p s) body reading st expected).2 routed

received-mirrors : (nodes : ℕ) (s : List (Event × Reply)) (p reading st k : ℕ) (o : Option Message)
    → message_at k s ≡ o → IsReceived o (clock_of p s) reading st → IsMirrored nodes s
    → MirrorsAt nodes s (λ n. stamp_or n (Some (p, st)) (clock_of n s)) (core_past nodes s)
    (Receives p (sent_at k (run_of nodes s)) st ∷ run_of nodes s)
received-mirrors nodes s p reading st k None at is h = absurd is
received-mirrors nodes s p reading st k (Some letter) at is h =
    let up = sight-rises (clock_of p s) letter.stamp reading st is in
    receives h p st k letter at up.0 up.1

observed-mirrors : (nodes : ℕ) (s : List (Event × Reply)) (p reading st id : ℕ) (o : Option ℕ) → IsLegal nodes s
    → stamp_of id (core_past nodes s) ≡ o → IsObserved o (clock_of p s) reading st → IsMirrored nodes s
    → MirrorsAt nodes s (λ n. stamp_or n (Some (p, st)) (clock_of n s)) (core_past nodes s)
    (with_turn (observing p o st) (run_of nodes s))
observed-mirrors nodes s p reading st id None legal at is h = absurd is
observed-mirrors nodes s p reading st id (Some seen) legal at is h =
    let up = sight-rises (clock_of p s) seen reading st is in
    let low : seen ≤ floor (core_past nodes s) = stamp_in-all (λ x. x ≤ floor (core_past nodes s)) id seen
    (open_snapshots (core_past nodes s)) (open-low (core_past nodes s) (legal-past nodes s legal)) at in
    observes h p st seen low up.0 up.1

reversed : (items : List Item) (k : ℕ) (item : Item) → slice_get items k ≡ Some item → Contains (reverse items) item
reversed [] k item at = absurd (cc)
reversed (x ∷ items) zero item at =
    rw (reverse-append (x ∷ []) items, same_Some x item at) (Contains-push (reverse items) item)
reversed (x ∷ items) (suc k) item at =
    rw (reverse-append (x ∷ []) items)
    (Contains-append_left (reverse items) (x ∷ []) item (reversed items k item at))

taken-mirrors : (nodes : ℕ) (s : List (Event × Reply)) (p k st : ℕ) (o : Option Item) → IsLegal nodes s
    → slice_get (issued_by p s) k ≡ o → deliver_refusal (core_past nodes s) o ≡ None → IsMirrored nodes s
    → MirrorsAt nodes s (λ n. clock_of n s)
    (past_by nodes (with_entry (paired (accepted p st o) (accepting o)) (store_history s)))
    (with_turn (stepping (step_by (paired (accepted p st o) (accepting o)))) (run_of nodes s))
taken-mirrors nodes s p k st None legal at none h = h
taken-mirrors nodes s p k st (Some item) legal at none h =
    let own : item.node ≡ p = ((orderly nodes s legal p).each k item at).node in
    let there : Contains (issued 0 p (run_of nodes s)) item =
    subst (λ xs. Contains xs item) (sym (h.link p)) (reversed (issued_by p s) k item at) in
    steps h (Took item) (no-core _ none, legal-past nodes s legal)
    (subst (λ n. Contains (issued 0 n (run_of nodes s)) item) (sym own) there) (λ q e. absurd (cc))

mirrored-entry : (nodes : ℕ) (s : List (Event × Reply)) (event : Event) (reply : Reply) → MayReply nodes s event reply
    → IsLegal nodes s → IsMirrored nodes s → IsMirrored nodes ((event, reply) ∷ s)
mirrored-entry nodes s (Write p reading key value) (Stamped st num) allowed legal h =
    issued-mirrors nodes s p reading st num (a_write key (Some value)) _ allowed.0 allowed.1.0 allowed.1.1 refl h
mirrored-entry nodes s (Delete p reading key) (Stamped st num) allowed legal h =
    issued-mirrors nodes s p reading st num (a_write key None) _ allowed.0 allowed.1.0 allowed.1.1 refl h
mirrored-entry nodes s (Report p reading) (Stamped st num) allowed legal h =
    issued-mirrors nodes s p reading st num a_report _ allowed.0 allowed.1.0 allowed.1.1 tt h
mirrored-entry nodes s (Retire p reading) (Stamped st num) allowed legal h =
    issued-mirrors nodes s p reading st num a_retire _ allowed.0 allowed.1.0 allowed.1.1 tt h
mirrored-entry nodes s (Send p reading) (Sent st num) allowed legal h =
    sends h p st (stamp-rises (clock_of p s) reading st allowed.1.0)
mirrored-entry nodes s (Receive p reading k) (Received st) allowed legal h =
    received-mirrors nodes s p reading st k (message_at k s) refl allowed.1 h
mirrored-entry nodes s (Observe p reading id) (Observed st) allowed legal h =
    observed-mirrors nodes s p reading st id (stamp_of id (core_past nodes s)) legal refl allowed.1 h
mirrored-entry nodes s Join (Joined node start) allowed legal h =
    let fresh : clock_of node s ≡ 0 =
    (orderly nodes s legal node).fresh (let next = allowed.1.0 in omega (arith, next)) in
    let low : clock_of node s ≤ start = omega arith in
    steps h (JoinedAt node start)
    (legal-past nodes ((Join, Joined node start) ∷ s) (allowed, legal)) tt
    (λ p e. subst (λ (q : ℕ × ℕ). clock_of q.0 s ≤ q.1) (same_Some (node, start) p e) low)
mirrored-entry nodes s (Deliver p k) (Accepted st) allowed legal h =
    taken-mirrors nodes s p k st (slice_get (issued_by p s) k) legal refl (on_link-none nodes s p _ allowed.0).1 h
mirrored-entry nodes s (OpenAt at) (Snapshot id st) allowed legal h =
    steps h (OpenedAt st)
    (legal-past nodes ((OpenAt at, Snapshot id st) ∷ s) (allowed, legal)) tt (λ q e. absurd (cc))
mirrored-entry nodes s OpenFloor (Snapshot id st) allowed legal h =
    steps h (OpenedAt st)
    (legal-past nodes ((OpenFloor, Snapshot id st) ∷ s) (allowed, legal)) tt (λ q e. absurd (cc))
mirrored-entry nodes s (Read id key) (Answer value) allowed legal h = h
mirrored-entry nodes s (ListAll id) (Listing pairs) allowed legal h = h
mirrored-entry nodes s (Close id) (Closed st) allowed legal h =
    steps h (ClosedOf id)
    (legal-past nodes ((Close id, Closed st) ∷ s) (allowed, legal)) tt (λ q e. absurd (cc))
mirrored-entry nodes s Vacuum (Vacuumed report) allowed legal h =
    steps h (VacuumedTo report.floor)
    (legal-past nodes ((Vacuum, Vacuumed report) ∷ s) (allowed, legal)) tt (λ q e. absurd (cc))
mirrored-entry nodes s _ _ allowed legal h = h

-- the run of every legal schedule says what the schedule says
pub mirrored : (nodes : ℕ) (s : List (Event × Reply)) → IsLegal nodes s → IsMirrored nodes s
mirrored nodes [] legal =
    record {
      legal = new-begin (layout_of nodes) (λ s. (nodes, refl));
      past_is = refl;
      link = λ n. refl;
      over = λ n. refl;
      clock = λ n. refl;
      many = refl;
      each = λ k letter at. absurd (cc);
    }
mirrored nodes (entry ∷ s) legal =
    mirrored-entry nodes s entry.0 entry.1 legal.0 legal.1 (mirrored nodes s legal.1)
