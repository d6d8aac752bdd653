-- Each event of a schedule has its place in the run: its turn comes after those of the earlier events, and later turns
-- change neither it nor the numbers of the messages. An event of a node has the same stamp there, and what happened
-- before another event happened before it in the run: on nodes, through messages and through snapshots. Each turn with
-- a stamp is the place of an event with this stamp: no event is the run's alone.
use Rattle.std.proofs.lemmas.{Grind.common_steps, Option.slice_get_within, Option.same_Some}
use Rattle.std.proofs.Common.{◌≡◌, ℕ, ◌<◌, ◌≤◌, List, [], ◌∷◌, length, Some, None, Option, refl, sym, ◌∙◌, subst, inl}
use Rattle.std.proofs.Common.{inr, arith, ap, ◌⊎◌}
use Rattle.std.proofs.lemmas.Bool.{cond-true, cond-false, eq-eqb, ne_eqb}
use Rattle.hlc_world.specs.{declared.reply.Reply.Reply, Store.core_past, Store.share}
use Rattle.hlc_world_event.specs.Events.{Event}
use Rattle.hlc_world.specs.Expected.{IsLegal, MayReply}
use Rattle.hlc_world.specs.Before.{entry_at, write_stamp, IsStamped, HappenedBefore, on_node, on_message}
use Rattle.hlc_world.specs.Before.{on_observation, through}
use Rattle.hlc_world.proofs.ScheduleLemmas.{entry-cases, entry-inside, opened-found, opening, opening-later}
use Rattle.hlc_world.proofs.ScheduleLemmas.{open-opening, received-below, observed-below, legal-past}
use Rattle.hlc_ranges.specs.Run.{Turn, Issued, Sent as Sends, Received as Receives, Observed as Observes, turn_at}
use Rattle.hlc_ranges.specs.Run.{stamping_of}
use Rattle.hlc_ranges.proofs.TurnLemmas.{turn-keeps, turn-inside, turn-cases}
use Rattle.hlc_world_run.specs.RunOf.{messages, sent_at, turn_of, with_turn, run_of, place, layout_of, observing}
use Rattle.hlc_world_run.specs.RunOf.{step_by, stepping}
use Rattle.hlc_node.specs.{declared.item.Item.Item, Items.an_item}
use Rattle.hlc_node.specs.declared.item.Body.TheVariants.{Write as a_write, Report as a_report, Retire as a_retire}
use Rattle.hlc_core.specs.Past.{stamp_of, Step}
use Rattle.hlc_world_event.specs.declared.event.Event.TheVariants.{Write, Delete, Report, Retire, Send, Receive}
use Rattle.hlc_world_event.specs.declared.event.Event.TheVariants.{Observe}
use Rattle.hlc_world.specs.declared.reply.Reply.TheVariants.{Stamped, Sent, Received, Observed}
use Rattle.hlc_world.specs.Schedule.{stamping_of as stamped_by, message_at, sent}
use Rattle.hlc_ranges.specs.Before.{HappenedBefore as HappenedBeforeIn, IsStamped as IsStampedIn, on_machine}
use Rattle.hlc_ranges.specs.Before.{on_message as on_message_in, on_observation as on_observation_in}
use Rattle.hlc_ranges.specs.Before.{through as through_in}
use Rattle.hlc_world_run.proofs.Mirrors.{mirrored}

messages-grow : (o : Option Turn) (run : List Turn) → messages run ≤ messages (with_turn o run)
messages-grow None run = omega arith
messages-grow (Some (Sends m st)) run = omega arith
messages-grow (Some turn) run = omega arith

sent-keeps : (o : Option Turn) (run : List Turn) (k : ℕ) → k < messages run
    → sent_at k (with_turn o run) ≡ sent_at k run
sent-keeps None run k lt = refl
sent-keeps (Some (Sends m st)) run k lt = cond-false _ _ _ (ne_eqb (messages run) k (λ e. omega (arith, e, lt)))
sent-keeps (Some turn) run k lt = refl

turn-stays : (o : Option Turn) (run : List Turn) (i : ℕ) (turn : Turn) → turn_at run i ≡ Some turn
    → turn_at (with_turn o run) i ≡ Some turn
turn-stays None run i turn at = at
turn-stays (Some last) run i turn at = turn-keeps last run i turn at

turn-here : (o : Option Turn) (run : List Turn) (turn : Turn) → o ≡ Some turn
    → turn_at (with_turn o run) (length run) ≡ Some turn
turn-here o run turn is = rw (is, eq-eqb (length run) (length run) refl)

pub entry-keeps : (entry : Event × Reply) (s : List (Event × Reply)) (i : ℕ) (x : Event × Reply)
    → entry_at s i ≡ Some x → entry_at (entry ∷ s) i ≡ Some x
entry-keeps entry s i x at =
    cond-false _ _ _ (ne_eqb i (length s) (λ e. (let l = entry-inside s i x at in omega (arith, l, e)))) ∙ at

-- the place of an earlier event
pub place-earlier : (nodes : ℕ) (entry : Event × Reply) (s : List (Event × Reply)) (i : ℕ) → (i ≡ length s → ⊥)
    → place nodes (entry ∷ s) i ≡ place nodes s i
place-earlier nodes entry s i other = cond-false _ _ _ (ne_eqb i (length s) other)

-- the place of the last event
pub place-last : (nodes : ℕ) (entry : Event × Reply) (s : List (Event × Reply)) (i : ℕ) → i ≡ length s
    → place nodes (entry ∷ s) i ≡ length (run_of nodes s)
place-last nodes entry s i last = cond-true _ _ _ (eq-eqb i (length s) last)

-- the schedule before the event of this turn, and what is left of it in the whole one
pub record IsPlaced (nodes : ℕ) (s : List (Event × Reply)) (i : ℕ) (entry : Event × Reply) : Type 0 where
  pub before : List (Event × Reply)
  pub legal : IsLegal nodes (entry ∷ before)
  pub at : place nodes s i ≡ length (run_of nodes before)
  pub turn : (turn : Turn) → turn_of nodes before (run_of nodes before) entry.0 entry.1 ≡ Some turn
      → turn_at (run_of nodes s) (place nodes s i) ≡ Some turn
  pub grows : messages (run_of nodes (entry ∷ before)) ≤ messages (run_of nodes s)
  pub keeps : (k : ℕ) → k < messages (run_of nodes (entry ∷ before)) → sent_at k (run_of nodes s)
      ≡ sent_at k (run_of nodes (entry ∷ before))
  pub opens : (id stamp : ℕ) → opening id (core_past nodes before) ≡ Some stamp
      → opening id (core_past nodes s) ≡ Some stamp

pub placed : (nodes : ℕ) (s : List (Event × Reply)) (i : ℕ) (x : Event × Reply) → IsLegal nodes s
    → entry_at s i ≡ Some x → IsPlaced nodes s i x
placed nodes [] i x legal at = absurd (cc)
placed nodes (entry ∷ s) i x legal at =
    let o : Option Turn = turn_of nodes s (run_of nodes s) entry.0 entry.1 in
    elim (entry-cases entry s i x at) [
      | inl here ↦
          let p : place nodes (entry ∷ s) i ≡ length (run_of nodes s) = place-last nodes entry s i here.0 in
          subst (λ y. IsPlaced nodes (entry ∷ s) i y) here.1 (record {
            before = s;
            legal = legal;
            at = p;
            turn = λ t e. rw p (turn-here o (run_of nodes s) t e);
            grows = omega arith;
            keeps = λ k lt. refl;
            opens = λ id stamp. opening-later nodes entry s id stamp legal;
          })
      | inr there ↦
          let r = placed nodes s i x legal.1 there.1 in
          let p : place nodes (entry ∷ s) i ≡ place nodes s i = place-earlier nodes entry s i there.0 in
          let g : messages (run_of nodes (x ∷ r.before)) ≤ messages (run_of nodes s) = r.grows in
          record {
            before = r.before;
            legal = r.legal;
            at = p ∙ r.at;
            turn = λ t e. rw p (turn-stays o (run_of nodes s) (place nodes s i) t (r.turn t e));
            grows = (let more = messages-grow o (run_of nodes s) in omega (arith, g, more));
            keeps = λ k lt. sent-keeps o (run_of nodes s) k (omega (arith, lt, g)) ∙ r.keeps k lt;
            opens = λ id stamp is. opening-later nodes entry s id stamp legal (r.opens id stamp is);
          }
    ]

-- an event with a stamp is a turn with that stamp
record HasTurn (nodes : ℕ) (s : List (Event × Reply)) (event : Event) (reply : Reply) (of : ℕ × ℕ) : Type 0 where
  pub turn : Turn
  pub is : turn_of nodes s (run_of nodes s) event reply ≡ Some turn
  pub mark : stamping_of (layout_of nodes) turn ≡ Some of

has-turn : (nodes : ℕ) (s : List (Event × Reply)) (event : Event) (reply : Reply) (mark : ℕ × ℕ)
    → MayReply nodes s event reply → stamped_by event reply ≡ Some mark → HasTurn nodes s event reply mark
has-turn nodes s (Write n r key value) (Stamped st k) mark allowed h =
    record { turn = Issued 0 (an_item n k st (a_write key (Some value))); is = refl; mark = h }
has-turn nodes s (Delete n r key) (Stamped st k) mark allowed h =
    record { turn = Issued 0 (an_item n k st (a_write key None)); is = refl; mark = h }
has-turn nodes s (Report n r) (Stamped st k) mark allowed h =
    record { turn = Issued 0 (an_item n k st a_report); is = refl; mark = h }
has-turn nodes s (Retire n r) (Stamped st k) mark allowed h =
    record { turn = Issued 0 (an_item n k st a_retire); is = refl; mark = h }
has-turn nodes s (Send n r) (Sent st k) mark allowed h = record { turn = Sends n st; is = refl; mark = h }
has-turn nodes s (Receive n r k) (Received st) mark allowed h =
    record { turn = Receives n (sent_at k (run_of nodes s)) st; is = refl; mark = h }
has-turn nodes s (Observe n r id) (Observed st) mark allowed h =
    let sight = observed-below (stamp_of id (core_past nodes s)) _ r st allowed.1 in
    record { turn = Observes n 0 sight.0 st; is = ap (λ o. observing n o st) sight.1; mark = h }
has-turn nodes s _ _ mark allowed h = absurd (cc)

-- an event with a stamp has a place before that of each later event
place-less : (nodes : ℕ) (s : List (Event × Reply)) (i j : ℕ) (x y : Event × Reply) (mark : ℕ × ℕ) → IsLegal nodes s
    → i < j → entry_at s i ≡ Some x → stamped_by x.0 x.1 ≡ Some mark → entry_at s j ≡ Some y
    → place nodes s i < place nodes s j
place-less nodes [] i j x y mark legal lt at_i m at_j = absurd (cc)
place-less nodes (entry ∷ s) i j x y mark legal lt at_i m at_j =
    let in_j : j < length (entry ∷ s) = entry-inside (entry ∷ s) j y at_j in
    elim (entry-cases entry s i x at_i) [
      | inl here ↦ absurd (let e : i ≡ length s = here.0 in omega arith)
      | inr there ↦
          let p : place nodes (entry ∷ s) i ≡ place nodes s i = place-earlier nodes entry s i there.0 in
          elim (entry-cases entry s j y at_j) [
            | inr earlier ↦
                let q : place nodes (entry ∷ s) j ≡ place nodes s j = place-earlier nodes entry s j earlier.0 in
                let l : place nodes s i < place nodes s j =
                place-less nodes s i j x y mark legal.1 lt there.1 m earlier.1 in omega (arith, p, q, l)
            | inl last ↦
                let q : place nodes (entry ∷ s) j ≡ length (run_of nodes s) = place-last nodes entry s j last.0 in
                let at = placed nodes s i x legal.1 there.1 in
                let t = has-turn nodes at.before x.0 x.1 mark at.legal.0 m in
                let l : place nodes s i < length (run_of nodes s) =
                turn-inside (run_of nodes s) (place nodes s i) t.turn (at.turn t.turn t.is) in omega (arith, p, q, l)
          ]
    ]

pub stamped : (nodes : ℕ) (s : List (Event × Reply)) (i n stamp : ℕ) → IsLegal nodes s → IsStamped s i n stamp
    → IsStampedIn (layout_of nodes) (run_of nodes s) (place nodes s i) n stamp
stamped nodes s i n stamp legal h =
    let at = placed nodes s i h.entry legal h.at in
    let t = has-turn nodes at.before h.entry.0 h.entry.1 (n, stamp) at.legal.0 h.mark in
    record { turn = t.turn; at = at.turn t.turn t.is; mark = t.mark }

-- a write or a deletion is the turn of an item
written : (nodes : ℕ) (s : List (Event × Reply)) (event : Event) (reply : Reply) (stamp : ℕ)
    → write_stamp event reply ≡ Some stamp
    → (item : Item) × (turn_of nodes s (run_of nodes s) event reply ≡ Some (Issued 0 item)) × (item.stamp ≡ stamp)
written nodes s (Write n r key value) (Stamped st k) stamp is =
    (an_item n k st (a_write key (Some value)), refl, same_Some st stamp is)
written nodes s (Delete n r key) (Stamped st k) stamp is =
    (an_item n k st (a_write key None), refl, same_Some st stamp is)
written nodes s _ _ stamp is = absurd (cc)

-- the place of a send is the turn of its message
sent-place : (nodes : ℕ) (s : List (Event × Reply)) (i n r st k : ℕ) → IsLegal nodes s
    → entry_at s i ≡ Some (Send n r, Sent st k) → sent_at k (run_of nodes s) ≡ place nodes s i
sent-place nodes s i n r st k legal h =
    let at = placed nodes s i (Send n r, Sent st k) legal h in
    let next : k ≡ length (sent at.before) = at.legal.0.1.1 in
    let many : messages (run_of nodes at.before) ≡ length (sent at.before) =
    (mirrored nodes at.before at.legal.1).many in
    at.keeps k (omega (arith, next, many))
    ∙ cond-true _ _ _ (eq-eqb (messages (run_of nodes at.before)) k (many ∙ sym next)) ∙ sym at.at

-- a receipt is the turn of the message that was sent in the place of its send
received-turn : (nodes : ℕ) (s : List (Event × Reply)) (j m q k st i : ℕ) → IsLegal nodes s
    → entry_at s j ≡ Some (Receive m q k, Received st) → sent_at k (run_of nodes s) ≡ i
    → turn_at (run_of nodes s) (place nodes s j) ≡ Some (Receives m i st)
received-turn nodes s j m q k st i legal g is =
    let at = placed nodes s j (Receive m q k, Received st) legal g in
    let found = received-below (message_at k at.before) _ q st at.legal.0.1 in
    let within : k < length (sent at.before) = slice_get_within (sent at.before) k found.0 found.1 in
    let many : messages (run_of nodes at.before) ≡ length (sent at.before) =
    (mirrored nodes at.before at.legal.1).many in
    at.turn (Receives m (sent_at k (run_of nodes at.before)) st) refl
    ∙ ap (λ x. Some (Receives m x st)) (sym (at.keeps k (omega (arith, within, many))) ∙ is)

pub ordered : (nodes : ℕ) (s : List (Event × Reply)) → IsLegal nodes s → {i j : ℕ} → HappenedBefore s i j
    → HappenedBeforeIn (layout_of nodes) (run_of nodes s) (place nodes s i) (place nodes s j)
ordered nodes s legal (on_node {first} {later} n a b lt h k) =
    on_machine n a b (place-less nodes s first later h.entry k.entry (n, a) legal lt h.at h.mark k.at)
    (stamped nodes s first n a legal h) (stamped nodes s later n b legal k)
ordered nodes s legal (on_message {first} {later} n r a k m q b h g) =
    let x = placed nodes s first (Send n r, Sent a k) legal h in
    on_message_in n a m b (x.turn (Sends n a) refl)
    (received-turn nodes s later m q k b (place nodes s first) legal g (sent-place nodes s first n r a k legal h))
ordered nodes s legal (on_observation {first} {later} a n r id at b written-at opened low h) =
    let x = placed nodes s first written-at.entry legal written-at.at in
    let item = written nodes x.before written-at.entry.0 written-at.entry.1 a written-at.written in
    let y = placed nodes s later (Observe n r id, Observed b) legal h in
    let sight = observed-below (stamp_of id (core_past nodes y.before)) _ r b y.legal.0.1 in
    let same : Some at ≡ Some sight.0 =
    sym (opened-found nodes s opened.turn opened.event id at legal opened.at)
    ∙ y.opens id sight.0
    (open-opening (core_past nodes y.before) id sight.0 (legal-past nodes y.before y.legal.1) sight.1) in
    let e : at ≡ sight.0 = same_Some at sight.0 same in
    let f : item.0.stamp ≡ a = item.2 in
    let low' : a ≤ at = low in
    on_observation_in 0 item.0 n sight.0 b (x.turn (Issued 0 item.0) item.1) (omega arith)
    (y.turn (Observes n 0 sight.0 b) (ap (λ o. observing n o b) sight.1))
ordered nodes s legal (through x y) = through_in (ordered nodes s legal x) (ordered nodes s legal y)

with-cases : (o : Option Turn) (run : List Turn) (i : ℕ) (x : Turn) → turn_at (with_turn o run) i ≡ Some x
    → ((i ≡ length run) × (o ≡ Some x)) ⊎ (turn_at run i ≡ Some x)
with-cases None run i x h = inr h
with-cases (Some turn) run i x h = grind (arith, common_steps, turn-cases)

observing-made : (nodes n st : ℕ) (o : Option ℕ) (turn : Turn) (mark : ℕ × ℕ) → observing n o st ≡ Some turn
    → stamping_of (layout_of nodes) turn ≡ Some mark → Some (n, st) ≡ Some mark
observing-made nodes n st None turn mark is h = absurd (cc)
observing-made nodes n st (Some at) turn mark is h = rw (← same_Some _ turn is) at h

-- a step has no stamp
stepping-none : (nodes : ℕ) (o : Option Step) (turn : Turn) (mark : ℕ × ℕ) → stepping o ≡ Some turn
    → stamping_of (layout_of nodes) turn ≡ Some mark → ⊥
stepping-none nodes None turn mark is h = absurd (cc)
stepping-none nodes (Some step) turn mark is h =
    absurd (let e : None ≡ Some mark = rw (← same_Some _ turn is) at h in cc)

-- an event has the stamp of its turn
made : (nodes : ℕ) (s : List (Event × Reply)) (event : Event) (reply : Reply) (turn : Turn) (mark : ℕ × ℕ)
    → turn_of nodes s (run_of nodes s) event reply ≡ Some turn → stamping_of (layout_of nodes) turn ≡ Some mark
    → stamped_by event reply ≡ Some mark
made nodes s (Write n r key value) (Stamped st k) turn mark is h = rw (← same_Some _ turn is) at h
made nodes s (Delete n r key) (Stamped st k) turn mark is h = rw (← same_Some _ turn is) at h
made nodes s (Report n r) (Stamped st k) turn mark is h = rw (← same_Some _ turn is) at h
made nodes s (Retire n r) (Stamped st k) turn mark is h = rw (← same_Some _ turn is) at h
made nodes s (Send n r) (Sent st k) turn mark is h = rw (← same_Some _ turn is) at h
made nodes s (Receive n r k) (Received st) turn mark is h = rw (← same_Some _ turn is) at h
made nodes s (Observe n r id) (Observed st) turn mark is h =
    observing-made nodes n st (stamp_of id (core_past nodes s)) turn mark is h
made nodes s event reply turn mark is h =
    absurd (stepping-none nodes (step_by (share s event reply)) turn mark is h)

pub events : (nodes : ℕ) (s : List (Event × Reply)) (number n stamp : ℕ)
    → IsStampedIn (layout_of nodes) (run_of nodes s) number n stamp
    → (turn : ℕ) × (place nodes s turn ≡ number) × IsStamped s turn n stamp
events nodes [] number n stamp h = absurd (let at : turn_at [] number ≡ Some h.turn = h.at in cc)
events nodes (entry ∷ s) number n stamp h =
    elim (with-cases (turn_of nodes s (run_of nodes s) entry.0 entry.1) (run_of nodes s) number h.turn h.at) [
      | inl here ↦ (
        length s,
        place-last nodes entry s (length s) refl ∙ sym here.0,
        record {
          entry = entry;
          at = cond-true _ _ _ (eq-eqb (length s) (length s) refl);
          mark = made nodes s entry.0 entry.1 h.turn (n, stamp) here.1 h.mark;
        },
      )
      | inr there ↦
          let r = events nodes s number n stamp (record { turn = h.turn; at = there; mark = h.mark }) in
          let in_r = entry-inside s r.0 r.2.entry r.2.at in (
            r.0,
            place-earlier nodes entry s r.0 (λ e. omega (arith, in_r, e)) ∙ r.1,
            record { entry = r.2.entry; at = entry-keeps entry s r.0 r.2.entry r.2.at; mark = r.2.mark },
          )
    ]
