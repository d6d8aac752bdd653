-- Stamps follow events: each stamp of a node lies above its last one, each receipt above its message's stamp, which is
-- that of its send, and each observation above its snapshot's stamp, which is that of its opening: an id is one above
-- the last id before, so it is assigned once. So an open snapshot is closed under happened-before: what happened before
-- an item that is read there has a lesser stamp, so it is at or below the snapshot's stamp, which is not above the
-- floor; and what is at or below the floor was accepted.
use Rattle.std.proofs.lemmas.{Grind.common_steps, Option.same_Some, Option.slice_get_within}
use Rattle.std.proofs.Common.{◌≡◌, ℕ, ◌<◌, ◌≤◌, ◌⊎◌, List, [], ◌∷◌, ◌++◌, length, Some, None, Option, refl, ap, sym}
use Rattle.std.proofs.Common.{◌∙◌, subst, inl, inr, arith, ◌+◌}
use Rattle.std.specs.Prelude.{slice_get, ◌==◌, if◌then◌else◌, All, Contains}
use Rattle.std.proofs.lemmas.Bool.{cond-true, eq-eqb, cases_eq, cond-false, ne_eqb}
use Rattle.hlc_node.specs.declared.item.{Message.Message, Item.Item}
use Rattle.hlc_node.specs.declared.item.Body.TheVariants.{Write as a_write, Report as a_report, Retire as a_retire}
use Rattle.hlc_world_event.specs.declared.event.Event.TheVariants.{Write, Delete, Report, Retire, Join, Send, Receive}
use Rattle.hlc_world_event.specs.declared.event.Event.TheVariants.{Observe, OpenAt, OpenFloor}
use Rattle.hlc_world.specs.{declared.reply.Reply.Reply, Floor.IsIssuedAt, Floor.IsClosed}
use Rattle.hlc_world.specs.declared.reply.Reply.TheVariants.{Stamped, Joined, Sent, Received, Observed, Snapshot}
use Rattle.hlc_world.specs.Schedule.{stamping_of, mark_of, stamp_or, message_made, with_message, last_stamp, sent}
use Rattle.hlc_world.specs.Schedule.{message_at, node_of, item_made, with_item, issued}
use Rattle.hlc_world_event.specs.Events.{Event}
use Rattle.hlc_world.specs.Expected.{IsReceived, MayReply, IsLegal, IsObserved}
use Rattle.hlc_world.specs.Before.{entry_at, write_stamp, IsStamped, HappenedBefore, on_node, on_message}
use Rattle.hlc_world.specs.Before.{on_observation, through}
use Rattle.hlc_world.proofs.{Lists.get-append_left, Lists.get-push, Histories.legal-past}
use Rattle.hlc_world.proofs.Orderly.{IsOrderly, orderly, issue-ok, stamp-rises, sight-rises, received-rises}
use Rattle.hlc_world.proofs.Orderly.{observed-rises, complete}
use Rattle.std.proofs.lemmas.List.Elements.{All-head, All-tail, Contains-append_left, Contains-push}
use Rattle.hlc_snapshot.specs.{declared.snapshot.Snapshot.Snapshot as OpenSnapshot, RegistryView.stamp_in}
use Rattle.hlc_snapshot.proofs.RegisterLemmas.{stamp_in-push_cases, stamp_in-without_itself, stamp_in-without_other}
use Rattle.hlc_snapshot.proofs.RegisterLemmas.{stamp_in-miss, stamp_in-all}
use Rattle.hlc_events.specs.declared.event.CoreEvent.{CoreEvent}
use Rattle.hlc_core.specs.{declared.reply.CoreReply.CoreReply, History.step_of, History.with_step, History.past_of}
use Rattle.hlc_core.specs.Past.{Step, Began, Opened, Closed as ClosedOf, Joined as JoinedOf, last_id, open_snapshots}
use Rattle.hlc_core.specs.Past.{stamp_of, IsLegal as IsLegalPast, floor}
use Rattle.hlc_world.specs.Store.{share, with_entry, store_history, core_past}
use Rattle.hlc_core.proofs.PastLemmas.{open-low}

-- an entry is the last one or an earlier one
pub entry-cases : (entry : Event × Reply) (s : List (Event × Reply)) (i : ℕ) (x : Event × Reply)
    → entry_at (entry ∷ s) i ≡ Some x → ((i ≡ length s) × (entry ≡ x)) ⊎ ((i ≡ length s → ⊥) × (entry_at s i ≡ Some x))
entry-cases entry s i x h = grind (arith, common_steps, cases_eq, same_Some, cond-true, eq-eqb, cond-false, ne_eqb)

pub entry-inside : (s : List (Event × Reply)) (i : ℕ) (x : Event × Reply) → entry_at s i ≡ Some x → i < length s
entry-inside [] i x h = absurd (cc)
entry-inside (entry ∷ s) i x h =
    elim (entry-cases entry s i x h) [
      | inl here ↦ (let e : i ≡ length s = here.0 in omega arith)
      | inr there ↦ (let l : i < length s = entry-inside s i x there.1 in omega arith)
    ]

-- what is so after an event, and stays so, is so
from-entry : (nodes : ℕ) (P : List (Event × Reply) → Type 0) (x : Event × Reply)
    → ((entry : Event × Reply) (r : List (Event × Reply)) → IsLegal nodes (entry ∷ r) → P r → P (entry ∷ r))
    → ((r : List (Event × Reply)) → IsLegal nodes (x ∷ r) → P (x ∷ r))
    → (s : List (Event × Reply)) (i : ℕ) → IsLegal nodes s → entry_at s i ≡ Some x → P s
from-entry nodes P x stays here [] i legal at = absurd (cc)
from-entry nodes P x stays here (entry ∷ s) i legal at =
    elim (entry-cases entry s i x at) [
      | inr there ↦ stays entry s legal (from-entry nodes P x stays here s i legal.1 there.1)
      | inl last ↦
          subst (λ y. P (y ∷ s)) (sym last.1) (here s (subst (λ y. IsLegal nodes (y ∷ s)) last.1 legal))
    ]

-- the stamp at which the snapshot of this id was opened, whether it is still open or closed
abbrev pub opening : ℕ → List Step → Option ℕ
opening id [] = None
opening id (Opened stamp ∷ past) = if last_id past + 1 == id then Some stamp else opening id past
opening id (Began kept ∷ past) = stamp_in id kept.snapshots
opening id (_ ∷ past) = opening id past

-- an open snapshot of a register has none of the ids above the last one
stamped-low : (last id stamp : ℕ) (xs : List OpenSnapshot)
    → All (λ (snapshot : OpenSnapshot). (0 < snapshot.id) × (snapshot.id ≤ last)) xs → stamp_in id xs ≡ Some stamp
    → id ≤ last
stamped-low last id stamp [] bounded is = absurd (cc)
stamped-low last id stamp (x ∷ xs) bounded is =
    elim (cases_eq x.id id) [
      | inl same ↦
          let here = All-head (λ (snapshot : OpenSnapshot). (0 < snapshot.id) × (snapshot.id ≤ last)) x xs bounded in
          let low : x.id ≤ last = here.1 in omega (arith, same)
      | inr other ↦
          stamped-low last id stamp xs
          (All-tail (λ (snapshot : OpenSnapshot). (0 < snapshot.id) × (snapshot.id ≤ last)) x xs bounded)
          (sym (stamp_in-miss id x xs other) ∙ is)
    ]

opening-low : (past : List Step) (id stamp : ℕ) → IsLegalPast past → opening id past ≡ Some stamp → id ≤ last_id past
opening-low [] id stamp legal is = absurd (cc)
opening-low (Began kept ∷ past) id stamp legal is =
    stamped-low kept.last_id id stamp kept.snapshots legal.2.store.register.bounded is
opening-low (JoinedOf node start ∷ past) id stamp legal is = opening-low past id stamp legal.3 is
opening-low (Opened at ∷ past) id stamp legal is =
    elim (cases_eq (last_id past + 1) id) [
      | inl same ↦ omega arith
      | inr other ↦
          (let low : id ≤ last_id past =
          opening-low past id stamp legal.1 (sym (cond-false _ _ _ (ne_eqb _ _ other)) ∙ is) in
          omega arith)
    ]
opening-low (step ∷ past) id stamp legal is = opening-low past id stamp legal.1 is

opening-stays : (step : Step) (past : List Step) (id stamp : ℕ) → IsLegalPast (step ∷ past)
    → opening id past ≡ Some stamp → opening id (step ∷ past) ≡ Some stamp
opening-stays (Began kept) past id stamp legal is =
    absurd (let e : None ≡ Some stamp = sym (ap (λ (p : List Step). opening id p) legal.0) ∙ is in cc)
opening-stays (Opened at) past id stamp legal is =
    cond-false _ _ _ (ne_eqb (last_id past + 1) id
    (λ e. let low : id ≤ last_id past = opening-low past id stamp legal.1 is in omega arith)) ∙ is
opening-stays step past id stamp legal is = is

opening-step : (o : Option Step) (past : List Step) (id stamp : ℕ) → IsLegalPast (with_step o past)
    → opening id past ≡ Some stamp → opening id (with_step o past) ≡ Some stamp
opening-step None past id stamp legal is = is
opening-step (Some step) past id stamp legal is = opening-stays step past id stamp legal is

opening-entry : (nodes : ℕ) (o : Option (CoreEvent × CoreReply)) (h : List (CoreEvent × CoreReply)) (id stamp : ℕ)
    → IsLegalPast (past_of nodes (with_entry o h)) → opening id (past_of nodes h) ≡ Some stamp
    → opening id (past_of nodes (with_entry o h)) ≡ Some stamp
opening-entry nodes None h id stamp legal is = is
opening-entry nodes (Some entry) h id stamp legal is =
    opening-step (step_of entry.0 entry.1) (past_of nodes h) id stamp legal is

pub opening-later : (nodes : ℕ) (entry : Event × Reply) (s : List (Event × Reply)) (id stamp : ℕ)
    → IsLegal nodes (entry ∷ s) → opening id (core_past nodes s) ≡ Some stamp
    → opening id (core_past nodes (entry ∷ s)) ≡ Some stamp
opening-later nodes entry s id stamp legal is =
    opening-entry nodes (share s entry.0 entry.1) (store_history s) id stamp (legal-past nodes (entry ∷ s) legal) is

opening-here : (past : List Step) (id stamp : ℕ) → id ≡ last_id past + 1 → opening id (Opened stamp ∷ past) ≡ Some stamp
opening-here past id stamp is = cond-true _ _ _ (eq-eqb _ _ (sym is))

-- an open snapshot has the stamp of its opening
pub open-opening : (past : List Step) (id stamp : ℕ) → IsLegalPast past → stamp_of id past ≡ Some stamp
    → opening id past ≡ Some stamp
open-opening [] id stamp legal is = absurd (cc)
open-opening (Began kept ∷ past) id stamp legal is = is
open-opening (JoinedOf node start ∷ past) id stamp legal is = open-opening past id stamp legal.3 is
open-opening (Opened at ∷ past) id stamp legal is =
    elim (stamp_in-push_cases id stamp (record { id = last_id past + 1; stamp = at }) (open_snapshots past) is) [
      | inl before ↦ opening-stays (Opened at) past id stamp legal (open-opening past id stamp legal.1 before)
      | inr last ↦ opening-here past id at (sym last.0) ∙ ap Some last.1
    ]
open-opening (ClosedOf other ∷ past) id stamp legal is =
    elim (cases_eq id other) [
      | inl same ↦ absurd (let e : None ≡ Some stamp = sym (stamp_in-without_itself id (open_snapshots past))
          ∙ subst (λ k. stamp_in id (open_snapshots (ClosedOf k ∷ past)) ≡ Some stamp) (sym same) is in cc)
      | inr differs ↦
          open-opening past id stamp legal.1
          (sym (stamp_in-without_other other id (open_snapshots past) differs) ∙ is)
    ]
open-opening (step ∷ past) id stamp legal is = open-opening past id stamp legal.1 is

opened-here : (nodes : ℕ) (s : List (Event × Reply)) (event : Event) (id stamp : ℕ)
    → MayReply nodes s event (Snapshot id stamp)
    → opening id (core_past nodes ((event, Snapshot id stamp) ∷ s)) ≡ Some stamp
opened-here nodes s (OpenAt at) id stamp allowed = opening-here (core_past nodes s) id stamp allowed.1.0
opened-here nodes s OpenFloor id stamp allowed = opening-here (core_past nodes s) id stamp allowed.1.0
opened-here nodes s _ id stamp allowed = absurd allowed.1

-- the reply to an opening has the snapshot's stamp
pub opened-found : (nodes : ℕ) (s : List (Event × Reply)) (turn : ℕ) (event : Event) (id stamp : ℕ) → IsLegal nodes s
    → entry_at s turn ≡ Some (event, Snapshot id stamp) → opening id (core_past nodes s) ≡ Some stamp
opened-found nodes s turn event id stamp legal at =
    from-entry nodes (λ r. opening id (core_past nodes r) ≡ Some stamp) (event, Snapshot id stamp)
    (λ entry r. opening-later nodes entry r id stamp) (λ r now. opened-here nodes r event id stamp now.0) s turn
    legal at

pub observed-below : (o : Option ℕ) (last reading t : ℕ) → IsObserved o last reading t
    → (seen : ℕ) × (o ≡ Some seen) × (seen < t)
observed-below None last reading t h = absurd h
observed-below (Some seen) last reading t h = (seen, refl, (sight-rises last seen reading t h).1)

-- an observation lies above its snapshot's stamp
observed-above : (nodes : ℕ) (s : List (Event × Reply)) (turn n r id t : ℕ)
    → IsLegal nodes s → entry_at s turn ≡ Some (Observe n r id, Observed t)
    → (stamp : ℕ) × (opening id (core_past nodes s) ≡ Some stamp) × (stamp < t)
observed-above nodes s turn n r id t legal at =
    from-entry nodes (λ q. (stamp : ℕ) × (opening id (core_past nodes q) ≡ Some stamp) × (stamp < t))
    (Observe n r id, Observed t) (λ entry q now x. (x.0, opening-later nodes entry q id x.0 now x.1, x.2))
    (λ q now. let x = observed-below (stamp_of id (core_past nodes q)) _ r t now.0.1 in
    (x.0, open-opening (core_past nodes q) id x.0 (legal-past nodes q now.1) x.1, x.2)) s turn legal at

-- a new stamp of a node lies above its last one
stamp-new : (nodes : ℕ) (s : List (Event × Reply)) (event : Event) (reply : Reply) (p : ℕ × ℕ)
    → MayReply nodes s event reply → stamping_of event reply ≡ Some p → last_stamp p.0 s < p.1
stamp-new nodes s (Write n reading key value) (Stamped st num) p allowed h = subst (λ q. last_stamp q.0 s < q.1)
    (same_Some (n, st) p h) (issue-ok (node_of n s) (a_write key (Some value)) reading st allowed.1.0).2
stamp-new nodes s (Delete n reading key) (Stamped st num) p allowed h = subst (λ q. last_stamp q.0 s < q.1)
    (same_Some (n, st) p h) (issue-ok (node_of n s) (a_write key None) reading st allowed.1.0).2
stamp-new nodes s (Report n reading) (Stamped st num) p allowed h = subst (λ q. last_stamp q.0 s < q.1)
    (same_Some (n, st) p h) (issue-ok (node_of n s) a_report reading st allowed.1.0).2
stamp-new nodes s (Retire n reading) (Stamped st num) p allowed h = subst (λ q. last_stamp q.0 s < q.1)
    (same_Some (n, st) p h) (issue-ok (node_of n s) a_retire reading st allowed.1.0).2
stamp-new nodes s (Send n reading) (Sent st num) p allowed h =
    subst (λ q. last_stamp q.0 s < q.1) (same_Some (n, st) p h) (stamp-rises _ reading st allowed.1.0)
stamp-new nodes s (Receive n reading k) (Received st) p allowed h =
    subst (λ q. last_stamp q.0 s < q.1) (same_Some (n, st) p h) (received-rises _ _ reading st allowed.1)
stamp-new nodes s (Observe n reading id) (Observed st) p allowed h =
    subst (λ q. last_stamp q.0 s < q.1) (same_Some (n, st) p h) (observed-rises _ _ reading st allowed.1)
stamp-new nodes s _ _ p allowed h = absurd (cc)

-- a stamp sets the clock
mark-stamped : (event : Event) (reply : Reply) (p : ℕ × ℕ) → stamping_of event reply ≡ Some p
    → mark_of event reply ≡ Some p
mark-stamped Join reply p h = absurd (cc)
mark-stamped _ reply p h = h

-- a clock is never set back: that of a node that joins was 0
mark-new : (nodes : ℕ) (s : List (Event × Reply)) (event : Event) (reply : Reply) (p : ℕ × ℕ)
    → MayReply nodes s event reply → IsOrderly nodes s → mark_of event reply ≡ Some p → last_stamp p.0 s ≤ p.1
mark-new nodes s Join (Joined node start) p allowed ordered h = grind (arith, common_steps, same_Some)
mark-new nodes s event reply p allowed ordered h =
    (let up = stamp-new nodes s event reply p allowed h in omega (arith, up))

last-grows : (n last : ℕ) (o : Option (ℕ × ℕ)) → ((p : ℕ × ℕ) → o ≡ Some p → p.0 ≡ n → last ≤ p.1)
    → last ≤ stamp_or n o last
last-grows n last None up = omega arith
last-grows n last (Some p) up =
    elim (cases_eq p.0 n) [
      | inl same ↦ rw (eq-eqb p.0 n same) (up p refl same)
      | inr other ↦ rw (ne_eqb p.0 n other) (omega arith)
    ]

step-grows : (nodes : ℕ) (s : List (Event × Reply)) (entry : Event × Reply) (n : ℕ) → MayReply nodes s entry.0 entry.1
    → IsOrderly nodes s → last_stamp n s ≤ last_stamp n (entry ∷ s)
step-grows nodes s entry n allowed ordered =
    last-grows n (last_stamp n s) (mark_of entry.0 entry.1)
    (λ p e own. subst (λ k. last_stamp k s ≤ p.1) own (mark-new nodes s entry.0 entry.1 p allowed ordered e))

-- no stamp of a node lies above its last one
stamp-low : (nodes : ℕ) (s : List (Event × Reply)) (i n a : ℕ) (x : Event × Reply) → IsLegal nodes s
    → entry_at s i ≡ Some x → stamping_of x.0 x.1 ≡ Some (n, a) → a ≤ last_stamp n s
stamp-low nodes s i n a x legal at m =
    from-entry nodes (λ r. a ≤ last_stamp n r) x
    (λ entry r now low. (let l : a ≤ last_stamp n r = low in
    let g = step-grows nodes r entry n now.0 (orderly nodes r now.1) in omega (arith, g)))
    (λ r now. (let f : last_stamp n (x ∷ r) ≡ a =
    ap (λ o. stamp_or n o (last_stamp n r)) (mark-stamped x.0 x.1 (n, a) m) ∙ cond-true _ _ _ (eq-eqb n n refl) in
    omega (arith, f))) s i legal at

on_node-less : (nodes : ℕ) (s : List (Event × Reply)) (i j n a b : ℕ) (x y : Event × Reply) → IsLegal nodes s
    → i < j → entry_at s i ≡ Some x → stamping_of x.0 x.1 ≡ Some (n, a) → entry_at s j ≡ Some y
    → stamping_of y.0 y.1 ≡ Some (n, b) → a < b
on_node-less nodes [] i j n a b x y legal lt at_i m at_j k = absurd (cc)
on_node-less nodes (entry ∷ s) i j n a b x y legal lt at_i m at_j k =
    let in_j : j < length (entry ∷ s) = entry-inside (entry ∷ s) j y at_j in
    elim (entry-cases entry s i x at_i) [
      | inl here ↦ absurd (let e : i ≡ length s = here.0 in omega arith)
      | inr there ↦
          elim (entry-cases entry s j y at_j) [
            | inr earlier ↦ on_node-less nodes s i j n a b x y legal.1 lt there.1 m earlier.1 k
            | inl last ↦
                (let up = stamp-new nodes s entry.0 entry.1 (n, b) legal.0 (ap (λ z. stamping_of z.0 z.1) last.1 ∙ k) in
                let low = stamp-low nodes s i n a x legal.1 there.1 m in omega (arith, up, low))
          ]
    ]

-- a message that was sent keeps its number
with_message-keeps : (o : Option Message) (messages : List Message) (k : ℕ) (message : Message)
    → slice_get messages k ≡ Some message → slice_get (with_message o messages) k ≡ Some message
with_message-keeps None messages k message h = h
with_message-keeps (Some m) messages k message h =
    get-append_left messages (m ∷ []) k (slice_get_within messages k message h) ∙ h

-- a message has the stamp of its send
sent-found : (nodes : ℕ) (s : List (Event × Reply)) (i n r st k : ℕ) → IsLegal nodes s
    → entry_at s i ≡ Some (Send n r, Sent st k) → message_at k s ≡ Some (record { from = n; stamp = st })
sent-found nodes s i n r st k legal at =
    let x : Message = record { from = n; stamp = st } in
    from-entry nodes (λ q. message_at k q ≡ Some x) (Send n r, Sent st k)
    (λ entry q now. with_message-keeps (message_made entry.0 entry.1) (sent q) k x)
    (λ q now. ap (λ j. slice_get (sent q ++ x ∷ []) j) now.0.1.1 ∙ get-push (sent q) x) s i legal at

pub received-below : (o : Option Message) (last reading t : ℕ) → IsReceived o last reading t
    → (message : Message) × (o ≡ Some message) × (message.stamp < t)
received-below None last reading t h = absurd h
received-below (Some message) last reading t h = (message, refl, (sight-rises last message.stamp reading t h).1)

-- a receipt lies above its message's stamp
received-above : (nodes : ℕ) (s : List (Event × Reply)) (j m q k t : ℕ)
    → IsLegal nodes s → entry_at s j ≡ Some (Receive m q k, Received t)
    → (message : Message) × (message_at k s ≡ Some message) × (message.stamp < t)
received-above nodes s j m q k t legal at =
    from-entry nodes (λ r. (message : Message) × (message_at k r ≡ Some message) × (message.stamp < t))
    (Receive m q k, Received t)
    (λ entry r now x. (x.0, with_message-keeps (message_made entry.0 entry.1) (sent r) k x.0 x.1, x.2))
    (λ r now. received-below (message_at k r) _ q t now.0.1) s j legal at

-- a write or a deletion is stamped
written-stamped : (event : Event) (reply : Reply) (a : ℕ) → write_stamp event reply ≡ Some a
    → (n : ℕ) × (stamping_of event reply ≡ Some (n, a))
written-stamped (Write n r key value) (Stamped st k) a is = (n, (let e : st ≡ a = cc in ap (λ x. Some (n, x)) e))
written-stamped (Delete n r key) (Stamped st k) a is = (n, (let e : st ≡ a = cc in ap (λ x. Some (n, x)) e))
written-stamped _ _ a is = absurd (cc)

-- an event has one stamp
stamp-unique : (s : List (Event × Reply)) (i n a m b : ℕ) → IsStamped s i n a → IsStamped s i m b → a ≡ b
stamp-unique s i n a m b h k = grind (arith, common_steps, same_Some)

-- both events have stamps, which rise
ends : (nodes : ℕ) (s : List (Event × Reply)) → IsLegal nodes s → {i j : ℕ} → HappenedBefore s i j
    → (n : ℕ) × (a : ℕ) × (m : ℕ) × (b : ℕ) × IsStamped s i n a × IsStamped s j m b × (a < b)
ends nodes s legal (on_node {first} {later} n a b lt h k) =
    (n, a, n, b, h, k, on_node-less nodes s first later n a b h.entry k.entry legal lt h.at h.mark k.at k.mark)
ends nodes s legal (on_message {first} {later} n r a k m q b h g) =
    let x = received-above nodes s later m q k b legal g in
    let same : record { from = n; stamp = a } ≡ x.0 =
    same_Some (record { from = n; stamp = a }) x.0 (sym (sent-found nodes s first n r a k legal h) ∙ x.1) in
    let e : a ≡ x.0.stamp = ap (λ y. y.stamp) same in (
      n,
      a,
      m,
      b,
      record { entry = (Send n r, Sent a k); at = h; mark = refl },
      record { entry = (Receive m q k, Received b); at = g; mark = refl },
      (let u : x.0.stamp < b = x.2 in omega arith),
    )
ends nodes s legal (on_observation {first} {later} a n r id at b written opened low h) =
    let w = written-stamped written.entry.0 written.entry.1 a written.written in
    let seen = observed-above nodes s later n r id b legal h in
    let same : Some at ≡ Some seen.0 =
    sym (opened-found nodes s opened.turn opened.event id at legal opened.at) ∙ seen.1 in
    let e : at ≡ seen.0 = same_Some at seen.0 same in
    let up : seen.0 < b = seen.2 in
    let low' : a ≤ at = low in (
      w.0,
      a,
      n,
      b,
      record { entry = written.entry; at = written.at; mark = w.1 },
      record { entry = (Observe n r id, Observed b); at = h; mark = refl },
      omega arith,
    )
ends nodes s legal (through x y) =
    let first = ends nodes s legal x in
    let second = ends nodes s legal y in
    let same = stamp-unique s _ first.2 first.3 second.0 second.1 first.5 second.4 in
    (first.0, first.1, second.2, second.3, first.4, second.5, omega (arith, first.6, second.6, same))

pub less : (nodes : ℕ) (s : List (Event × Reply)) (i j n a m b : ℕ) → IsLegal nodes s → HappenedBefore s i j
    → IsStamped s i n a → IsStamped s j m b → a < b
less nodes s i j n a m b legal before h k =
    let both = ends nodes s legal before in
    let x : both.1 ≡ a = stamp-unique s i _ _ n a both.4 h in
    let y : both.3 ≡ b = stamp-unique s j _ _ m b both.5 k in
    omega (arith, both.6)

-- an item is stamped by the event that issued it
made-stamped : (event : Event) (reply : Reply) (item : Item) → item_made event reply ≡ Some item
    → stamping_of event reply ≡ Some (item.node, item.stamp)
made-stamped (Write n r key value) (Stamped st k) item is = rw (← same_Some _ item is)
made-stamped (Delete n r key) (Stamped st k) item is = rw (← same_Some _ item is)
made-stamped (Report n r) (Stamped st k) item is = rw (← same_Some _ item is)
made-stamped (Retire n r) (Stamped st k) item is = rw (← same_Some _ item is)
made-stamped _ _ item is = absurd (cc)

issued-stamped : (s : List (Event × Reply)) (turn : ℕ) (item : Item) → IsIssuedAt s turn item
    → IsStamped s turn item.node item.stamp
issued-stamped s turn item h =
    record { entry = h.entry; at = h.at; mark = made-stamped h.entry.0 h.entry.1 item h.made }

with_item-keeps : (n : ℕ) (o : Option Item) (items : List Item) (item : Item) → Contains items item
    → Contains (with_item n o items) item
with_item-keeps n None items item m = m
with_item-keeps n (Some x) items item m = grind (arith, common_steps, cases_eq, eq-eqb, Contains-append_left, ne_eqb)

-- it is one of the node's issued items
issued-found : (nodes : ℕ) (s : List (Event × Reply)) (turn : ℕ) (item : Item) → IsLegal nodes s
    → IsIssuedAt s turn item → Contains (issued item.node s) item
issued-found nodes s turn item legal h =
    from-entry nodes (λ r. Contains (issued item.node r) item) h.entry
    (λ entry r now. with_item-keeps item.node (item_made entry.0 entry.1) (issued item.node r) item)
    (λ r now. rw (h.made, eq-eqb item.node item.node refl) (Contains-push (issued item.node r) item)) s turn legal h.at

pub closed : (nodes : ℕ) (s : List (Event × Reply)) → IsLegal nodes s → IsClosed nodes s
closed nodes s legal = λ id stamp first later item earlier there at accepted low before at-earlier.
    let under : earlier.stamp < item.stamp = less nodes s first later _ _ _ _ legal before
    (issued-stamped s first earlier at-earlier) (issued-stamped s later item at) in
    let top : stamp ≤ floor (core_past nodes s) = stamp_in-all (λ x. x ≤ floor (core_past nodes s)) id stamp
    (open_snapshots (core_past nodes s)) (open-low (core_past nodes s) (legal-past nodes s legal)) there in
    let low' : item.stamp ≤ stamp = low in (
      complete nodes s legal earlier
          (earlier.node, issued-found nodes s first earlier legal at-earlier) (omega arith),
      omega arith,
    )
