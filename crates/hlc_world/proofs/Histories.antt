-- The store's history of a legal schedule is legal, since the expected reply to an event that asks something of the
-- store is what the store is expected to return; and what took place in a legal history is a legal past.
use Rattle.std.proofs.Common.{◌≡◌, ℕ, ◌≤◌, List, [], ◌∷◌, Some, None, Option, refl, ◌∙◌, sym, subst, arith}
use Rattle.std.{proofs.lemmas.Bool.cond-false, proofs.lemmas.Bool.ltb-false, specs.Prelude.nat_le, specs.Prelude.nat_lt}
use Rattle.hlc_node.specs.declared.item.Item.{Item}
use Rattle.hlc_rows.specs.declared.row.Row.{Row}
use Rattle.hlc_events.specs.declared.{event.CoreEvent.CoreEvent, fault.CoreFault.TheVariants.Join as joining}
use Rattle.hlc_core.specs.{declared.reply.CoreReply.CoreReply, Calls.list_refusal}
use Rattle.hlc_heads.specs.declared.heads.TheConstants.{MAX_NODES}
use Rattle.hlc_heads.specs.declared.heads.JoinFault.TheVariants.{TooManyNodes, BelowFloor}
use Rattle.hlc_core.specs.Past.{Step, numbered, floor, horizon, stamp_of, join_refusal, join_at_refusal, open_refusal}
use Rattle.hlc_core.specs.Past.{IsLegal as IsLegalPast}
use Rattle.hlc_core.proofs.PastLemmas.{open-room, vacuum-none, horizon-low}
use Rattle.hlc_core.specs.History.{step_of, with_step, past_of, IsExpected, IsLegalHistory, IsLeft}
use Rattle.hlc_world_event.specs.declared.event.Event.TheVariants.{Deliver, OpenAt, OpenFloor, Read, List as ListAll}
use Rattle.hlc_world_event.specs.declared.event.Event.TheVariants.{Close, Join, Vacuum}
use Rattle.hlc_world.specs.{declared.reply.Reply.Reply, Schedule.item_at}
use Rattle.hlc_world.specs.declared.reply.Reply.TheVariants.{Accepted, Joined, Snapshot, Answer, Listing, Closed}
use Rattle.hlc_world.specs.declared.reply.Reply.TheVariants.{Vacuumed}
use Rattle.hlc_world_event.specs.Events.{Event}
use Rattle.hlc_world.specs.Store.{accepting, accepted, paired, with_entry, store_history, core_past}
use Rattle.hlc_world.specs.Expected.{deliver_refusal, IsExpectedOfStore, MayReply, IsLegal}
use Rattle.hlc_world.proofs.Orderly.{no-core, on_link-none, unless}
use Rattle.hlc_events.specs.declared.event.CoreEvent.TheVariants as core_event
use Rattle.hlc_core.specs.declared.reply.CoreReply.TheVariants as core_reply

-- the store's part of a delivery is an expected reply
history-taken : (nodes : ℕ) (h : List (CoreEvent × CoreReply)) (p st : ℕ) (o : Option Item)
    → deliver_refusal (past_of nodes h) o ≡ None
    → IsExpectedOfStore (past_of nodes h) (paired (accepted p st o) (accepting o)) → IsLegalHistory nodes h
    → IsLegalHistory nodes (with_entry (paired (accepted p st o) (accepting o)) h)
history-taken nodes h p st None none expected legal = legal
history-taken nodes h p st (Some item) none expected legal = ((no-core _ none, expected), legal)

history-entry : (nodes : ℕ) (s : List (Event × Reply)) (event : Event) (reply : Reply) → MayReply nodes s event reply
    → IsLegalHistory nodes (store_history s) → IsLegalHistory nodes (store_history ((event, reply) ∷ s))
history-entry nodes s (Deliver p k) (Accepted st) allowed legal =
    history-taken nodes (store_history s) p st (item_at p k s) (on_link-none nodes s p _ allowed.0).1 allowed.1 legal
history-entry nodes s Join (Joined node start) allowed legal = ((no-core _ allowed.0, allowed.1), legal)
history-entry nodes s (OpenAt at) (Snapshot id st) allowed legal = ((no-core _ allowed.0, allowed.1), legal)
history-entry nodes s OpenFloor (Snapshot id st) allowed legal = ((no-core _ allowed.0, allowed.1), legal)
history-entry nodes s (Read id key) (Answer value) allowed legal = ((no-core _ allowed.0, allowed.1), legal)
history-entry nodes s (ListAll id) (Listing pairs) allowed legal = ((no-core _ allowed.0, allowed.1), legal)
history-entry nodes s (Close id) (Closed st) allowed legal = ((no-core _ allowed.0, allowed.1), legal)
history-entry nodes s Vacuum (Vacuumed report) allowed legal = ((no-core _ allowed.0, allowed.1), legal)
history-entry nodes s _ _ allowed legal = legal

-- the store's history of a legal schedule is legal
pub history-legal : (nodes : ℕ) (s : List (Event × Reply)) → IsLegal nodes s → IsLegalHistory nodes (store_history s)
history-legal nodes [] legal = tt
history-legal nodes (entry ∷ s) legal = history-entry nodes s entry.0 entry.1 legal.0 (history-legal nodes s legal.1)

left-taken : (nodes : ℕ) (h : List (CoreEvent × CoreReply)) (p st : ℕ) (o : Option Item) (rows : List Row)
    → IsLeft nodes h rows
    → IsLeft nodes (with_entry (paired (accepted p st o) (accepting o)) h) rows
left-taken nodes h p st None rows left = left
left-taken nodes h p st (Some item) rows left = tt

left-entry : (nodes : ℕ) (s : List (Event × Reply)) (event : Event) (reply : Reply) (rows : List Row)
    → IsLeft nodes (store_history s) rows → IsLeft nodes (store_history ((event, reply) ∷ s)) rows
left-entry nodes s (Deliver p k) (Accepted st) rows left =
    left-taken nodes (store_history s) p st (item_at p k s) rows left
left-entry nodes s Join (Joined node start) rows left = tt
left-entry nodes s (OpenAt at) (Snapshot id st) rows left = tt
left-entry nodes s OpenFloor (Snapshot id st) rows left = tt
left-entry nodes s (Read id key) (Answer value) rows left = tt
left-entry nodes s (ListAll id) (Listing pairs) rows left = tt
left-entry nodes s (Close id) (Closed st) rows left = tt
left-entry nodes s Vacuum (Vacuumed report) rows left = tt
left-entry nodes s _ _ rows left = left

-- no event of a schedule is part of a vacuum, so none leaves rows just after it
pub left-by-none : (nodes : ℕ) (s : List (Event × Reply)) (rows : List Row) → IsLeft nodes (store_history s) rows
left-by-none nodes [] rows = tt
left-by-none nodes (entry ∷ s) rows = left-entry nodes s entry.0 entry.1 rows (left-by-none nodes s rows)

no-list : (o : Option ℕ) → list_refusal o ≡ None → o ≡ None → ⊥
no-list None h e = absurd (cc)
no-list (Some stamp) h e = absurd (cc)

-- a start that is not refused is not below the floor
starts : (past : List Step) (start : ℕ) → join_at_refusal past start ≡ None
    → (join_refusal past ≡ None) × (floor past ≤ start)
starts past start none =
    let few = unless (nat_le MAX_NODES (numbered past)) (joining TooManyNodes) _ none in
    let up = unless (nat_lt start (floor past)) (joining (BelowFloor (floor past))) None few.1 in
    (cond-false _ _ _ few.0, ltb-false start (floor past) up.0)

past-step : (past : List Step) (event : CoreEvent) (reply : CoreReply) → IsExpected past event reply
    → IsLegalPast past → IsLegalPast (with_step (step_of event reply) past)
past-step past (core_event.Accept item) (core_reply.Accepted acceptance) expected legal = (expected.0, legal)
past-step past (core_event.OpenAt at) (core_reply.Opened id st) expected legal =
    (subst (λ x. open_refusal past x ≡ None) (sym expected.1.1) expected.0, legal)
past-step past core_event.OpenFloor (core_reply.Opened id st) expected legal =
    let e : st ≡ floor past = expected.1.1 in
    let low : horizon past ≤ floor past = horizon-low past legal in
    (open-room past st (omega arith) (omega arith) ∙ expected.0, legal)
past-step past (core_event.Close id) (core_reply.Closed st) expected legal =
    (no-list (stamp_of id past) expected.0, legal)
past-step past core_event.Join (core_reply.Joined node start) expected legal =
    let e : start ≡ floor past = expected.1.1 in (expected.0, expected.1.0, omega arith, legal)
past-step past (core_event.JoinAt at) (core_reply.Joined node start) expected legal =
    let free = starts past at expected.0 in
    let up : floor past ≤ at = free.1 in
    let e : start ≡ at = expected.1.1 in (free.0, expected.1.0, omega arith, legal)
past-step past core_event.Vacuum (core_reply.Vacuumed report) expected legal =
    let e : report.floor ≡ floor past = expected.1.at_stamp in
    let low : horizon past ≤ floor past = horizon-low past legal in
    (vacuum-none past report.floor (omega arith) (omega arith), legal)
past-step past (core_event.VacuumTo at) (core_reply.Vacuumed report) expected legal = (expected.0, legal)
past-step past (core_event.VacuumPart at after limit) (core_reply.VacuumedPart report end) expected legal =
    (expected.0, legal)
past-step past _ _ expected legal = legal

past-legal : (nodes : ℕ) (h : List (CoreEvent × CoreReply)) → IsLegalHistory nodes h → IsLegalPast (past_of nodes h)
past-legal nodes [] legal = (refl, tt)
past-legal nodes (entry ∷ h) legal = past-step (past_of nodes h) entry.0 entry.1 legal.0 (past-legal nodes h legal.1)

-- the core's past of a legal schedule is legal
pub legal-past : (nodes : ℕ) (s : List (Event × Reply)) → IsLegal nodes s → IsLegalPast (core_past nodes s)
legal-past nodes s legal = past-legal nodes (store_history s) (history-legal nodes s legal)
