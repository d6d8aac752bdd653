-- The world goes on representing its schedule: new nodes, the events of nodes, and events that change nothing.
use Rattle.std.proofs.Common.{◌≡◌, ℕ, zero, suc, ◌<◌, Bool, true, false, List, [], ◌∷◌, ◌++◌, length, Some, None, Ok}
use Rattle.std.proofs.Common.{Err, Option, Result, refl, ap, sym, ◌∙◌, subst, inl, inr, arith, length-set}
use Rattle.std.proofs.Common.{length-append, option_map, slice_get, slice_set, if◌then◌else◌, eq-eqb, ne_eqb}
use Rattle.std.proofs.lemmas.{Grind.common_steps, List.map-append, List.length-map}
use Rattle.std.proofs.lemmas.{Option.same_Some, Option.slice_get-map, Bool.cond-false, Bool.lt-leb, Bool.cases_eq}
use Rattle.hlc_clock.specs.{NextStamp.expected_stamp, declared.clock.ClockFault.ClockFault}
use Rattle.hlc_node.specs.declared.item.{Item.Item, Body.Body, Message.Message}
use Rattle.hlc_node.specs.declared.node.NodeFault.{NodeFault, TheVariants.Retired}
use Rattle.hlc_node.specs.Items.{an_item, retires}
use Rattle.hlc_node.specs.Node.{NodeView, clocked, unless_retired, expected_event, expected_issue, stamped}
use Rattle.hlc_core.specs.{declared.reply.CoreReply.CoreReply, History.past_of}
use Rattle.hlc_core.specs.Past.{Step, Started, numbered, stamp_of}
use Rattle.hlc_core.specs.StoreView.{StoreView, Represents as CoreRepresents}
use Rattle.hlc_world.specs.declared.{content.Content.Content, reply.Reply.Reply}
use Rattle.hlc_world_event.specs.declared.event.Event.TheVariants.{Send, Receive, Observe}
use Rattle.hlc_world.specs.declared.reply.Reply.TheVariants.{Stamped, Sent, Received, Observed, Refused}
use Rattle.hlc_world.specs.declared.refusal.Refusal.{Refusal, TheVariants.Node as at_node}
use Rattle.hlc_world.specs.Schedule.{item_made, message_made, mark_of, with_item, ends, stamp_or, body_of, issuing}
use Rattle.hlc_world.specs.Schedule.{issued, has_retired, last_stamp, sent, message_at, node_of}
use Rattle.hlc_world_event.specs.Events.{Event}
use Rattle.hlc_world.specs.Store.{asked, returned, paired, with_entry, store_history, core_past}
use Rattle.hlc_world.specs.Expected.{issue_refusal, stamp_refusal, on_link, on_node, expected_refusal}
use Rattle.hlc_world.specs.Expected.{MayRunOutOfMemory, MayReply}
use Rattle.hlc_world.specs.WorldView.{IssuerView, WorldView, Represents, fresh_issuers, Issues, Sees}
use Rattle.hlc_world.proofs.Lists.{get-set_at, get-set_other, set-same, get-append_left, get-push}
use Rattle.hlc_world.specs.declared.content.Content.TheVariants as contents

-- what is stored for a node
abbrev pub a_node : ℕ → ℕ → List Item → Bool → IssuerView
a_node n last items was_last =
    record { node = record { id = n; last = last; next = length items; retired = was_last }; issued = items }

pub on_link-inside : (nodes : ℕ) (s : List (Event × Reply)) (p : ℕ) (rest : Option Refusal)
    → p < numbered (core_past nodes s) → on_link nodes s p rest ≡ rest
on_link-inside nodes s p rest h = cond-false _ _ _ (lt-leb (numbered (core_past nodes s)) p h)

retired-issue : (was_last : Bool) (r : Result ℕ NodeFault)
    → (if was_last then Some (at_node Retired) else issue_refusal (unless_retired was_last r))
    ≡ issue_refusal (unless_retired was_last r)
retired-issue true r = refl
retired-issue false r = refl

retired-sight : (was_last : Bool) (r : Result ℕ ClockFault)
    → (if was_last then Some (at_node Retired) else stamp_refusal r)
    ≡ issue_refusal (unless_retired was_last (clocked r))
retired-sight true r = refl
retired-sight false (Ok st) = refl
retired-sight false (Err fault) = refl

-- an event of a known node is refused as the node refuses it
issue-expected : (nodes : ℕ) (s : List (Event × Reply)) (p : ℕ) (r : Result ℕ NodeFault)
    → p < numbered (core_past nodes s) → on_node nodes s p (issue_refusal (unless_retired (has_retired p s) r))
    ≡ issue_refusal (unless_retired (has_retired p s) r)
issue-expected nodes s p r h = on_link-inside nodes s p _ h ∙ retired-issue (has_retired p s) r

sight-expected : (nodes : ℕ) (s : List (Event × Reply)) (p : ℕ) (r : Result ℕ ClockFault)
    → p < numbered (core_past nodes s) → on_node nodes s p (stamp_refusal r)
    ≡ issue_refusal (unless_retired (has_retired p s) (clocked r))
sight-expected nodes s p r h = on_link-inside nodes s p _ h ∙ retired-sight (has_retired p s) r

-- the expected stamp of a node is the expected stamp of its clock
event-ok : (was_last : Bool) (r : Result ℕ ClockFault) (st : ℕ) → unless_retired was_last (clocked r) ≡ Ok st → r
    ≡ Ok st
event-ok true r st h = absurd (cc)
event-ok false (Ok x) st h = ap Ok (cc)
event-ok false (Err fault) st h = absurd (cc)

-- the core's past after an event to which the store returned this
abbrev past_reported : ℕ → List (Event × Reply) → Event → Option CoreReply → List Step
past_reported nodes s e reply = past_of nodes (with_entry (paired reply (asked s e)) (store_history s))

-- what is stored for a node after an event that set this mark and issued this item, if it did
abbrev node_by : ℕ → Option (ℕ × ℕ) → Option Item → List (Event × Reply) → IssuerView
node_by n mark item s =
    a_node n (stamp_or n mark (last_stamp n s)) (with_item n item (issued n s)) (ends n item (has_retired n s))

-- what an event did by this reply: the item that it issued, its mark, the message that it sent, and what the store
-- returned
abbrev Deed : Type 0
Deed = Option Item × Option (ℕ × ℕ) × Option Message × Option CoreReply

abbrev deed : List (Event × Reply) → Event → Reply → Deed
deed s e reply = (item_made e reply, mark_of e reply, message_made e reply, returned s e reply)

-- an event that sent no message and to which the store returned nothing changes nothing but the nodes
goes-on : (nodes : ℕ) (state : WorldView) (s : List (Event × Reply)) (e : Event) (reply : Reply) (item : Option Item)
    (mark : Option (ℕ × ℕ)) (issuers : List IssuerView) → deed s e reply ≡ (item, mark, None, None)
    → MayReply nodes s e reply → Represents nodes state s → length issuers ≡ length state.nodes
    → ((n : ℕ) → n < length issuers → slice_get issuers n ≡ Some (node_by n mark item s)) → Represents nodes
    (record { core = state.core; nodes = issuers; sent_stamps = state.sent_stamps }) ((e, reply) ∷ s)
goes-on nodes state s e reply item mark issuers did allowed h same each = grind (arith, common_steps)

-- a refused event changes nothing
pub stays : (nodes : ℕ) (state : WorldView) (s : List (Event × Reply)) (e : Event) (refusal : Refusal)
    → deed s e (Refused refusal) ≡ (None, None, None, None)
    → MayReply nodes s e (Refused refusal) → Represents nodes state s
    → Represents nodes state ((e, Refused refusal) ∷ s)
stays nodes state s e refusal nothing allowed h =
    goes-on nodes state s e (Refused refusal) None None state.nodes nothing allowed h refl h.each

abbrev with_node : WorldView → ℕ → IssuerView → WorldView
with_node state p node =
    record { core = state.core; nodes = slice_set state.nodes p node; sent_stamps = state.sent_stamps }

-- to write back what is stored for a node changes nothing
pub put-back : (nodes : ℕ) (state : WorldView) (s : List (Event × Reply)) (p : ℕ) (node : IssuerView)
    → slice_get state.nodes p ≡ Some node → Represents nodes state s → Represents nodes (with_node state p node) s
put-back nodes state s p node at h =
    subst (λ xs. Represents nodes (record { core = state.core; nodes = xs; sent_stamps = state.sent_stamps }) s)
    (sym (set-same state.nodes p node at)) h

-- an event by which a node issues an item with this body
pub record IsIssue (nodes : ℕ) (s : List (Event × Reply)) (e : Event) (p : ℕ) (body : Body) (reading : ℕ) : Type 0 where
  pub expected : expected_refusal nodes s e
      ≡ on_node nodes s p (issue_refusal (expected_issue (node_of p s) body reading))
  pub done : (st num : ℕ) → deed s e (Stamped st num) ≡ (Some (an_item p num st body), Some (p, st), None, None)
  pub left : (f : Refusal) → deed s e (Refused f) ≡ (None, None, None, None)
  pub allowed : (st num : ℕ) → expected_refusal nodes s e ≡ None → expected_issue (node_of p s) body reading ≡ Ok st
      → num ≡ length (issued p s) → MayReply nodes s e (Stamped st num)
  pub may : MayRunOutOfMemory nodes s e

issuing-is : (nodes : ℕ) (s : List (Event × Reply)) (p reading : ℕ) (content : Content)
    → IsIssue nodes s (issuing p reading content) p (body_of content) reading
issuing-is nodes s p reading (contents.Write key (Some value)) =
    record { expected = refl; done = λ st num. refl; left = λ f. refl; allowed = λ st num a b c. (a, (b, c)); may = tt }
issuing-is nodes s p reading (contents.Write key None) =
    record { expected = refl; done = λ st num. refl; left = λ f. refl; allowed = λ st num a b c. (a, (b, c)); may = tt }
issuing-is nodes s p reading contents.Report =
    record { expected = refl; done = λ st num. refl; left = λ f. refl; allowed = λ st num a b c. (a, (b, c)); may = tt }
issuing-is nodes s p reading contents.Retire =
    record { expected = refl; done = λ st num. refl; left = λ f. refl; allowed = λ st num a b c. (a, (b, c)); may = tt }

-- an event by which a node sees a stamp
pub record IsSight (nodes : ℕ) (s : List (Event × Reply)) (e : Event) (reply : ℕ → Reply)
    (p seen reading : ℕ) : Type 0 where
  pub expected : expected_refusal nodes s e
      ≡ on_node nodes s p (stamp_refusal (expected_stamp (last_stamp p s ∷ seen ∷ []) reading))
  pub done : (st : ℕ) → deed s e (reply st) ≡ (None, Some (p, st), None, None)
  pub left : (f : Refusal) → deed s e (Refused f) ≡ (None, None, None, None)
  pub allowed : (st : ℕ) → expected_refusal nodes s e ≡ None → expected_stamp (last_stamp p s ∷ seen ∷ []) reading
      ≡ Ok st
      → MayReply nodes s e (reply st)

-- a message was sent where its stamp is stored
was-sent : (o : Option Message) (seen : ℕ) → option_map (λ (message : Message). message.stamp) o ≡ Some seen
    → (message : Message) × (o ≡ Some message) × (message.stamp ≡ seen)
was-sent None seen h = absurd (cc)
was-sent (Some message) seen h = (message, refl, same_Some _ _ h)

pub message-there : (nodes : ℕ) (state : WorldView) (s : List (Event × Reply)) (number seen : ℕ)
    → Represents nodes state s
    → slice_get state.sent_stamps number ≡ Some seen
    → (message : Message) × (message_at number s ≡ Some message) × (message.stamp ≡ seen)
message-there nodes state s number seen h at =
    was-sent (message_at number s) seen
    (sym (slice_get-map (λ (message : Message). message.stamp) (sent s) number)
    ∙ ap (λ xs. slice_get xs number) (sym h.sent_stamps) ∙ at)

receives : (nodes : ℕ) (s : List (Event × Reply)) (p reading number : ℕ) (message : Message)
    → message_at number s ≡ Some message → IsSight nodes s (Receive p reading number) Received p message.stamp reading
receives nodes s p reading number message found = grind (arith, common_steps)

pub receive-is : (nodes : ℕ) (s : List (Event × Reply)) (p reading number seen : ℕ)
    → ((message : Message) × (message_at number s ≡ Some message) × (message.stamp ≡ seen))
    → IsSight nodes s (Receive p reading number) Received p seen reading
receive-is nodes s p reading number seen (message, found, same) =
    subst (λ x. IsSight nodes s (Receive p reading number) Received p x reading) same
    (receives nodes s p reading number message found)

pub observe-is : (nodes : ℕ) (s : List (Event × Reply)) (p reading id seen : ℕ)
    → stamp_of id (core_past nodes s) ≡ Some seen
    → IsSight nodes s (Observe p reading id) Observed p seen reading
observe-is nodes s p reading id seen found = grind (arith, common_steps)

module _ (nodes : ℕ) (state : WorldView) (s : List (Event × Reply)) (p : ℕ) (before : IssuerView)
    (h : Represents nodes state s) (inside : p < length state.nodes) (at : slice_get state.nodes p ≡ Some before) where
  -- a stored node has an assigned number
  there : p < numbered (core_past nodes s)
  there = (let m = h.many in omega (arith, m))

  -- and it is as the schedule says
  was : before ≡ a_node p (last_stamp p s) (issued p s) (has_retired p s)
  was = same_Some _ _ (sym at ∙ h.each p inside)

  -- it issued an item, and the others are unchanged
  nodes-issued : (st : ℕ) (item : Item) → item.node ≡ p → (n : ℕ) → n < length state.nodes
      → slice_get (slice_set state.nodes p (a_node p st (issued p s ++ item ∷ []) (retires item.body))) n
      ≡ Some (node_by n (Some (p, st)) (Some item) s)
  nodes-issued st item own n lt =
      let new : IssuerView = a_node p st (issued p s ++ item ∷ []) (retires item.body) in
      elim (cases_eq p n) [
        | inl same ↦
            rw (← same, eq-eqb p p refl, eq-eqb item.node p own) (get-set_at state.nodes p new inside)
        | inr other ↦ rw (ne_eqb p n other, ne_eqb item.node n (λ e. other (sym own ∙ e)))
            (get-set_other state.nodes p n new (λ e. other (sym e)) ∙ h.each n lt)
      ]

  -- it was stamped without an item, and the others are unchanged
  nodes-stamped : (st n : ℕ) → n < length state.nodes
      → slice_get (slice_set state.nodes p (a_node p st (issued p s) (has_retired p s))) n
      ≡ Some (node_by n (Some (p, st)) None s)
  nodes-stamped st n lt =
      let new : IssuerView = a_node p st (issued p s) (has_retired p s) in
      elim (cases_eq p n) [
        | inl same ↦ rw (← same, eq-eqb p p refl) (get-set_at state.nodes p new inside)
        | inr other ↦ rw (ne_eqb p n other) (get-set_other state.nodes p n new (λ e. other (sym e)) ∙ h.each n lt)
      ]

  -- an item that the node issued
  pub issues : (reading : ℕ) (content : Content) (after : IssuerView) (made : ℕ × ℕ)
      → Issues before after (body_of content) reading (Ok made)
      → Represents nodes (with_node state p after) ((issuing p reading content, Stamped made.0 made.1) ∷ s)
  issues reading content after made taken =
      let e : Event = issuing p reading content in
      let body : Body = body_of content in
      let is = issuing-is nodes s p reading content in
      let st : ℕ = made.0 in
      let number : ℕ = length (issued p s) in
      let item : Item = an_item p number st body in
      let expected : expected_issue (node_of p s) body reading ≡ Ok st = rw was at taken.0 in
      let next : made.1 ≡ number = rw was at taken.1 in
      let came : after ≡ a_node p st (issued p s ++ item ∷ []) (retires body) =
      rw was at taken.2
      ∙ ap (λ k. record {
        node = record { id = p; last = st; next = k; retired = retires body };
        issued = issued p s ++ item ∷ [];
      }) (sym (length-append (issued p s) (item ∷ []))) in
      let none : expected_refusal nodes s e ≡ None =
      is.expected ∙ issue-expected nodes s p _ there ∙ ap issue_refusal expected in
      let same : length (slice_set state.nodes p after) ≡ length state.nodes = length-set state.nodes p after in
      subst (λ k. Represents nodes (with_node state p after) ((e, Stamped st k) ∷ s)) (sym next)
      (goes-on nodes state s e (Stamped st number) (Some item) (Some (p, st)) (slice_set state.nodes p after)
      (is.done st number) (is.allowed st number none expected refl) h same
      (λ n lt. rw came (nodes-issued st item refl n (rw same at lt))))

  -- an item that it did not issue
  pub issues_not : (reading : ℕ) (content : Content) (after : IssuerView) (refusal : Refusal)
      → Issues before after (body_of content) reading (Err refusal)
      → Represents nodes (with_node state p after) ((issuing p reading content, Refused refusal) ∷ s)
  issues_not reading content after refusal left =
      let e : Event = issuing p reading content in
      let body : Body = body_of content in
      let is = issuing-is nodes s p reading content in
      let first : expected_refusal nodes s e ≡ issue_refusal (expected_issue before.node body reading) =
      rw was (is.expected ∙ issue-expected nodes s p _ there) in
      let allowed : MayReply nodes s e (Refused refusal) =
      elim left.0 [ inl expected ↦ inl (first ∙ expected) | inr lost ↦ inr (first ∙ lost.0, lost.1, is.may) ] in
      subst (λ x. Represents nodes (with_node state p x) ((e, Refused refusal) ∷ s)) (sym left.1)
      (put-back nodes state _ p before at (stays nodes state s e refusal (is.left refusal) allowed h))

  -- a message that the node sent
  pub sends : (reading : ℕ) (node : NodeView) (st : ℕ) (stamps : List ℕ)
      → expected_event before.node (before.node.last ∷ []) reading ≡ Ok st → node ≡ stamped before.node st
      → stamps ≡ state.sent_stamps ++ st ∷ [] → Represents nodes (record {
        core = state.core;
        nodes = slice_set state.nodes p (record { node = node; issued = before.issued });
        sent_stamps = stamps;
      }) ((Send p reading, Sent st (length state.sent_stamps)) ∷ s)
  sends reading node st stamps expected node-is posted =
      let after : IssuerView = record { node = node; issued = before.issued } in
      let by : expected_event (node_of p s) (last_stamp p s ∷ []) reading ≡ Ok st = rw was at expected in
      let expected' : expected_stamp (last_stamp p s ∷ []) reading ≡ Ok st = event-ok (has_retired p s) _ st by in
      let came : after ≡ a_node p st (issued p s) (has_retired p s) = rw (node-is, was) refl in
      let last : Message = record { from = p; stamp = st } in
      let same : length (slice_set state.nodes p after) ≡ length state.nodes = length-set state.nodes p after in
      record {
        legal = (
          (
            sight-expected nodes s p _ there ∙ ap issue_refusal by,
            (expected', ap length h.sent_stamps ∙ length-map (sent s) (λ (message : Message). message.stamp)),
          ),
          h.legal,
        );
        core = h.core;
        many = same ∙ h.many;
        each = λ n lt.
            subst (λ x. slice_get (slice_set state.nodes p x) n ≡ Some (node_by n (Some (p, st)) None s)) (sym came)
            (nodes-stamped st n (rw same at lt));
        sent_stamps = posted ∙ ap (λ xs. xs ++ st ∷ []) h.sent_stamps
            ∙ sym (map-append (λ (message : Message). message.stamp) (sent s) (last ∷ []));
      }

  -- a message that was not sent, since the node refuses
  pub sends_not : (reading : ℕ) (fault : NodeFault)
      → expected_event before.node (before.node.last ∷ []) reading ≡ Err fault
      → Represents nodes state ((Send p reading, Refused (at_node fault)) ∷ s)
  sends_not reading fault expected =
      let by : expected_event (node_of p s) (last_stamp p s ∷ []) reading ≡ Err fault = rw was at expected in
      stays nodes state s (Send p reading) (at_node fault) refl
      (inl (sight-expected nodes s p _ there ∙ ap issue_refusal by)) h

  -- the node saw a stamp
  pub sees : (e : Event) (reply : ℕ → Reply) (seen reading st : ℕ) (after : IssuerView)
      → IsSight nodes s e reply p seen reading → Sees before after seen reading (Ok st)
      → Represents nodes (with_node state p after) ((e, reply st) ∷ s)
  sees e reply seen reading st after is saw =
      let by : expected_event (node_of p s) (last_stamp p s ∷ seen ∷ []) reading ≡ Ok st = rw was at saw.0 in
      let came : after ≡ a_node p st (issued p s) (has_retired p s) = rw was at saw.1 in
      let none : expected_refusal nodes s e ≡ None =
      is.expected ∙ sight-expected nodes s p _ there ∙ ap issue_refusal by in
      let same : length (slice_set state.nodes p after) ≡ length state.nodes = length-set state.nodes p after in
      goes-on nodes state s e (reply st) None (Some (p, st)) (slice_set state.nodes p after) (is.done st)
      (is.allowed st none (event-ok (has_retired p s) _ st by)) h same
      (λ n lt. rw came (nodes-stamped st n (rw same at lt)))

  -- it did not see it
  pub sees_not : (e : Event) (reply : ℕ → Reply) (seen reading : ℕ) (after : IssuerView) (refusal : Refusal)
      → IsSight nodes s e reply p seen reading → Sees before after seen reading (Err refusal)
      → Represents nodes (with_node state p after) ((e, Refused refusal) ∷ s)
  sees_not e reply seen reading after refusal is left =
      let expected : issue_refusal (expected_event (node_of p s) (last_stamp p s ∷ seen ∷ []) reading) ≡ Some refusal =
      rw was at left.0 in
      subst (λ x. Represents nodes (with_node state p x) ((e, Refused refusal) ∷ s)) (sym left.1)
      (put-back nodes state _ p before at (stays nodes state s e refusal (is.left refusal)
      (inl (is.expected ∙ sight-expected nodes s p _ there ∙ expected)) h))

pub fresh-length : (n : ℕ) → length (fresh_issuers n) ≡ n
fresh-length zero = refl
fresh-length (suc n) = length-append (fresh_issuers n) _ ∙ (let e = fresh-length n in omega (arith, e))

fresh-at : (n k : ℕ) → k < n → slice_get (fresh_issuers n) k ≡ Some (a_node k 0 [] false)
fresh-at zero k h = absurd (omega arith)
fresh-at (suc n) k h =
    elim (cases_eq k n) [
      | inl same ↦ ap (λ j. slice_get (fresh_issuers (suc n)) j) (same ∙ sym (fresh-length n))
          ∙ get-push (fresh_issuers n) (a_node n 0 [] false) ∙ ap (λ j. Some (a_node j 0 [] false)) (sym same)
      | inr other ↦
          get-append_left (fresh_issuers n) (a_node n 0 [] false ∷ []) k (let e = fresh-length n in omega (arith, e))
          ∙ fresh-at n k (omega arith)
    ]

-- a new world
pub starts : (n : ℕ) (core : StoreView) → CoreRepresents core (Started n ∷ [])
    → Represents n (record { core = core; nodes = fresh_issuers n; sent_stamps = [] }) []
starts n core h = grind (arith, common_steps, fresh-length, fresh-at)
