-- A delivery gets the expected reply: the store refuses an issued item only because of its number, or because its
-- node's last item was accepted, as the schedule says. A node that joins has no items and no stamp, and its clock
-- starts at the floor.
use Rattle.std.proofs.Common.{◌≡◌, ℕ, ◌<◌, List, ◌∷◌, length, Some, None, Option, Ok, Err, Result, refl, ap, sym, ◌∙◌}
use Rattle.std.proofs.Common.{subst, inl, inr, arith, ◌+◌, Bool, false, [], ◌++◌, length-append, true, ◌≤◌, MatchResult}
use Rattle.std.proofs.Common.{slice_get, eq-eqb, ne_eqb}
use Rattle.std.proofs.lemmas.{Grind.common_steps, Option.same_Some, Bool.lt-leb, Bool.cases_eq}
use Rattle.hlc_node.specs.{declared.item.Item.Item, Items.retires, Items.body_refusal}
use Rattle.hlc_events.specs.declared.fault.CoreFault.{CoreFault}
use Rattle.hlc_heads.specs.Heads.{AcceptedView}
use Rattle.hlc_core.specs.Past.{Took, numbered, retired, count, item_refusal, Joined as JoinedOf, floor, join_refusal}
use Rattle.hlc_core.specs.Past.{link_refusal}
use Rattle.hlc_values.specs.declared.bounds.TheConstants.{NUMBER_BOUND}
use Rattle.hlc_core.specs.{StoreView.StoreView, StoreView.Represents as CoreRepresents, Calls.IsRefusal, Calls.IsWrite}
use Rattle.hlc_world_event.specs.declared.event.Event.TheVariants.{Deliver, Join}
use Rattle.hlc_world.specs.declared.reply.Reply.{Reply, TheVariants.Accepted, TheVariants.Refused, TheVariants.Joined}
use Rattle.hlc_world.specs.declared.refusal.Refusal.TheVariants.{NoMemory}
use Rattle.hlc_world.specs.Schedule.{item_at, item_made, with_item, ends, issued, has_retired}
use Rattle.hlc_world_event.specs.Events.{Event}
use Rattle.hlc_world.specs.Store.{accepting, accepted, paired, store_history, core_past}
use Rattle.hlc_world.specs.Expected.{of_core, core_refusal, on_link, deliver_refusal, expected_refusal, number_refusal}
use Rattle.hlc_world.specs.Expected.{GoesByNumber, IsExpectedOfStore, StoreMayRunOut, IsLegal}
use Rattle.hlc_world.specs.WorldView.{IssuerView, WorldView, Represents}
use Rattle.hlc_world.proofs.{Nodes.stays, Nodes.on_link-inside, Nodes.a_node, Lists.get-append_left, Lists.get-push}
use Rattle.hlc_world.proofs.Orderly.{IsOrderly, orderly, past_taken}
use Rattle.hlc_intake.specs.declared.intake.LinkFault.TheVariants as link_fault
use Rattle.hlc_events.specs.declared.fault.CoreFault.TheVariants as core_fault

refused-by : (was_last : Bool) (next top k : ℕ) (item : Item) → item.number ≡ k → (k ≡ NUMBER_BOUND → ⊥)
    → body_refusal item.body ≡ None → (next ≤ k → top < item.stamp)
    → core_refusal (link_refusal was_last next top item) ≡ number_refusal (Some item) was_last k next
refused-by true next top k item is left body ahead = refl
refused-by false next top k item is left body ahead = grind (arith, common_steps, cases_eq, eq-eqb, ne_eqb, lt-leb)

-- the core refuses an issued item only because of its number, or because its node's last item was accepted
by-number : (n : ℕ) (s : List (Event × Reply)) (p k : ℕ) (item : Item) → IsOrderly n s → item_at p k s ≡ Some item
    → core_refusal (item_refusal (core_past n s) item)
    ≡ number_refusal (Some item) (retired p (core_past n s)) k (count p (core_past n s))
by-number n s p k item o at = grind (arith, common_steps, lt-leb, refused-by)

found-number : (n : ℕ) (s : List (Event × Reply)) (p k : ℕ) (o : Option Item) → IsOrderly n s → item_at p k s ≡ o
    → deliver_refusal (core_past n s) o ≡ number_refusal o (retired p (core_past n s)) k (count p (core_past n s))
found-number n s p k None ordered at = refl
found-number n s p k (Some item) ordered at = by-number n s p k item ordered at

-- the same is true of a delivery
pub goes-by-number : (n : ℕ) (s : List (Event × Reply)) → IsLegal n s → GoesByNumber n s
goes-by-number n s legal =
    λ p k. ap (λ rest. on_link n s p rest) (found-number n s p k (item_at p k s) (orderly n s legal) refl)

-- the item that the world finds is the issued one
pub found : (n : ℕ) (state : WorldView) (s : List (Event × Reply)) (p k : ℕ) (issuer : IssuerView) (item : Item)
    → Represents n state s
    → p < length state.nodes → slice_get state.nodes p ≡ Some issuer → Some item ≡ slice_get issuer.issued k
    → item_at p k s ≡ Some item
found n state s p k issuer item h inside at in_items =
    ap (λ x. slice_get x.issued k) (same_Some _ _ (sym (h.each p inside) ∙ at)) ∙ sym in_items

-- the reply to what the core answered
abbrev pub reply_of : Result ℕ CoreFault → Reply
reply_of (Ok stamp) = Accepted stamp
reply_of (Err fault) = Refused (of_core fault)

abbrev with_core : WorldView → StoreView → WorldView
with_core state core = record { core = core; nodes = state.nodes; sent_stamps = state.sent_stamps }

module _ (n : ℕ) (state : WorldView) (s : List (Event × Reply)) (p k : ℕ) (item : Item) (h : Represents n state s)
    (at : item_at p k s ≡ Some item) where
  -- the world refuses to deliver an issued item for the same reason as the core
  expected : expected_refusal n s (Deliver p k) ≡ core_refusal (item_refusal (core_past n s) item)
  expected = on_link-inside n s p _ ((orderly n s h.legal p).each k item at).inside
      ∙ ap (λ x. deliver_refusal (core_past n s) x) at

  -- the core refuses the item, apart from out of memory
  refused : (f : CoreFault) → item_refusal (core_past n s) item ≡ Some f
      → Represents n state ((Deliver p k, Refused (of_core f)) ∷ s)
  refused f refusal =
      stays n state s (Deliver p k) (of_core f) refl (inl (expected ∙ ap core_refusal refusal)) h

  -- it runs out of memory for it, as only a write may
  no_memory : item_refusal (core_past n s) item ≡ None → IsWrite item.body
      → Represents n state ((Deliver p k, Refused NoMemory) ∷ s)
  no_memory none takes =
      let may : StoreMayRunOut (core_past n s) (accepting (item_at p k s)) = rw at takes in
      stays n state s (Deliver p k) NoMemory refl (inr (expected ∙ ap core_refusal none, refl, may)) h

  -- the core accepts it
  taken : (core : StoreView) → item_refusal (core_past n s) item ≡ None
      → CoreRepresents core (Took item ∷ core_past n s)
      → Represents n (with_core state core) ((Deliver p k, Accepted item.stamp) ∷ s)
  taken core none took =
      let acceptance : ℕ → AcceptedView = λ j. record { node = j; stamp = item.stamp; retires = retires item.body } in
      record {
        legal = (
          (
            expected ∙ ap core_refusal none,
            subst (λ o. IsExpectedOfStore (core_past n s) (paired (accepted p item.stamp o) (accepting o))) (sym at)
                (ap acceptance (sym ((orderly n s h.legal p).each k item at).node)),
          ),
          h.legal,
        );
        core = subst (λ o. CoreRepresents core (past_taken n p item.stamp o (store_history s))) (sym at) took;
        many = subst (λ o. length state.nodes ≡ numbered (past_taken n p item.stamp o (store_history s))) (sym at)
            h.many;
        each = h.each;
        sent_stamps = h.sent_stamps;
      }

  -- what the core answers to the item
  pub answered : (core : StoreView) (result : Result ℕ CoreFault)
      → MatchResult result
      (λ stamp. (stamp ≡ item.stamp) × (item_refusal (core_past n s) item ≡ None) × CoreRepresents core
      (Took item ∷ core_past n s))
      (λ fault. IsRefusal (item_refusal (core_past n s) item) (IsWrite item.body) fault × (core ≡ state.core))
      → Represents n (with_core state core) ((Deliver p k, reply_of result) ∷ s)
  answered core (Ok stamp) a = rw a.0 (taken core a.1 a.2)
  answered core (Err f) a =
      rw a.1 (elim a.0 [ inl refusal ↦ refused f refusal | inr lost ↦ rw lost.1 (no_memory lost.0 lost.2) ])

no-items : (xs : List Item) → ((k : ℕ) (item : Item) → slice_get xs k ≡ Some item → ⊥) → xs ≡ []
no-items [] h = refl
no-items (x ∷ xs) h = absurd (h 0 x refl)

-- a list to which an item was appended is not empty
not-empty : (xs : List Item) (x : Item) → xs ++ x ∷ [] ≡ [] → ⊥
not-empty [] x e = absurd (cc)
not-empty (y ∷ ys) x e = absurd (cc)

item-ends : (n : ℕ) (o : Option Item) (xs : List Item) (before : Bool) → (xs ≡ [] → before ≡ false)
    → with_item n o xs ≡ [] → ends n o before ≡ false
item-ends n None xs before h e = h e
item-ends n (Some item) xs before h e = grind (arith, common_steps, cases_eq, not-empty, eq-eqb, ne_eqb)

-- a node that issued nothing has not retired
not-retired : (n : ℕ) (s : List (Event × Reply)) → issued n s ≡ [] → has_retired n s ≡ false
not-retired n [] e = refl
not-retired n (entry ∷ s) e = item-ends n (item_made entry.0 entry.1) (issued n s) (has_retired n s) (not-retired n s) e

-- a node joined, with the next number
pub joins : (nodes : ℕ) (state : WorldView) (s : List (Event × Reply)) (node start : ℕ) (core : StoreView)
    → Represents nodes state s → join_refusal (core_past nodes s) ≡ None
    → node ≡ numbered (core_past nodes s) → start ≡ floor (core_past nodes s)
    → CoreRepresents core (JoinedOf node start ∷ core_past nodes s) → Represents nodes (record {
      core = core;
      nodes = state.nodes ++ a_node node start [] false ∷ [];
      sent_stamps = state.sent_stamps;
    }) ((Join, Joined node start) ∷ s)
joins nodes state s node start core h none is at represents =
    let x : IssuerView = a_node node start [] false in
    let l : length (state.nodes ++ x ∷ []) ≡ length state.nodes + 1 = length-append state.nodes (x ∷ []) in
    record {
      legal = ((ap core_refusal none, (is, at)), h.legal);
      core = represents;
      many = l ∙ ap (λ n. n + 1) h.many;
      each = λ n lt.
          elim (cases_eq n (length state.nodes)) [
            | inl last ↦
                let own : node ≡ n = is ∙ sym h.many ∙ sym last in
                let empty : issued n s ≡ [] =
                no-items (issued n s) (λ k item there.
                (let i = ((orderly nodes s h.legal n).each k item there).inside in
                omega (arith, i, is, own))) in
                rw (eq-eqb node n own, empty, not-retired n s empty, ← own)
                (ap (λ k. slice_get (state.nodes ++ x ∷ []) k) (own ∙ last) ∙ get-push state.nodes x)
            | inr earlier ↦
                let within : n < length state.nodes = omega (arith, lt, l) in
                let other : node ≡ n → ⊥ = λ e. (let m = h.many in omega (arith, is, m, e)) in
                rw (ne_eqb node n other) (get-append_left state.nodes (x ∷ []) n within ∙ h.each n within)
          ];
      sent_stamps = h.sent_stamps;
    }
