-- What the receipts say after one more call, or one more round: the new receipts come after the earlier ones, and each
-- fact about a list of receipts follows from those about its two parts.
use Rattle.std.proofs.Common.{◌≡◌, ℕ, List, [], ◌∷◌, ◌++◌, map, Bool, Option, Some, None, sym, ap, ◌∙◌, arith}
use Rattle.std.proofs.Common.{length-append, append_assoc, refl, subst, All, length, take, get_or, ◌+◌, ◌<◌, zero-add}
use Rattle.std.proofs.Common.{replicate, drop, Result, Ok, Err, MatchResult, append-nil, take-append-drop, option_map}
use Rattle.std.proofs.lemmas.List.{map-append, take_more, replicate-append-replicate}
use Rattle.std.proofs.lemmas.List.Elements.{All-append, All-nil}
use mathlib.Core.Logic.{dite}
use native.Mathlib.Decide.{dec_lt}
use Rattle.hlc_node.specs.declared.item.Item.{Item}
use Rattle.hlc_server.specs.{declared.entry.Receipt.Receipt, declared.end.WorkEnd.WorkEnd, Seats.CallerView}
use Rattle.hlc_floor.specs.Views.{FeederView, post, FloorPassView}
use Rattle.hlc_workers.specs.declared.session.{Work.Work, Opening.Opening}
use Rattle.hlc_workers.specs.Paid.{event_of, IsPaid, Passed, HasCalled, HasStayed, IsStopped, MadeSome}
use Rattle.hlc_workers.specs.Feeding.{accept_of, TookAll, raised_by, highest, fed_by, fed_all}
use Rattle.hlc_events.specs.declared.event.CoreEvent.{CoreEvent}
use Rattle.hlc_events.specs.declared.event.CoreEvent.TheVariants.{Read, Close, Vacuum}
use Rattle.hlc_core.specs.declared.reply.CoreReply.TheVariants.{Closed}
use Rattle.hlc_workers.specs.Rounds.{opening_of, reads_of, IsOpening, IsRound, AreRounds, HasServed, HasBegun}

-- before the first call
pub paid-none : (seat : CallerView) → IsPaid seat seat []
paid-none seat = record { number = refl; share = omega arith; bear = All-nil (λ (r : Receipt). r.caller ≡ seat.number) }

-- the calls of two parts of the work
pub paid-append : (a b c : CallerView) (xs ys : List Receipt) → IsPaid a b xs → IsPaid b c ys → IsPaid a c (xs ++ ys)
paid-append a b c xs ys p q = record {
  number = q.number ∙ p.number;
  share = omega (arith, p.share, q.share, length-append xs ys);
  bear = All-append (λ (r : Receipt). r.caller ≡ a.number) xs ys p.bear
      (subst (λ (n : ℕ). All (λ (r : Receipt). r.caller ≡ n) ys) p.number q.bear);
}

-- the turns of two parts of the work
passed-append : (may : ℕ → Bool → Type 0) (from : ℕ) (xs ys : List Receipt) → Passed may from xs
    → Passed may (from + length xs) ys
    → Passed may from (xs ++ ys)
passed-append may from xs ys p q = λ turn low high.
    let n = length-append xs ys in
    dite (dec_lt turn (from + length xs))
    (λ (below : turn < from + length xs). p turn low below)
    (λ (above : ¬ (turn < from + length xs)). q turn (omega arith) (omega arith))

-- no call was made
pub called-none : {L : Type 0} (may : ℕ → Bool → Type 0) (old new : Work L) → HasStayed old new
    → HasCalled may old new []
called-none may old new stayed = record {
  receipts = stayed.receipts ∙ sym (append-nil old.receipts.items);
  paid = subst (λ (seat : CallerView). IsPaid old.caller seat []) (sym stayed.caller) (paid-none old.caller);
  passed = λ turn low high. absurd (omega arith);
}

-- before the first call
pub called-first : {L : Type 0} (may : ℕ → Bool → Type 0) (work : Work L) → HasCalled may work work []
called-first may work = called-none may work work (record { receipts = refl; caller = refl })

-- calls, and then more of them
pub called-append : {L : Type 0} (may : ℕ → Bool → Type 0) (old mid new : Work L) (xs ys : List Receipt)
    → HasCalled may old mid xs → HasCalled may mid new ys → HasCalled may old new (xs ++ ys)
called-append may old mid new xs ys p q = record {
  receipts = q.receipts
      ∙ ap (λ (l : List Receipt). l ++ ys) p.receipts
      ∙ append_assoc old.receipts.items xs ys;
  paid = paid-append old.caller mid.caller new.caller xs ys p.paid q.paid;
  passed = passed-append may (length old.receipts.items) xs ys p.passed
      (subst (λ (n : ℕ). Passed may n ys) (ap length p.receipts ∙ length-append old.receipts.items xs) q.passed);
}

-- calls, and then none
pub called_stay : {S L : Type 0} (may : S → ℕ → Bool → Type 0) (gate gate' : S) (old mid new : Work L)
    (xs : List Receipt) → gate' ≡ gate → HasCalled (may gate) old mid xs → HasStayed mid new
    → HasCalled (may gate) old new xs
called_stay may gate gate' old mid new xs same p stayed =
    subst (HasCalled (may gate) old new) (append-nil xs)
    (called-append (may gate) old mid new xs [] p (called-none (may gate) mid new stayed))

-- the same, where the second calls were made with a gate that equals the first one
pub called_on : {S L : Type 0} (may : S → ℕ → Bool → Type 0) (gate gate' : S) (old mid new : Work L)
    (xs ys : List Receipt)
    → gate' ≡ gate → HasCalled (may gate) old mid xs → HasCalled (may gate') mid new ys
    → HasCalled (may gate) old new (xs ++ ys)
called_on may gate gate' old mid new xs ys same p q =
    called-append (may gate) old mid new xs ys p (subst (λ s. HasCalled (may s) mid new ys) same q)

-- the end of the work with such a gate
pub stopped_on : {S L : Type 0} (may : S → ℕ → Bool → Type 0) (gate gate' : S) (new : Work L) (end : WorkEnd)
    → gate' ≡ gate → IsStopped (may gate') new end → IsStopped (may gate) new end
stopped_on may gate gate' new end same is = subst (λ s. IsStopped (may s) new end) same is

-- all calls so far, and then more of them
pub paid_all : {L : Type 0} (may : ℕ → Bool → Type 0) (first : CallerView) (mid new : Work L) (ys : List Receipt)
    → HasCalled may mid new ys → IsPaid first mid.caller mid.receipts.items
    → IsPaid first new.caller new.receipts.items
paid_all may first mid new ys called had =
    subst (λ (l : List Receipt). IsPaid first new.caller l) (sym called.receipts)
    (paid-append first mid.caller new.caller mid.receipts.items ys had called.paid)

-- the turns of all calls so far, and of more calls with an equal gate
pub passed_all : {S L : Type 0} (may : S → ℕ → Bool → Type 0) (gate gate' : S) (mid new : Work L) (ys : List Receipt)
    → gate' ≡ gate → HasCalled (may gate') mid new ys → Passed (may gate) 0 mid.receipts.items
    → Passed (may gate) 0 new.receipts.items
passed_all may gate gate' mid new ys same called had =
    subst (λ (l : List Receipt). Passed (may gate) 0 l) (sym called.receipts)
    (passed-append (may gate) 0 mid.receipts.items ys had
    (subst (λ (n : ℕ). Passed (may gate) n ys) (sym (zero-add (length mid.receipts.items)))
    (subst (λ s. Passed (may s) (length mid.receipts.items) ys) same called.passed)))

-- one more vacuum
pub vacuums_more : (n : ℕ) (more : List Receipt) (r : Receipt) → r.event ≡ Vacuum
    → map event_of more ≡ replicate n Vacuum
    → map event_of (more ++ r ∷ []) ≡ replicate (n + 1) Vacuum
vacuums_more n more r event had =
    map-append event_of more (r ∷ [])
    ∙ ap (λ l. l ++ event_of r ∷ []) had
    ∙ ap (λ e. replicate n Vacuum ++ e ∷ []) event
    ∙ replicate-append-replicate n 1 Vacuum

-- one more item was taken and passed to the store
pub took_more : (before taken after : List Item) (receipts more : List Receipt) (r : Receipt) (item : Item)
    → TookAll before taken receipts None → more ≡ receipts ++ r ∷ [] → r.event ≡ accept_of item
    → after ≡ taken ++ item ∷ []
    → TookAll before after more None
took_more before taken after receipts more r item took is event now = (
  took.0 ++ item ∷ [],
  now
      ∙ ap (λ (l : List Item). l ++ item ∷ []) (took.1 ∙ append-nil (before ++ took.0))
      ∙ append_assoc before took.0 (item ∷ [])
      ∙ sym (append-nil (before ++ (took.0 ++ item ∷ []))),
  ap (map event_of) is
      ∙ map-append event_of receipts (r ∷ [])
      ∙ ap (λ l. l ++ event_of r ∷ []) took.2
      ∙ ap (λ e. map accept_of took.0 ++ e ∷ []) event
      ∙ sym (map-append accept_of took.0 (item ∷ [])),
)

-- what is raised after one more receipt
highest_more : (node raised : ℕ) (xs : List Receipt) (r : Receipt)
    → highest node raised (xs ++ r ∷ []) ≡ raised_by node (highest node raised xs) r.reply
highest_more node raised [] r = refl
highest_more node raised (y ∷ ys) r = highest_more node (raised_by node raised y.reply) ys r

-- the feeder, where there is one, after one more receipt
pub raised_more : (first was now : Option FeederView) (receipts more : List Receipt) (r : Receipt)
    → was ≡ option_map (λ feeder. fed_all feeder receipts) first → more ≡ receipts ++ r ∷ []
    → now ≡ option_map (λ feeder. fed_by feeder r.reply) was
    → now ≡ option_map (λ feeder. fed_all feeder more) first
raised_more first was now receipts more r before is step =
    step
    ∙ ap (option_map (λ feeder. fed_by feeder r.reply)) before
    ∙ one_more first
    ∙ ap (λ (l : List Receipt). option_map (λ feeder. fed_all feeder l) first) (sym is)
  where
    one_more : (feeder : Option FeederView)
        → option_map (λ f. fed_by f r.reply) (option_map (λ f. fed_all f receipts) feeder)
        ≡ option_map (λ f. fed_all f (receipts ++ r ∷ [])) feeder
    one_more None = refl
    one_more (Some feeder) =
        ap (λ (n : ℕ). Some (post feeder.board feeder.node n)) (sym (highest_more feeder.node feeder.raised receipts r))

-- one more round after the earlier ones
pub rounds-append : (keys : List (List ℕ)) (stamps : List ℕ) (stamp : ℕ) (before round : List Receipt)
    → AreRounds keys stamps before
    → IsRound keys stamp round → AreRounds keys (stamps ++ stamp ∷ []) (before ++ round)
rounds-append keys [] stamp before round had here =
    (round, [], ap (λ (l : List Receipt). l ++ round) had ∙ sym (append-nil round), here, refl)
rounds-append keys (s ∷ stamps) stamp before round had here = (
  had.0,
  had.1 ++ round,
  ap (λ (l : List Receipt). l ++ round) had.2 ∙ append_assoc had.0 had.1 round,
  had.3,
  rounds-append keys stamps stamp had.1 round had.4 here,
)

-- one more key was read
pub read_more : (keys : List (List ℕ)) (id i : ℕ) (item key : List ℕ) (more : List Receipt) (r : Receipt)
    → i < length keys → item ≡ get_or keys i item → key ≡ item → r.event ≡ Read id key
    → map event_of more ≡ map (Read id) (take i keys)
    → map event_of (more ++ r ∷ []) ≡ map (Read id) (take (i + 1) keys)
read_more keys id i item key more r lt is copy event had =
    map-append event_of more (r ∷ [])
    ∙ ap (λ l. l ++ event_of r ∷ []) had
    ∙ ap (λ e. map (Read id) (take i keys) ++ e ∷ []) (event ∙ ap (Read id) (copy ∙ is))
    ∙ sym (map-append (Read id) (take i keys) (get_or keys i item ∷ []))
    ∙ sym (ap (map (Read id)) (take_more keys i item lt))

-- the receipt of a call that was not made, if it were
abbrev pub missing : CoreEvent → Receipt
missing event = record { caller = 0; number = 0; event = event; reply = Closed 0 }

all_missing : (events : List CoreEvent) → map event_of (map missing events) ≡ events
all_missing [] = refl
all_missing (event ∷ events) = ap (λ l. event ∷ l) (all_missing events)

-- the receipts of the first calls, and those of the calls that are missing
pub some_missing : (made events : List CoreEvent) (more : List Receipt) → map event_of more ≡ made
    → map event_of (more ++ map missing events) ≡ made ++ events
some_missing made events more had =
    map-append event_of more (map missing events)
    ∙ ap (λ l. l ++ map event_of (map missing events)) had
    ∙ ap (λ l. made ++ l) (all_missing events)

-- the keys from this one on were not read
pub keys_missing : (keys : List (List ℕ)) (id i : ℕ) (more : List Receipt)
    → map event_of more ≡ map (Read id) (take i keys)
    → (rest : List Receipt) × (map event_of (more ++ rest) ≡ map (Read id) keys)
keys_missing keys id i more had = (
  map missing (map (Read id) (drop i keys)),
  some_missing (map (Read id) (take i keys)) (map (Read id) (drop i keys)) more had
      ∙ sym (map-append (Read id) (take i keys) (drop i keys))
      ∙ ap (map (Read id)) (take-append-drop i keys),
)

-- the snapshot was not closed
pub close_missing : (keys : List (List ℕ)) (id : ℕ) (more rest : List Receipt)
    → map event_of (more ++ rest) ≡ map (Read id) keys
    → (all : List Receipt) × (map event_of (more ++ all) ≡ reads_of id keys)
close_missing keys id more rest had = (
  rest ++ missing (Close id) ∷ [],
  ap (map event_of) (sym (append_assoc more rest (missing (Close id) ∷ [])))
      ∙ some_missing (map (Read id) keys) (Close id ∷ []) (more ++ rest) had,
)

-- rounds that were served were begun
pub begun_all : {A : Type 0} (keys : List (List ℕ)) (rounds : ℕ) (before after : FloorPassView)
    (receipts more : List Receipt) (made : Result A WorkEnd) (Stopped : WorkEnd → Type 0) → receipts ≡ more
    → MatchResult made (λ _. HasServed keys rounds before after more)
    (λ end. Stopped end × HasBegun keys rounds before after more)
    → HasBegun keys rounds before after receipts
begun_all keys rounds before after receipts more (Ok a) Stopped same s =
    subst (HasBegun keys rounds before after) (sym same)
    (s.0, [], omega (arith, s.1), subst (AreRounds keys s.0) (sym (append-nil more)) s.2, s.3)
begun_all keys rounds before after receipts more (Err end) Stopped same s =
    subst (HasBegun keys rounds before after) (sym same) s.1

-- an opening, and then what follows it
pub opening_then : {S L A : Type 0} (may : S → ℕ → Bool → Type 0) (gate gate' : S)
    (Goes : Opening → List Receipt → Type 0) (Wanted : List Receipt → Type 0) (event : CoreEvent) (opening : Opening)
    (old mid new : Work L) (made : Result A WorkEnd)
    → gate' ≡ gate
    → ((r : Receipt) (more : List Receipt) → (r.event ≡ event) × Goes (opening_of r.reply) more → Wanted (r ∷ more))
    → (r : Receipt) × HasCalled (may gate) old mid (r ∷ []) × IsOpening event opening r
    → MadeSome (may gate') mid new made (Goes opening)
    → MadeSome (may gate) old new made Wanted
opening_then {S} {L} {A} may gate gate' Goes Wanted event opening old mid new made same all t e = (
  t.0 ∷ e.0,
  called_on may gate gate' old mid new (t.0 ∷ []) e.0 same t.1 e.1,
  went made e.2,
)
  where
    wanted : (more : List Receipt) → Goes opening more → Wanted (t.0 ∷ more)
    wanted more goes = all t.0 more (t.2.0, subst (λ (o : Opening). Goes o more) t.2.1 goes)

    went : (made : Result A WorkEnd)
        → MatchResult made (λ _. Goes opening e.0)
        (λ end. IsStopped (may gate') new end × ((rest : List Receipt) × Goes opening (e.0 ++ rest)))
        → MatchResult made (λ _. Wanted (t.0 ∷ e.0))
        (λ end. IsStopped (may gate) new end × ((rest : List Receipt) × Wanted (t.0 ∷ e.0 ++ rest)))
    went (Ok a) goes = wanted e.0 goes
    went (Err end) is =
        (stopped_on may gate gate' new end same is.0, (is.1.0, wanted (e.0 ++ is.1.0) is.1.1))
