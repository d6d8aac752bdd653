-- A store that reads the log again from an earlier place is at a place of it, and stores at places of one log can meet.
use Rattle.std.proofs.Common.{◌≡◌, ◌⊎◌, ℕ, ◌+◌, ◌<◌, ◌≤◌, ◌∙◌, sym, ap, ap₂, subst, List, [], ◌∷◌, ◌++◌, length, refl}
use Rattle.std.proofs.Common.{arith, length-append, Ok, inl, inr, Contains, All, append-nil, append_assoc}
use Rattle.std.proofs.lemmas.Bool.{cases_Bool, cond-true, cond-false}
use Rattle.std.proofs.lemmas.List.Elements.{All-head, All-tail}
use Rattle.hlc_rows.specs.Rows.{answer}
use Rattle.hlc_snapshot.specs.RegistryView.{stamps}
use Rattle.hlc_wire.proofs.FieldLemmas.{ok_is}
use Rattle.hlc_core.specs.Past.{Step, initial_nodes, floor, horizon, open_snapshots, IsLegal}
use Rattle.hlc_core.specs.{Replicas.CanMeet, StoreView.StoreView, StoreView.Represents}
use Rattle.hlc_core.proofs.CheckpointLemmas.{floor-in}
use Rattle.hlc_core.proofs.StayLemmas.{legal-before}
use Rattle.hlc_replicas.specs.Places.{log_of}
use Rattle.hlc_replicas.proofs.PlaceLemmas.{log-same, log-append, legal-log, can-meet}
use Rattle.hlc_replicas.proofs.ReplicaLemmas.{lagging_stores-agree}
use Rattle.hlc_saved.specs.Saved.{BytesRepresent}
use Rattle.hlc_log.specs.declared.record.Record.{Record, TheVariants.Item, TheVariants.Join, TheVariants.Threshold}
use Rattle.hlc_log.specs.{declared.apply.Applied.Applied, Places.HasTaken, Places.IsAt, Places.CanRead}
use Rattle.hlc_log.specs.Record.{record_bytes, record_at, RecordFits}
use Rattle.hlc_log.specs.Log.{came_before, step_of, with_record, with_records, log_bytes, AreApplied}
use Rattle.hlc_log.proofs.RecordLemmas.{record_reader}
use Rattle.hlc_log.proofs.LogLemmas.{some_bytes, steps-of, records-append, read-again, read-part}

-- of two ways to divide a list one is further on
parted : (front rest one other : List Record) → front ++ rest ≡ one ++ other
    → ((more : List Record) × (one ≡ front ++ more) × (rest ≡ more ++ other))
    ⊎ ((more : List Record) × (front ≡ one ++ more) × (other ≡ more ++ rest))
parted [] rest one other e = inl (one, refl, e)
parted (entry ∷ front) rest [] other e = inr (entry ∷ front, refl, sym e)
parted (entry ∷ front) rest (first ∷ one) other e =
    let same : entry ≡ first = cc in
    elim (parted front rest one other (cc)) [
      | inl on ↦ inl (on.0, ap₂ (λ x xs. x ∷ xs) (sym same) on.1, on.2)
      | inr on ↦ inr (on.0, ap₂ (λ x xs. x ∷ xs) same on.1, on.2)
    ]

-- what is read from the front of the bytes of a log are its first records
pub first-records : (records log : List Record) (rest : List ℕ) → All RecordFits records → All RecordFits log
    → log_bytes records ++ rest ≡ log_bytes log → (left : List Record) × (log ≡ records ++ left)
first-records [] log rest fit fit' e = (log, refl)
first-records (entry ∷ records) [] rest fit fit' e =
    absurd (let some : 0 < length (record_bytes entry) = some_bytes entry in
    let long = length-append (record_bytes entry) (log_bytes records) in
    let long' = length-append (log_bytes (entry ∷ records)) rest in
    let none : length (log_bytes (entry ∷ records) ++ rest) ≡ 0 = ap length e in
    omega (arith, some, long, long', none))
first-records (entry ∷ records) (first ∷ log) rest fit fit' e =
    let both : (entry, log_bytes records ++ rest) ≡ (first, log_bytes log) =
    ok_is (entry, log_bytes records ++ rest) (first, log_bytes log)
    (sym (record_reader.again entry (log_bytes records ++ rest) (All-head RecordFits entry records fit))
    ∙ ap record_at (sym (append_assoc (record_bytes entry) (log_bytes records) rest) ∙ e)
    ∙ record_reader.again first (log_bytes log) (All-head RecordFits first log fit')) in
    let later =
    first-records records log rest (All-tail RecordFits entry records fit) (All-tail RecordFits first log fit')
    (ap (λ (x : Record × List ℕ). x.1) both) in
    (later.0, ap₂ (λ x xs. x ∷ xs) (sym (ap (λ (x : Record × List ℕ). x.0) both)) later.1)

-- ---- what a past has of the log

came-log : (past : List Step) (entry : Record) → came_before (log_of past) entry ≡ came_before past entry
came-log past (Item item) = let so = log-same past in rw (so.3, (so.5 item.node).1) refl
came-log past (Join node start) = rw (log-same past).3 refl
came-log past (Threshold at) = refl

step-log : (entry : Record) (past : List Step) → log_of (step_of entry ++ past) ≡ step_of entry ++ log_of past
step-log (Item item) past = refl
step-log (Join node start) past = refl
step-log (Threshold at) past = refl

entry-log : (entry : Record) (past : List Step) → log_of (with_record entry past) ≡ with_record entry (log_of past)
entry-log entry past =
    elim (cases_Bool (came_before past entry)) [
      | inl came ↦ ap log_of (cond-true _ _ _ came) ∙ sym (cond-true _ _ _ (came-log past entry ∙ came))
      | inr new ↦ ap log_of (cond-false _ _ _ new) ∙ step-log entry past
          ∙ sym (cond-false _ _ _ (came-log past entry ∙ new))
    ]

-- it is made of the records alone
read-log : (records : List Record) (past : List Step)
    → log_of (with_records records past) ≡ with_records records (log_of past)
read-log [] past = refl
read-log (entry ∷ records) past =
    read-log records (with_record entry past) ∙ ap (with_records records) (entry-log entry past)

-- a store that has read the log to a place reads from an earlier one to a later one
further : (start past : List Step) (before again more : List Record) → IsLegal past
    → HasTaken start (before ++ again) past
    → HasTaken start ((before ++ again) ++ more) (with_records (again ++ more) past)
further start past before again more legal has =
    let from : List Step = log_of start in
    let here : log_of past ≡ with_records (before ++ again) from = has ∙ read-log (before ++ again) start in
    read-log (again ++ more) past ∙ ap (with_records (again ++ more)) here
    ∙ read-again from before again more (subst IsLegal here (legal-log past legal))
    ∙ sym (records-append (before ++ again) more from) ∙ sym (read-log ((before ++ again) ++ more) start)

-- or to one that is not later
not-further : (start past : List Step) (before again left : List Record) → IsLegal past
    → HasTaken start (before ++ (again ++ left)) past
    → HasTaken start (before ++ (again ++ left)) (with_records again past)
not-further start past before again left legal has =
    let from : List Step = log_of start in
    let all : List Record = before ++ (again ++ left) in
    let here : log_of past ≡ with_records all from = has ∙ read-log all start in
    read-log again past ∙ ap (with_records again) here
    ∙ read-part from before again left (subst IsLegal here (legal-log past legal)) ∙ sym (read-log all start)

-- what is recovered is at a place of the log
pub recovered-place : (start past : List Step) (before again rest : List Record) (kept : StoreView)
    (bytes after : List ℕ) (least : ℕ) (applied : Applied) → HasTaken start (before ++ again) past
    → All RecordFits (again ++ rest) → bytes ++ after ≡ log_bytes (again ++ rest)
    → AreApplied kept bytes past least applied
    → (now : List Step) × Represents kept now × IsAt start (before ++ (again ++ rest)) now
recovered-place start past before again rest kept bytes after least applied has fit spelled are =
    let read : List Record = are.records in
    let now : List Step = with_records read past in
    let steps = steps-of read past in
    let legal : IsLegal past = legal-before past steps.0 (subst IsLegal steps.1 are.represents.legal) in
    let first =
    first-records read (again ++ rest) (are.rest ++ after) are.fit fit
    (sym (append_assoc (log_bytes read) are.rest after)
    ∙ sym (ap (λ (xs : List ℕ). xs ++ after) are.bytes_are) ∙ spelled) in (
      now,
      are.represents,
      elim (parted again rest read first.0 first.1) [
        | inl on ↦ record {
          taken = (before ++ again) ++ on.0;
          left = first.0;
          parts = sym (append_assoc before again rest) ∙ ap (λ (xs : List Record). (before ++ again) ++ xs) on.2
              ∙ sym (append_assoc (before ++ again) on.0 first.0);
          has = subst (λ (r : List Record). HasTaken start ((before ++ again) ++ on.0) (with_records r past))
              (sym on.1) (further start past before again on.0 legal has);
        }
        | inr on ↦ record {
          taken = before ++ again;
          left = rest;
          parts = sym (append_assoc before again rest);
          has = subst (λ (r : List Record). HasTaken start (before ++ r) now) (sym on.1)
              (not-further start past before read on.0 legal
              (subst (λ (r : List Record). HasTaken start (before ++ r) past) on.1 has));
        }
      ],
    )

-- ---- places of one log

-- more records take place later
on-log : (start past other : List Step) (one more : List Record) → HasTaken start one past
    → HasTaken start (one ++ more) other
    → (steps : List Step) × (log_of other ≡ log_of steps ++ log_of past)
on-log start past other one more has has' =
    let here : List Step = with_records one start in
    let steps = steps-of more here in (
      steps.0,
      has' ∙ ap log_of (records-append one more start ∙ steps.1) ∙ log-append steps.0 here
          ∙ ap (λ (p : List Step). log_of steps.0 ++ p) (sym has),
    )

-- a place has the nodes of the start
nodes-step : (entry : Record) (past : List Step) → initial_nodes (step_of entry ++ past) ≡ initial_nodes past
nodes-step (Item item) past = refl
nodes-step (Join node start) past = refl
nodes-step (Threshold at) past = refl

nodes-read : (records : List Record) (past : List Step)
    → initial_nodes (with_records records past) ≡ initial_nodes past
nodes-read [] past = refl
nodes-read (entry ∷ records) past =
    nodes-read records (with_record entry past)
    ∙ elim (cases_Bool (came_before past entry)) [
      | inl came ↦ ap initial_nodes (cond-true _ _ _ came)
      | inr new ↦ ap initial_nodes (cond-false _ _ _ new) ∙ nodes-step entry past
    ]

nodes-at : (start past : List Step) (records : List Record) → HasTaken start records past
    → initial_nodes past ≡ initial_nodes start
nodes-at start past records has =
    sym (log-same past).1 ∙ ap initial_nodes has ∙ (log-same (with_records records start)).1
    ∙ nodes-read records start

stores-meet : (start past other : List Step) (log : List Record) → 0 < initial_nodes start → IsLegal past
    → IsLegal other → IsAt start log past → IsAt start log other → CanMeet past other ⊎ CanMeet other past
stores-meet start past other log some legal legal' at at' =
    elim (parted at.taken at.left at'.taken at'.left (sym at.parts ∙ at'.parts)) [
      | inl on ↦
          let steps = on-log start past other at.taken on.0 at.has
          (subst (λ (r : List Record). HasTaken start r other) on.1 at'.has) in
          let many = nodes-at start past at.taken at.has in
          inl (can-meet past other steps.0 (omega (arith, some, many)) legal legal' steps.1)
      | inr on ↦
          let steps = on-log start other past at'.taken on.0 at'.has
          (subst (λ (r : List Record). HasTaken start r past) on.1 at.has) in
          let many = nodes-at start other at'.taken at'.has in
          inr (can-meet other past steps.0 (omega (arith, some, many)) legal' legal steps.1)
    ]

-- where a store can be read it can be by its past
low-there : (kept : StoreView) (past : List Step) (stamp : ℕ) → Represents kept past → CanRead kept stamp
    → stamp ≤ floor past
low-there kept past stamp h can = subst (λ f. stamp ≤ f) (floor-in kept past h) can.low

shown-there : (kept : StoreView) (past : List Step) (stamp : ℕ) → Represents kept past → CanRead kept stamp
    → (horizon past ≤ stamp) ⊎ Contains (stamps (open_snapshots past)) stamp
shown-there kept past stamp h can =
    subst (λ b. (b ≤ stamp) ⊎ Contains (stamps (open_snapshots past)) stamp) h.horizon
    (subst (λ xs. (kept.horizon ≤ stamp) ⊎ Contains (stamps xs) stamp) h.snapshots can.shown)

-- so stores at places of one log answer alike where both can be read
pub places-agree : (start past other : List Step) (log : List Record) (kept copy : StoreView)
    → 0 < initial_nodes start → Represents kept past → IsAt start log past → Represents copy other
    → IsAt start log other → (key : List ℕ) (stamp : ℕ) → CanRead kept stamp → CanRead copy stamp
    → answer kept.rows key stamp ≡ answer copy.rows key stamp
places-agree start past other log kept copy some h at h' at' key stamp can can' =
    let low = low-there kept past stamp h can in
    let low' = low-there copy other stamp h' can' in
    let shown = shown-there kept past stamp h can in
    let shown' = shown-there copy other stamp h' can' in
    elim (stores-meet start past other log some h.legal h'.legal at at') [
      | inl meet ↦ lagging_stores-agree kept copy past other h h' meet key stamp low low' shown shown'
      | inr meet ↦ sym (lagging_stores-agree copy kept other past h' h meet key stamp low' low shown' shown)
    ]

-- and so does what is recovered
pub recovered-agree : (start past other : List Step) (before again rest : List Record)
    (checkpoint bytes after : List ℕ) (tag least : ℕ) (applied : Applied) (kept copy : StoreView)
    → BytesRepresent checkpoint tag past → HasTaken start (before ++ again) past → All RecordFits (again ++ rest)
    → bytes ++ after ≡ log_bytes (again ++ rest) → AreApplied kept bytes past least applied
    → Represents copy other → IsAt start (before ++ (again ++ rest)) other
    → (key : List ℕ) (stamp : ℕ) → CanRead kept stamp → CanRead copy stamp
    → answer kept.rows key stamp ≡ answer copy.rows key stamp
recovered-agree start past other before again rest checkpoint bytes after tag least applied kept copy saved has fit
    spelled are h at key stamp can can' =
    let found = recovered-place start past before again rest kept bytes after least applied has fit spelled are in
    let some : 0 < saved.0.initial_nodes = saved.1.sound.store.sound.nodes.some in
    let nodes : saved.0.initial_nodes ≡ initial_nodes past = saved.2.initial_nodes in
    let many = nodes-at start past (before ++ again) has in
    places-agree start found.0 other (before ++ (again ++ rest)) kept copy (omega (arith, some, nodes, many)) found.1
    found.2 h at key stamp can can'
