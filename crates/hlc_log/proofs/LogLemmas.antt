-- The records of a log, read one after another; and what comes again is passed over.
use Rattle.std.proofs.Common.{◌≡◌, ◌⊎◌, ℕ, ◌+◌, ◌-◌, ◌<◌, ◌≤◌, ◌∙◌, sym, ap, subst, List, [], ◌∷◌, ◌++◌, length, max}
use Rattle.std.proofs.Common.{true, false, cond, refl, arith, length-append, Option, None, Ok, inl, inr}
use Rattle.std.{specs.Bool.⊤, specs.List.All, proofs.lemmas.Grind.flat_map-append}
use Rattle.std.proofs.lemmas.Bool.{cases_Bool, cond-true, cond-false, and_parts, and_from, cases_eq, eq-eqb, ne_eqb}
use Rattle.std.proofs.lemmas.Bool.{ltb-true, lt-ltb}
use Rattle.std.proofs.lemmas.List.{append-nil, append_assoc, Elements.All-push, Elements.All-head, Elements.All-tail}
use Rattle.hlc_node.specs.declared.item.Item.{Item as AnItem}
use Rattle.hlc_wire.proofs.FieldLemmas.{IsBytes}
use Rattle.hlc_core.specs.Past.{Step, Started, Began, Took, Opened, Closed, Vacuumed, PartVacuumed, Joined, numbered}
use Rattle.hlc_core.specs.Past.{count, item_refusal, IsLegal}
use Rattle.hlc_core.specs.{Replicas.begun, StoreView.StoreView, StoreView.Represents}
use Rattle.hlc_core.proofs.PastLemmas.{IsAdmissible, admissible, inside, on_link}
use Rattle.hlc_core.proofs.StayLemmas.{legal-before, nothing-before}
use Rattle.hlc_log.specs.declared.record.Record.{Record, TheVariants.Item, TheVariants.Join, TheVariants.Threshold}
use Rattle.hlc_log.specs.declared.apply.{RecordFault.RecordFault, Applied.Applied}
use Rattle.hlc_log.specs.Record.{record_bytes, record_at, RecordFits}
use Rattle.hlc_log.specs.Log.{came_before, step_of, with_record, with_records, log_bytes, greatest_threshold, IsLogEnd}
use Rattle.hlc_log.specs.Log.{AreApplied}
use Rattle.hlc_log.proofs.RecordLemmas.{record_reader}

-- the record at the front has an encoding, and its bytes are the first
pub front_is : (bytes : List ℕ) (entry : Record) (rest : List ℕ) → IsBytes bytes → record_at bytes ≡ Ok (entry, rest)
    → RecordFits entry × (bytes ≡ record_bytes entry ++ rest)
front_is bytes entry rest fits is = let t = record_reader.takes bytes (entry, rest) fits is in (t.1, t.0.parts)

pub some_bytes : (entry : Record) → 0 < length (record_bytes entry)
some_bytes (Item item) = omega arith
some_bytes (Join node start) = omega arith
some_bytes (Threshold at) = omega arith

pub front_shortens : (bytes : List ℕ) (entry : Record) (rest : List ℕ) → IsBytes bytes
    → record_at bytes ≡ Ok (entry, rest) → length rest < length bytes
front_shortens bytes entry rest fits is =
    let long : length bytes ≡ length (record_bytes entry) + length rest =
    ap length (front_is bytes entry rest fits is).1 ∙ length-append (record_bytes entry) rest in
    let some : 0 < length (record_bytes entry) = some_bytes entry in
    omega (arith, long, some)

-- ---- one record after another

-- the records before the rest of the bytes were applied
abbrev pub AppliedSoFar : StoreView → List ℕ → List ℕ → List Step → ℕ → ℕ → ℕ → Type 0
AppliedSoFar core bytes rest past least many greatest =
    (records : List Record) × (bytes ≡ log_bytes records ++ rest) × (many ≡ length records)
    × (greatest ≡ greatest_threshold least records) × Represents core (with_records records past)
    × All RecordFits records

pub records-append : (records more : List Record) (past : List Step)
    → with_records (records ++ more) past ≡ with_records more (with_records records past)
records-append [] more past = refl
records-append (entry ∷ records) more past = records-append records more (with_record entry past)

threshold-append : (least : ℕ) (records more : List Record)
    → greatest_threshold least (records ++ more) ≡ greatest_threshold (greatest_threshold least records) more
threshold-append least [] more = refl
threshold-append least (Item item ∷ records) more = threshold-append least records more
threshold-append least (Join node start ∷ records) more = threshold-append least records more
threshold-append least (Threshold at ∷ records) more = threshold-append (max least at) records more

log-last : (records : List Record) (entry : Record)
    → log_bytes (records ++ entry ∷ []) ≡ log_bytes records ++ record_bytes entry
log-last records entry =
    flat_map-append record_bytes records (entry ∷ [])
    ∙ ap (λ xs. log_bytes records ++ xs) (append-nil (record_bytes entry))

-- one more record
pub one_more : (core : StoreView) (bytes rest after : List ℕ) (past : List Step)
    (least many greatest raised : ℕ) (before : StoreView)
    → (so : AppliedSoFar before bytes rest past least many greatest)
    → (entry : Record) × RecordFits entry × (rest ≡ record_bytes entry ++ after)
    × (raised ≡ greatest_threshold greatest (entry ∷ []))
    × Represents core (with_record entry (with_records so.0 past))
    → AppliedSoFar core bytes after past least (many + 1) raised
one_more core bytes rest after past least many greatest raised before so (entry, fits, front, up, h) = (
  so.0 ++ entry ∷ [],
  so.1 ∙ ap (λ (xs : List ℕ). log_bytes so.0 ++ xs) front
      ∙ sym (append_assoc (log_bytes so.0) (record_bytes entry) after)
      ∙ ap (λ (xs : List ℕ). xs ++ after) (sym (log-last so.0 entry)),
  (let n = length-append so.0 (entry ∷ []) in omega (arith, n, so.2)),
  up ∙ ap (λ (g : ℕ). greatest_threshold g (entry ∷ [])) so.3 ∙ sym (threshold-append least so.0 (entry ∷ [])),
  subst (λ (p : List Step). Represents core p) (sym (records-append so.0 (entry ∷ []) past)) h,
  All-push RecordFits so.0 entry so.5 fits,
)

-- ---- read again

-- of steps that are no states each one is none
later-begins : (step : Step) (more : List Step) → begun (step ∷ more) ≡ [] → begun more ≡ []
later-begins (Started nodes) more none = none
later-begins (Began kept) more none = absurd (cc)
later-begins (Took item) more none = none
later-begins (Opened stamp) more none = none
later-begins (Closed id) more none = none
later-begins (Vacuumed at) more none = none
later-begins (PartVacuumed at dropped) more none = none
later-begins (Joined node start) more none = none

-- and no state comes after something
none-begins : (past more : List Step) → (past ≡ [] → ⊥) → IsLegal (more ++ past) → begun more ≡ []
none-begins past [] some legal = refl
none-begins past (Started nodes ∷ more) some legal = none-begins past more some legal.1
none-begins past (Began kept ∷ more) some legal = absurd (some (nothing-before more past legal.0))
none-begins past (Took item ∷ more) some legal = none-begins past more some legal.1
none-begins past (Opened stamp ∷ more) some legal = none-begins past more some legal.1
none-begins past (Closed id ∷ more) some legal = none-begins past more some legal.1
none-begins past (Vacuumed at ∷ more) some legal = none-begins past more some legal.1
none-begins past (PartVacuumed at dropped ∷ more) some legal = none-begins past more some legal.1
none-begins past (Joined node start ∷ more) some legal = none-begins past more some legal.3

numbered-grows : (past : List Step) (step : Step) (more : List Step) → begun (step ∷ more) ≡ []
    → numbered past ≤ numbered (step ∷ past)
numbered-grows past (Started nodes) more none = omega arith
numbered-grows past (Began kept) more none = absurd (cc)
numbered-grows past (Took item) more none = omega arith
numbered-grows past (Opened stamp) more none = omega arith
numbered-grows past (Closed id) more none = omega arith
numbered-grows past (Vacuumed at) more none = omega arith
numbered-grows past (PartVacuumed at dropped) more none = omega arith
numbered-grows past (Joined node start) more none = omega arith

count-grows : (n : ℕ) (past : List Step) (step : Step) (more : List Step) → begun (step ∷ more) ≡ []
    → count n past ≤ count n (step ∷ past)
count-grows n past (Started nodes) more none = omega arith
count-grows n past (Began kept) more none = absurd (cc)
count-grows n past (Took item) more none =
    elim (cases_eq item.node n) [
      | inl same ↦
          let e : count n (Took item ∷ past) ≡ count n past + 1 = cond-true _ _ _ (eq-eqb _ _ same) in
          omega (arith, e)
      | inr other ↦
          let e : count n (Took item ∷ past) ≡ count n past = cond-false _ _ _ (ne_eqb _ _ other) in
          omega (arith, e)
    ]
count-grows n past (Opened stamp) more none = omega arith
count-grows n past (Closed id) more none = omega arith
count-grows n past (Vacuumed at) more none = omega arith
count-grows n past (PartVacuumed at dropped) more none = omega arith
count-grows n past (Joined node start) more none = omega arith

-- a record that came before has still come before after any more steps
came-stays : (past more : List Step) (entry : Record) → begun more ≡ [] → came_before past entry ≡ true
    → came_before (more ++ past) entry ≡ true
came-stays past [] entry none came = came
came-stays past (step ∷ more) (Item item) none came =
    let before = and_parts _ _ (came-stays past more (Item item) (later-begins step more none) came) in
    let low : item.node < numbered (more ++ past) = ltb-true _ _ before.0 in
    let old : item.number < count item.node (more ++ past) = ltb-true _ _ before.1 in
    let wide = numbered-grows (more ++ past) step more none in
    let long = count-grows item.node (more ++ past) step more none in
    let here : item.node < numbered (step ∷ (more ++ past)) = omega (arith, low, wide) in
    let past' : item.number < count item.node (step ∷ (more ++ past)) = omega (arith, old, long) in
    and_from _ _ (lt-ltb _ _ here) (lt-ltb _ _ past')
came-stays past (step ∷ more) (Join node start) none came =
    let low : node < numbered (more ++ past) =
    ltb-true _ _ (came-stays past more (Join node start) (later-begins step more none) came) in
    let wide = numbered-grows (more ++ past) step more none in
    let here : node < numbered (step ∷ (more ++ past)) = omega (arith, low, wide) in
    lt-ltb _ _ here
came-stays past (step ∷ more) (Threshold at) none came = came

-- nothing comes before nothing
came-some : (past : List Step) (entry : Record) → came_before past entry ≡ true → past ≡ [] → ⊥
came-some past (Item item) came e =
    let before = and_parts _ _ (subst (λ (p : List Step). came_before p (Item item) ≡ true) e came) in
    let low : item.node < 0 = ltb-true _ _ before.0 in
    omega arith
came-some past (Join node start) came e =
    let low : node < 0 = ltb-true _ _ (subst (λ (p : List Step). came_before p (Join node start) ≡ true) e came) in
    omega arith
came-some past (Threshold at) came e = cc

-- a record is passed over: it came before, or is no step
abbrev IsPassed : List Step → Record → Type 0
IsPassed past entry = (came_before past entry ≡ true) ⊎ (step_of entry ≡ [])

passed-stays : (past more : List Step) (entry : Record) → begun more ≡ [] → IsPassed past entry
    → IsPassed (more ++ past) entry
passed-stays past more entry steps (inl came) = inl (came-stays past more entry steps came)
passed-stays past more entry steps (inr none) = inr none

passed-legal : (past more : List Step) (entry : Record) → IsLegal (more ++ past) → IsPassed past entry
    → IsPassed (more ++ past) entry
passed-legal past more entry legal (inl came) =
    inl (came-stays past more entry (none-begins past more (came-some past entry came) legal) came)
passed-legal past more entry legal (inr none) = inr none

passed-is : (past : List Step) (entry : Record) → IsPassed past entry
    → with_record entry past ≡ past
passed-is past entry (inl came) = cond-true _ _ _ came
passed-is past entry (inr none) =
    elim (cases_Bool (came_before past entry)) [
      | inl came ↦ cond-true _ _ _ came
      | inr new ↦ cond-false _ _ _ new ∙ ap (λ steps. steps ++ past) none
    ]

-- an item that was taken came before
took-passed : (past : List Step) (item : AnItem) → item_refusal past item ≡ None
    → came_before (Took item ∷ past) (Item item) ≡ true
took-passed past item none =
    let low : item.node < numbered past = inside past item none in
    let is : IsAdmissible _ (count item.node past) _ item =
    admissible _ _ _ item (sym (on_link past item low) ∙ none) in
    let same : item.number ≡ count item.node past = is.number in
    let up : count item.node (Took item ∷ past) ≡ count item.node past + 1 =
    cond-true _ _ _ (eq-eqb item.node item.node refl) in
    let below : item.number < count item.node (Took item ∷ past) = omega (arith, same, up) in
    and_from _ _ (lt-ltb _ _ low) (lt-ltb _ _ below)

-- a record is passed over right after it was read
after-itself : (past : List Step) (entry : Record) → IsLegal (with_record entry past)
    → IsPassed (with_record entry past) entry
after-itself past (Threshold at) legal = inr refl
after-itself past (Item item) legal =
    elim (cases_Bool (came_before past (Item item))) [
      | inl came ↦
          let same : with_record (Item item) past ≡ past = cond-true _ _ _ came in
          inl (subst (λ (p : List Step). came_before p (Item item) ≡ true) (sym same) came)
      | inr new ↦
          let taken : with_record (Item item) past ≡ Took item ∷ past = cond-false _ _ _ new in
          let ok : IsLegal (Took item ∷ past) = subst IsLegal taken legal in
          inl (subst (λ (p : List Step). came_before p (Item item) ≡ true) (sym taken)
          (took-passed past item ok.0))
    ]
after-itself past (Join node start) legal =
    elim (cases_Bool (came_before past (Join node start))) [
      | inl came ↦
          let same : with_record (Join node start) past ≡ past = cond-true _ _ _ came in
          inl (subst (λ (p : List Step). came_before p (Join node start) ≡ true) (sym same) came)
      | inr new ↦
          let joined : with_record (Join node start) past ≡ Joined node start ∷ past = cond-false _ _ _ new in
          let ok : IsLegal (Joined node start ∷ past) = subst IsLegal joined legal in
          let is : node ≡ numbered past = ok.1 in
          let below : node < numbered (Joined node start ∷ past) = omega (arith, is) in
          inl (subst (λ (p : List Step). came_before p (Join node start) ≡ true) (sym joined) (lt-ltb _ _ below))
    ]

-- records put their steps before the past
pub steps-of : (records : List Record) (past : List Step)
    → (more : List Step) × (with_records records past ≡ more ++ past)
steps-of [] past = ([], refl)
steps-of (entry ∷ records) past =
    let later = steps-of records (with_record entry past) in
    elim (cases_Bool (came_before past entry)) [
      | inl came ↦ (later.0, later.1 ∙ ap (λ p. later.0 ++ p) (cond-true _ _ _ came))
      | inr new ↦ (
        later.0 ++ step_of entry,
        later.1 ∙ ap (λ p. later.0 ++ p) (cond-false _ _ _ new) ∙ sym (append_assoc later.0 (step_of entry) past),
      )
    ]

abbrev ArePassed : List Step → List Record → Type 0
ArePassed past [] = ⊤
ArePassed past (entry ∷ records) = IsPassed past entry × ArePassed past records

-- each record that was read is passed over
all-passed : (records : List Record) (past : List Step) → IsLegal (with_records records past)
    → ArePassed (with_records records past) records
all-passed [] past legal = tt
all-passed (entry ∷ records) past legal =
    let here : List Step = with_record entry past in
    let later = steps-of records here in
    let on : IsLegal (later.0 ++ here) = subst IsLegal later.1 legal in
    let ok : IsLegal here = legal-before here later.0 on in (
      subst (λ (p : List Step). IsPassed p entry) (sym later.1)
          (passed-legal here later.0 entry on (after-itself past entry ok)),
      all-passed records here legal,
    )

passed-front : (past : List Step) (again left : List Record) → ArePassed past (again ++ left) → ArePassed past again
passed-front past [] left passed = tt
passed-front past (entry ∷ again) left passed = (passed.0, passed-front past again left passed.1)

passed-all : (past : List Step) (again : List Record) → ArePassed past again → with_records again past ≡ past
passed-all past [] passed = refl
passed-all past (entry ∷ again) passed =
    ap (with_records again) (passed-is past entry passed.0) ∙ passed-all past again passed.1

-- what was read changes nothing when a part of it is read again
pub read-part : (past : List Step) (before again left : List Record)
    → IsLegal (with_records (before ++ (again ++ left)) past)
    → with_records again (with_records (before ++ (again ++ left)) past) ≡ with_records (before ++ (again ++ left)) past
read-part past before again left legal =
    let all : List Record = again ++ left in
    let here : List Step = with_records before past in
    let e = records-append before all past in
    passed-all (with_records (before ++ all) past) again
    (subst (λ (p : List Step). ArePassed p again) (sym e)
    (passed-front (with_records all here) again left (all-passed all here (subst IsLegal e legal))))

-- and what follows is read then
pub read-again : (past : List Step) (before again rest : List Record)
    → IsLegal (with_records (before ++ again) past)
    → with_records (again ++ rest) (with_records (before ++ again) past)
    ≡ with_records rest (with_records (before ++ again) past)
read-again past before again rest legal =
    let same = λ (read : List Record). with_records again (with_records (before ++ read) past)
    ≡ with_records (before ++ read) past in
    records-append again rest (with_records (before ++ again) past)
    ∙ ap (with_records rest) (subst (λ (r : List Record). IsLegal (with_records (before ++ r) past) → same r)
    (append-nil again) (read-part past before again []) legal)

-- a record that was read once is passed over, whatever took place since, but for a state
pub once-passed : (past more : List Step) (entry : Record) → IsLegal (with_record entry past) → begun more ≡ []
    → with_record entry (more ++ with_record entry past) ≡ more ++ with_record entry past
once-passed past more entry legal none =
    passed-is (more ++ with_record entry past) entry
    (passed-stays (with_record entry past) more entry none (after-itself past entry legal))

-- and no state takes place in a legal past
pub legally-passed : (past more : List Step) (entry : Record) → IsLegal (more ++ with_record entry past)
    → with_record entry (more ++ with_record entry past) ≡ more ++ with_record entry past
legally-passed past more entry legal =
    passed-is (more ++ with_record entry past) entry
    (passed-legal (with_record entry past) more entry legal
    (after-itself past entry (legal-before (with_record entry past) more legal)))

-- records that are passed over change nothing
pub over-all : (past : List Step) (again rest : List Record) → All (λ entry. with_record entry past ≡ past) again
    → with_records (again ++ rest) past ≡ with_records rest past
over-all past [] rest all = refl
over-all past (entry ∷ again) rest all =
    ap (λ (p : List Step). with_records (again ++ rest) p)
    (All-head (λ (e : Record). with_record e past ≡ past) entry again all)
    ∙ over-all past again rest (All-tail (λ (e : Record). with_record e past ≡ past) entry again all)

-- ---- a whole log

no-rest : (rest : List ℕ) (past : List Step) → IsLogEnd rest past None → rest ≡ []
no-rest [] past end = refl
no-rest (byte ∷ rest) past end = absurd end

-- where nothing stopped, all of the bytes were applied
pub whole-log : (new : StoreView) (bytes : List ℕ) (past : List Step) (least : ℕ) (applied : Applied)
    → AreApplied new bytes past least applied → applied.end ≡ None
    → (records : List Record) × (bytes ≡ log_bytes records) × Represents new (with_records records past)
whole-log new bytes past least applied is none =
    let past' : List Step = with_records is.records past in
    let none_left : is.rest ≡ [] =
    no-rest is.rest past' (subst (λ (e : Option RecordFault). IsLogEnd is.rest past' e) none is.end) in (
      is.records,
      is.bytes_are ∙ ap (λ (xs : List ℕ). log_bytes is.records ++ xs) none_left ∙ append-nil (log_bytes is.records),
      is.represents,
    )
