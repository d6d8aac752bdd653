-- The store of a key answers as all that was issued along the key's stores: what it began with does, where it can be
-- read, and what it accepted since lies above the floor of that.
use Rattle.std.proofs.Common.{◌≡◌, ℕ, ◌+◌, ◌<◌, ◌≤◌, Bool, true, false, cond, List, [], ◌∷◌, ◌++◌, Some, None, Option}
use Rattle.std.proofs.Common.{refl, ap, sym, ◌∙◌, subst, inl, inr, arith, append_assoc, append-nil}
use Rattle.std.specs.Prelude.{Contains, filter, not, ◌==◌, if◌then◌else◌, option_and_then}
use Rattle.std.proofs.lemmas.Bool.{cases_eq, cases_lt}
use Rattle.std.proofs.lemmas.List.{map-append, Elements.Contains-append_left, Elements.Contains-append_right}
use Rattle.std.proofs.lemmas.List.{Elements.Contains-append_cases, Elements.Contains-push_cases}
use Rattle.hlc_values.proofs.MemberLemmas.{Contains-first, Contains-rest, Contains-cons_cases, Contains-filter}
use Rattle.hlc_values.proofs.MemberLemmas.{Contains-from_filter}
use Rattle.hlc_rows.specs.{declared.row.Row.Row, Rows.is_candidate, Rows.later, Rows.newest, Rows.answer}
use Rattle.hlc_rows.proofs.NewestLemmas.{newest_is_greatest, no_newest_no_row, newest_is_unique, no_later_stamp}
use Rattle.hlc_rows.proofs.NewestLemmas.{answer_none, answer_some, answer_stays}
use Rattle.hlc_node.specs.declared.item.Item.{Item}
use Rattle.hlc_snapshot.specs.{declared.snapshot.Snapshot.Snapshot, RegistryView.stamps}
use Rattle.hlc_core.specs.Past.{Step, Began, Took, Opened, Closed, Vacuumed, PartVacuumed, floor, horizon}
use Rattle.hlc_core.specs.Past.{open_snapshots, last_id, writes, item_rows, IsLegal as IsLegalPast}
use Rattle.hlc_core.specs.{Replicas.begun, Parts.rows_of_keys, Checkpoint.floor_in}
use Rattle.hlc_core.proofs.BeganLemmas.{floor-began}
use Rattle.hlc_core.proofs.CheckpointLemmas.{floor-in}
use Rattle.hlc_core.proofs.PartLemmas.{answer-of_keys}
use Rattle.hlc_core.proofs.PastLemmas.{above_floor, horizon-low, open-above, vacuum-above, writes-row_set}
use Rattle.hlc_ranges.specs.{Run.Layout, Run.Turn, Run.Issued, Run.Stepped, Run.past_of, Run.issued, Run.begun_writes}
use Rattle.hlc_ranges.specs.{Run.issued_since, Run.issued_writes, Run.IsLegal, Cut.IsAccepted}
use Rattle.hlc_ranges.specs.Change.{IsReadable, past_with, IsDrained, TakesOver, LeadsTo, went_on, taken_over}
use Rattle.hlc_ranges.proofs.Turns.{past-same, past-other, past-legal, can-begin, stepped-none}
use Rattle.hlc_ranges.proofs.{Begins.begun-stay, Begins.begun-inside, Cuts.complete-in}
use Rattle.hlc_ranges.proofs.NewestWrites.{answer-in_part, begun-here, issued-here, rows-from}
use Rattle.hlc_ranges.proofs.Later.{step-legal, floor-later, reads-below}

-- what a step leaves readable could be read before it
fewer-open : (keep : Snapshot → Bool) (xs : List Snapshot) (at : ℕ) → Contains (stamps (filter keep xs)) at
    → Contains (stamps xs) at
fewer-open keep [] at m = m
fewer-open keep (x ∷ xs) at m =
    elim (keep x) as (λ b. Contains (stamps (cond b (x ∷ filter keep xs) (filter keep xs))) at
    → Contains (stamps (x ∷ xs)) at) [
      | false ↦ λ k. Contains-rest x.stamp at (stamps xs) (fewer-open keep xs at k)
      | true ↦ λ k.
          elim (Contains-cons_cases x.stamp at (stamps (filter keep xs)) k) [
            | inl here ↦ subst (Contains (stamps (x ∷ xs))) here (Contains-first x.stamp (stamps xs))
            | inr rest ↦ Contains-rest x.stamp at (stamps xs) (fewer-open keep xs at rest)
          ]
    ] m

readable-step : (step : Step) (past : List Step) (at : ℕ) → IsLegalPast (step ∷ past) → begun (step ∷ []) ≡ []
    → IsReadable (step ∷ past) at → IsReadable past at
readable-step (Began kept) past at legal none h = absurd (cc)
readable-step (Opened stamp) past at legal none (inl h) = inl h
readable-step (Opened stamp) past at legal none (inr m) =
    let new : Snapshot = record { id = last_id past + 1; stamp = stamp } in
    let m' : Contains (stamps (open_snapshots past) ++ stamp ∷ []) at =
    subst (λ xs. Contains xs at) (map-append (λ (x : Snapshot). x.stamp) (open_snapshots past) (new ∷ [])) m in
    elim (Contains-push_cases (stamps (open_snapshots past)) stamp at m') [
      | inl old ↦ inr old
      | inr here ↦ inl (subst (λ k. horizon past ≤ k) here (open-above past stamp legal.0))
    ]
readable-step (Closed id) past at legal none (inl h) = inl h
readable-step (Closed id) past at legal none (inr m) =
    inr (fewer-open (λ (x : Snapshot). not (x.id == id)) (open_snapshots past) at m)
readable-step (Vacuumed to) past at legal none (inl h) =
    inl (let up : horizon past ≤ to = vacuum-above past to legal.0 in
    let h' : to ≤ at = h in let goal : horizon past ≤ at = omega arith in goal)
readable-step (Vacuumed to) past at legal none (inr m) = inr m
readable-step (PartVacuumed to dropped) past at legal none (inl h) =
    inl (let up : horizon past ≤ to = vacuum-above past to legal.0 in
    let h' : to ≤ at = h in let goal : horizon past ≤ at = omega arith in goal)
readable-step (PartVacuumed to dropped) past at legal none (inr m) = inr m
readable-step step past at legal none h = h

-- so what can be read after a run could be read at its beginning
readable-since : (layout : Layout) (run : List Turn) (s at : ℕ) → IsLegal layout run
    → IsReadable (past_of layout s run) at → IsReadable (layout.begun s) at
readable-since layout [] s at legal h = h
readable-since layout (Stepped t step ∷ run) s at legal h =
    elim (cases_eq t s) [
      | inr other ↦ readable-since layout run s at legal.1
          (subst (λ (p : List Step). IsReadable p at) (past-other layout s t step run other) h)
      | inl same ↦ readable-since layout run s at legal.1
          (readable-step step (past_of layout s run) at (step-legal layout t s step run same legal.0.1)
          (stepped-none layout t step run legal)
          (subst (λ (p : List Step). IsReadable p at) (past-same layout s t step run same) h))
    ]
readable-since layout (turn ∷ run) s at legal h = readable-since layout run s at legal.1 h

-- floors and reads since the beginning
floor-since : (layout : Layout) (run : List Turn) (s : ℕ) → IsLegal layout run
    → floor (layout.begun s) ≤ floor (past_of layout s run)
floor-since layout run s legal =
    subst (λ (r : List Turn). floor (layout.begun s) ≤ floor (past_of layout s r)) (append-nil run)
    (floor-later layout [] run s (subst (IsLegal layout) (sym (append-nil run)) legal))

reads-since : (layout : Layout) (run : List Turn) (at s : ℕ) (key : List ℕ) → IsLegal layout run
    → at ≤ floor (layout.begun s)
    → answer (writes (past_of layout s run)) key at ≡ answer (writes (layout.begun s)) key at
reads-since layout run at s key legal low =
    subst
    (λ (r : List Turn). answer (writes (past_of layout s r)) key at ≡ answer (writes (layout.begun s)) key at)
    (append-nil run) (reads-below layout [] run at s key (subst (IsLegal layout) (sym (append-nil run)) legal) low)

-- an item that was accepted in a run lies above the floor at its beginning
took-above : (layout : Layout) (run : List Turn) (s : ℕ) (item : Item) → IsLegal layout run
    → Contains (past_of layout s run) (Took item) → floor (layout.begun s) < item.stamp
took-above layout [] s item legal m = absurd (legal.untaken s item m)
took-above layout (Stepped t step ∷ run) s item legal m =
    elim (cases_eq t s) [
      | inr other ↦ took-above layout run s item legal.1
          (subst (λ p. Contains p (Took item)) (past-other layout s t step run other) m)
      | inl same ↦
          elim (Contains-cons_cases step (Took item) (past_of layout s run)
          (subst (λ p. Contains p (Took item)) (past-same layout s t step run same) m)) [
            | inr old ↦ took-above layout run s item legal.1 old
            | inl is ↦
                let past : List Step = past_of layout s run in
                let taken : IsLegalPast (Took item ∷ past) =
                subst (λ x. IsLegalPast (x ∷ past)) is (step-legal layout t s step run same legal.0.1) in
                let up : floor past < item.stamp = above_floor past item taken.0 in
                let low : floor (layout.begun s) ≤ floor past = floor-since layout run s legal.1 in omega arith
          ]
    ]
took-above layout (turn ∷ run) s item legal m = took-above layout run s item legal.1 m

-- rows of a list that are no candidates change no newest row of those before them
newest-misses : (rows others : List Row) (key : List ℕ) (at : ℕ)
    → ((row : Row) → Contains others row → row.key ≡ key → row.stamp ≤ at → ⊥)
    → newest (rows ++ others) key at ≡ newest rows key at
unfolding newest
newest-misses [] others key at miss =
    elim (newest others key at) as (λ o. newest others key at ≡ o → o ≡ None) [
      | None ↦ λ e. refl
      | Some row ↦ λ e.
          let is = newest_is_greatest others key at row e in absurd (miss row is.member is.of_key is.in_bound)
    ] refl
newest-misses (first ∷ rows) others key at miss =
    ap (λ o. if is_candidate key at first then Some (later first o) else o) (newest-misses rows others key at miss)

-- A past answers for a key as all rows that were issued for it: they have all of its rows of the key; it has those
-- above its floor; and both answer alike where it can be read.
pub record Keeps (key : List ℕ) (past : List Step) (all : List Row) : Type 0 where
  pub within : (row : Row) → Contains (writes past) row → row.key ≡ key → Contains all row
  pub above : (row : Row) → Contains all row → row.key ≡ key → floor past < row.stamp → Contains (writes past) row
  pub alike : (at : ℕ) → IsReadable past at → answer (writes past) key at ≡ answer all key at

-- all that was issued for the key's store at or below a stamp was accepted
abbrev IsFull : Layout → List Turn → List ℕ → ℕ → Type 0
IsFull layout run key at =
    (n : ℕ) (item : Item) → Contains (issued (layout.store_of key) n run) item → item.stamp ≤ at
    → IsAccepted layout (layout.store_of key) item run

-- a row of the key that was issued in a run is there, and lies above the floor at its beginning
since-there : (layout : Layout) (run : List Turn) (key : List ℕ) (at : ℕ) (row : Row) → IsLegal layout run
    → IsFull layout run key at → Contains (issued_since run) row → row.key ≡ key → row.stamp ≤ at
    → Contains (writes (past_with layout run key)) row × (floor (layout.begun (layout.store_of key)) < row.stamp)
since-there layout run key at row legal full m of_key low =
    let there = issued-here layout run row key legal of_key m
    (λ n item i same. full n item i (omega (arith, same, low))) in
    let up : floor (layout.begun (layout.store_of key)) < there.0.stamp =
    took-above layout run (layout.store_of key) there.0 legal there.1 in
    let same : there.0.stamp ≡ row.stamp = there.2 in (there.3, omega arith)

-- at or below the floor at the beginning
alike-below : (layout : Layout) (run : List Turn) (key : List ℕ) (all : List Row) (at : ℕ) → IsLegal layout run
    → Keeps key (layout.begun (layout.store_of key)) all → IsFull layout run key at
    → IsReadable (layout.begun (layout.store_of key)) at → at ≤ floor (layout.begun (layout.store_of key))
    → answer (writes (past_with layout run key)) key at ≡ answer (all ++ issued_since run) key at
alike-below layout run key all at legal keeps full readable low =
    reads-since layout run at (layout.store_of key) key legal low ∙ keeps.alike at readable
    ∙ sym (ap (λ (o : Option Row). option_and_then (λ (row : Row). row.value) o)
    (newest-misses all (issued_since run) key at (λ row m of_key below.
    let up = (since-there layout run key at row legal full m of_key below).1 in
    let below' : row.stamp ≤ at = below in
    let low' : at ≤ floor (layout.begun (layout.store_of key)) = low in omega (arith, up))))

-- each row of the key is one of the old ones, or was issued
rows-within : (layout : Layout) (run : List Turn) (key : List ℕ) (all : List Row) (row : Row) → IsLegal layout run
    → Keeps key (layout.begun (layout.store_of key)) all → Contains (writes (past_with layout run key)) row
    → row.key ≡ key → Contains (all ++ issued_since run) row
rows-within layout run key all row legal keeps m of_key =
    elim (rows-from layout run (layout.store_of key) row legal m) [
      | inl began ↦ Contains-append_left all (issued_since run) row (keeps.within row began of_key)
      | inr fresh ↦ Contains-append_right all (issued_since run) row fresh
    ]

-- each of them above the floor at the beginning is there
rows-above : (layout : Layout) (run : List Turn) (key : List ℕ) (all : List Row) (at : ℕ) (row : Row)
    → IsLegal layout run → Keeps key (layout.begun (layout.store_of key)) all → IsFull layout run key at
    → Contains (all ++ issued_since run) row → row.key ≡ key → row.stamp ≤ at
    → floor (layout.begun (layout.store_of key)) < row.stamp → Contains (writes (past_with layout run key)) row
rows-above layout run key all at row legal keeps full m of_key low up =
    elim (Contains-append_cases all (issued_since run) row m) [
      | inl old ↦ begun-stay layout run (layout.store_of key) row (keeps.above row old of_key up)
      | inr fresh ↦ (since-there layout run key at row legal full fresh of_key low).0
    ]

-- the answers after a run
answers-on : (layout : Layout) (run : List Turn) (key : List ℕ) (all : List Row) (at : ℕ) → IsLegal layout run
    → Keeps key (layout.begun (layout.store_of key)) all → IsFull layout run key at
    → IsReadable (layout.begun (layout.store_of key)) at
    → answer (writes (past_with layout run key)) key at ≡ answer (all ++ issued_since run) key at
answers-on layout run key all at legal keeps full readable =
    let s : ℕ = layout.store_of key in
    let f : ℕ = floor (layout.begun s) in
    let stored : List Row = writes (past_of layout s run) in
    let every : List Row = all ++ issued_since run in
    elim (cases_lt f at) [
      | inr low ↦ alike-below layout run key all at legal keeps full readable low
      | inl above ↦
          elim (newest every key at) as (λ o. newest every key at ≡ o → answer stored key at ≡ answer every key at) [
            | None ↦ λ e.
                elim (newest stored key at) as
                (λ o. newest stored key at ≡ o → answer stored key at ≡ answer every key at) [
                  | None ↦ λ g. answer_none stored key at g ∙ sym (answer_none every key at e)
                  | Some row ↦ λ g.
                      let is = newest_is_greatest stored key at row g in
                      absurd (no_newest_no_row every key at row e
                      (rows-within layout run key all row legal keeps is.member is.of_key) is.of_key is.in_bound)
                ] refl
            | Some row ↦ λ e.
                let is = newest_is_greatest every key at row e in
                elim (cases_lt f row.stamp) [
                  | inl up ↦
                      answer_some stored key at row
                      (newest_is_unique stored key at row (writes-row_set (past_of layout s run)
                      (past-legal layout run s legal)) (record {
                        member = rows-above layout run key all at row legal keeps full is.member is.of_key is.in_bound
                            up;
                        of_key = is.of_key;
                        in_bound = is.in_bound;
                        greatest = λ other m k low.
                            is.greatest other (rows-within layout run key all other legal keeps m k) k low;
                      }))
                      ∙ sym (answer_some every key at row e)
                  | inr under ↦
                      let low : f ≤ at = omega (arith, above) in
                      answer_stays stored key f at low
                      (λ other m k b. let t = no_later_stamp other row
                      (is.greatest other (rows-within layout run key all other legal keeps m k) k b) in
                      omega (arith, t, under))
                      ∙ alike-below layout run key all f legal keeps
                      (λ n item i b. full n item i (let b' : item.stamp ≤ f = b in omega (arith, low)))
                      (inl (horizon-low (layout.begun s) ((can-begin layout run legal).legal s))) (omega arith)
                      ∙ sym (answer_stays every key f at low
                      (λ other m k b. let t = no_later_stamp other row (is.greatest other m k b) in
                      omega (arith, t, under)))
                ]
          ] refl
    ]

-- what a drained store keeps
keeps-on : (layout : Layout) (run : List Turn) (key : List ℕ) (all : List Row) → IsLegal layout run
    → Keeps key (layout.begun (layout.store_of key)) all → IsDrained layout run (layout.store_of key)
    → Keeps key (past_with layout run key) (all ++ issued_since run)
keeps-on layout run key all legal keeps drained = record {
  within = λ row m of_key. rows-within layout run key all row legal keeps m of_key;
  above = λ row m of_key up. rows-above layout run key all row.stamp row legal keeps
      (λ n item i low. drained n item i) m of_key (omega arith)
      (let low = floor-since layout run (layout.store_of key) legal in omega (arith, low, up));
  alike = λ at readable. answers-on layout run key all at legal keeps (λ n item i low. drained n item i)
      (readable-since layout run (layout.store_of key) at legal readable);
}

-- what the store of a key begins with in a first run
keeps-first : (layout : Layout) (run : List Turn) (key : List ℕ) → IsLegal layout run
    → Keeps key (layout.begun (layout.store_of key)) (begun_writes layout layout.stores)
keeps-first layout run key legal =
    let s : ℕ = layout.store_of key in
    let can = can-begin layout run legal in
    let back : (row : Row) → Contains (begun_writes layout layout.stores) row → row.key ≡ key
    → Contains (writes (layout.begun s)) row =
    λ row m of_key. begun-here layout [] row key can of_key m in
    record {
      within = λ row m of_key. begun-inside layout s row can m;
      above = λ row m of_key up. back row m of_key;
      alike = λ at readable. answer-in_part (writes (layout.begun s)) (begun_writes layout layout.stores) key at
          (writes-row_set (layout.begun s) (can.legal s)) (λ row m of_key. begun-inside layout s row can m)
          (λ row m of_key low. back row m of_key);
    }

-- what can be read in the state of the store that takes over could be read in the other
readable-over : (old : Layout) (run : List Turn) (new : Layout) (s t at : ℕ) (is_of : List ℕ → Bool)
    → (takes : TakesOver old run new s t is_of) → IsReadable (Began takes.state ∷ []) at
    → IsReadable (past_of old s run) at
readable-over old run new s t at is_of takes (inl h) =
    inl (let h' : takes.state.horizon ≤ at = h in
    let e : takes.state.horizon ≡ takes.kept.horizon = takes.horizon in
    let f : takes.kept.horizon ≡ horizon (past_of old s run) = takes.represents.horizon in
    let goal : horizon (past_of old s run) ≤ at = omega arith in goal)
readable-over old run new s t at is_of takes (inr m) =
    inr (subst (λ (xs : List Snapshot). Contains (stamps xs) at) (takes.snapshots ∙ takes.represents.snapshots) m)

-- and it answers alike
alike-over : (old : Layout) (run : List Turn) (new : Layout) (s t at : ℕ) (key : List ℕ) (is_of : List ℕ → Bool)
    → (takes : TakesOver old run new s t is_of) → is_of key ≡ true → IsReadable (past_of old s run) at
    → answer takes.state.rows key at ≡ answer (writes (past_of old s run)) key at
alike-over old run new s t at key is_of takes of readable =
    let same : answer takes.kept.rows key at ≡ answer (writes (past_of old s run)) key at =
    elim readable [
      | inl h ↦ takes.represents.rows.from_horizon key at h
      | inr m ↦ takes.represents.rows.at_open key at m
    ] in
    sym (answer-of_keys is_of takes.state.rows key at of)
    ∙ ap (λ (rows : List Row). answer rows key at) takes.rows
    ∙ answer-of_keys is_of takes.kept.rows key at of ∙ same

-- the floor of the state is not below that of the other store
floor-over : (old : Layout) (run : List Turn) (new : Layout) (s t : ℕ) (is_of : List ℕ → Bool)
    → (takes : TakesOver old run new s t is_of) → floor (past_of old s run) ≤ floor (new.begun t)
floor-over old run new s t is_of takes =
    let a : floor_in takes.kept ≡ floor (past_of old s run) =
    floor-in takes.kept (past_of old s run) takes.represents in
    let b : floor (Began takes.state ∷ []) ≡ floor_in takes.state = floor-began takes.state [] in
    let c : floor (new.begun t) ≡ floor (Began takes.state ∷ []) = ap floor takes.begins in
    let d : floor_in takes.kept ≤ floor_in takes.state = takes.floor in
    let goal : floor (past_of old s run) ≤ floor (new.begun t) = omega arith in goal

-- a store that takes over a key keeps what the other did
keeps-over : (old : Layout) (run : List Turn) (new : Layout) (s t : ℕ) (key : List ℕ) (all : List Row)
    (is_of : List ℕ → Bool) → (takes : TakesOver old run new s t is_of) → is_of key ≡ true
    → Keeps key (past_of old s run) all → Keeps key (new.begun t) all
keeps-over old run new s t key all is_of takes of keeps =
    let past : List Step = past_of old s run in
    let is_in : Row → Bool = λ row. is_of row.key in
    let of_kind : (row : Row) → row.key ≡ key → is_in row ≡ true = λ row of_key. ap is_of of_key ∙ of in
    let begun' : Keeps key (Began takes.state ∷ []) all = record {
      within = λ row m of_key.
          let part : Contains (rows_of_keys is_of takes.kept.rows) row =
          subst (λ (rows : List Row). Contains rows row) takes.rows
          (Contains-filter is_in takes.state.rows row m (of_kind row of_key)) in
          keeps.within row
          (takes.represents.rows.within row (Contains-from_filter is_in takes.kept.rows row part).0) of_key;
      above = λ row m of_key up.
          let a = floor-over old run new s t is_of takes in
          let c : floor (new.begun t) ≡ floor (Began takes.state ∷ []) = ap floor takes.begins in
          let b = horizon-low past takes.represents.legal in
          let there : Contains takes.kept.rows row =
          takes.represents.rows.above row (keeps.above row m of_key (omega (arith, a, c, up)))
          (omega (arith, a, b, c, up)) in
          let part : Contains (rows_of_keys is_of takes.state.rows) row =
          subst (λ (rows : List Row). Contains rows row) (sym takes.rows)
          (Contains-filter is_in takes.kept.rows row there (of_kind row of_key)) in
          (Contains-from_filter is_in takes.state.rows row part).0;
      alike = λ at readable.
          let was = readable-over old run new s t at is_of takes readable in
          alike-over old run new s t at key is_of takes of was ∙ keeps.alike at was;
    } in
    subst (λ (p : List Step). Keeps key p all) (sym takes.begins) begun'

-- the rows of more turns
since-append : (more run : List Turn) → issued_since (more ++ run) ≡ issued_since run ++ issued_since more
since-append [] run = sym (append-nil (issued_since run))
since-append (Issued s item ∷ more) run =
    ap (λ rows. rows ++ item_rows item) (since-append more run)
    ∙ append_assoc (issued_since run) (issued_since more) (item_rows item)
since-append (turn ∷ more) run = since-append more run

-- what a run that was led to began with, of all that was issued along the stores of a key
record Leads (key : List ℕ) (new : Layout) (later : List Turn) (all : List Row) : Type 0 where
  pub legal : IsLegal new later
  pub before : List Row
  pub keeps : Keeps key (new.begun (new.store_of key)) before
  pub are : all ≡ before ++ issued_since later

leads : (key : List ℕ) (old : Layout) (run : List Turn) {new : Layout} {later : List Turn} {rows : List Row}
    → LeadsTo key old run new later rows → Leads key new later (issued_writes old run ++ rows)
leads key old run (went_on more legal) =
    let first : List Row = begun_writes old old.stores in record {
      legal = legal;
      before = first;
      keeps = keeps-first old (more ++ run) key legal;
      are = append_assoc first (issued_since run) (issued_since more)
          ∙ ap (λ rows. first ++ rows) (sym (since-append more run));
    }
leads key old run (taken_over {middle} {new} {before} {later} {rows} is_of lead of takes legal) =
    let h = leads key old run lead in
    let all : List Row = issued_writes old run ++ rows in
    let kept : Keeps key (past_with middle before key) all =
    subst (Keeps key (past_with middle before key)) (sym h.are)
    (keeps-on middle before key h.before h.legal h.keeps takes.drained) in
    record {
      legal = legal;
      before = all;
      keeps = keeps-over middle before new (middle.store_of key) (new.store_of key) key all is_of takes of kept;
      are = sym (append_assoc (issued_writes old run) rows (issued_since later));
    }

-- a read gives the newest of all that was issued
pub newest-led : (key : List ℕ) (old new : Layout) (run later : List Turn) (rows : List Row) (at : ℕ)
    → LeadsTo key old run new later rows → at ≤ floor (past_with new later key)
    → IsReadable (past_with new later key) at
    → answer (writes (past_with new later key)) key at ≡ answer (issued_writes old run ++ rows) key at
newest-led key old new run later rows at lead low readable =
    let h = leads key old run lead in
    answers-on new later key h.before at h.legal h.keeps
    (λ n item i under. complete-in new later (new.store_of key) n item h.legal i (omega (arith, low, under)))
    (readable-since new later (new.store_of key) at h.legal readable)
    ∙ sym (ap (λ all. answer all key at) h.are)

-- no floor falls
floor-on : (key : List ℕ) (old : Layout) (run : List Turn) {new : Layout} {later : List Turn} {rows : List Row}
    → LeadsTo key old run new later rows → floor (past_with old run key) ≤ floor (past_with new later key)
floor-on key old run (went_on more legal) = floor-later old run more (old.store_of key) legal
floor-on key old run (taken_over {middle} {new} {before} {later} is_of lead of takes legal) =
    (let a = floor-on key old run lead in
    let b = floor-over middle before new (middle.store_of key) (new.store_of key) is_of takes in
    let c = floor-since new later (new.store_of key) legal in omega (arith, a, b, c))

pub floor-led : (key : List ℕ) (old new : Layout) (run later : List Turn) (rows : List Row)
    → LeadsTo key old run new later rows → floor (past_with old run key) ≤ floor (past_with new later key)
floor-led key old new run later rows lead = floor-on key old run lead

-- what was read at or below the floor is read again
reads-on : (key : List ℕ) (old : Layout) (run : List Turn) (at : ℕ) {new : Layout} {later : List Turn} {rows : List Row}
    → LeadsTo key old run new later rows → at ≤ floor (past_with old run key)
    → IsReadable (past_with new later key) at
    → answer (writes (past_with new later key)) key at ≡ answer (writes (past_with old run key)) key at
reads-on key old run at (went_on more legal) low readable = reads-below old run more at (old.store_of key) key legal low
reads-on key old run at (taken_over {middle} {new} {before} {later} is_of lead of takes legal) low readable =
    let s : ℕ = middle.store_of key in
    let t : ℕ = new.store_of key in
    let began : IsReadable (Began takes.state ∷ []) at = subst (λ (p : List Step). IsReadable p at) takes.begins
    (readable-since new later t at legal readable) in
    let was = readable-over middle before new s t at is_of takes began in
    let a = floor-on key old run lead in
    let b = floor-over middle before new s t is_of takes in
    reads-since new later at t key legal (omega (arith, a, b, low))
    ∙ ap (λ (p : List Step). answer (writes p) key at) takes.begins
    ∙ alike-over middle before new s t at key is_of takes of was
    ∙ reads-on key old run at lead low was

pub reads-led : (key : List ℕ) (old new : Layout) (run later : List Turn) (rows : List Row) (at : ℕ)
    → LeadsTo key old run new later rows → at ≤ floor (past_with old run key)
    → IsReadable (past_with new later key) at
    → answer (writes (past_with new later key)) key at ≡ answer (writes (past_with old run key)) key at
reads-led key old new run later rows at lead low readable = reads-on key old run at lead low readable
