-- A key's rows are all in its store, so its newest row there is the newest of all; and at or below a cut all issued
-- rows were accepted.
use Rattle.std.proofs.Common.{◌≡◌, ℕ, ◌≤◌, ◌⊎◌, List, [], ◌∷◌, Some, None, refl, ap, sym, ◌∙◌, subst, inl, inr, arith}
use Rattle.std.specs.Prelude.{Contains, All}
use Rattle.std.proofs.lemmas.{Bool.cases_eq, List.Elements.Contains-append_left, List.Elements.Contains-append_right}
use Rattle.std.proofs.lemmas.{List.Elements.Contains-append_cases, List.Elements.All-head, List.Elements.All-tail}
use Rattle.hlc_values.proofs.MemberLemmas.{Contains-none, Contains-first, Contains-rest, Contains-cons_cases}
use Rattle.hlc_rows.specs.declared.{row.Row.Row, write.Write.Write as AWrite}
use Rattle.hlc_rows.specs.{Writes.row_written, Writes.rows_written, Rows.newest, Rows.answer, Rows.IsRowSet}
use Rattle.hlc_node.specs.declared.item.{Item.Item, Body.Body}
use Rattle.hlc_node.specs.declared.item.Body.TheVariants.{Write, Batch, Report, Retire}
use Rattle.hlc_rows.proofs.NewestLemmas.{newest_is_greatest, no_newest_no_row, newest_is_unique, answer_none}
use Rattle.hlc_rows.proofs.NewestLemmas.{answer_some}
use Rattle.hlc_core.specs.Past.{Step, Took, writes, body_rows, item_rows}
use Rattle.hlc_core.proofs.PastLemmas.{body_rows-are, took-writes, writes-row_set}
use Rattle.hlc_ranges.specs.Run.{Layout, Turn, Issued, Stepped, past_of, issued, IsRouted, IsIssuedStep, IsLegal}
use Rattle.hlc_ranges.specs.Run.{step_rows, begun_writes, issued_since, issued_writes, accepted_writes}
use Rattle.hlc_ranges.specs.Cut.{IsComplete, AreNewestAccepted, AreNewestIssued, IsConsistent}
use Rattle.hlc_ranges.{specs.Change.IsCutOfOthers, proofs.Pasts.of-step, proofs.Pasts.step-writes}
use Rattle.hlc_ranges.proofs.Turns.{past-same, past-other, issued-same, issued-other_node, issued-other, past-legal}
use Rattle.hlc_ranges.proofs.Turns.{can-begin, stepped-none}
use Rattle.hlc_ranges.proofs.Begins.{rows-since, begun-stay, begun-from, begun-inside}
use Rattle.hlc_ranges.proofs.Cuts.{issued-keeps, issued-from, complete, closed}

-- if a row set has some of a key's rows in a list, and those at or below a stamp, it gives the same answer there
pub answer-in_part : (part all : List Row) (key : List ℕ) (at : ℕ) → IsRowSet part
    → ((row : Row) → Contains part row → row.key ≡ key → Contains all row)
    → ((row : Row) → Contains all row → row.key ≡ key → row.stamp ≤ at → Contains part row)
    → answer part key at ≡ answer all key at
answer-in_part part all key at set' within back =
    elim (newest all key at) as (λ o. newest all key at ≡ o → answer part key at ≡ answer all key at) [
      | None ↦ λ e.
          elim (newest part key at) as (λ o. newest part key at ≡ o → answer part key at ≡ answer all key at) [
            | None ↦ λ f. answer_none part key at f ∙ sym (answer_none all key at e)
            | Some row ↦ λ f.
                let is = newest_is_greatest part key at row f in
                absurd (no_newest_no_row all key at row e (within row is.member is.of_key) is.of_key is.in_bound)
          ] refl
      | Some row ↦ λ e.
          let is = newest_is_greatest all key at row e in
          answer_some part key at row
          (newest_is_unique part key at row set' (record {
            member = back row is.member is.of_key is.in_bound;
            of_key = is.of_key;
            in_bound = is.in_bound;
            greatest = λ other m k low. is.greatest other (within other m k) k low;
          }))
          ∙ sym (answer_some all key at row e)
    ] refl

-- a row of a batch has a key of its store
rows-routed : (layout : Layout) (s node stamp : ℕ) (writes : List AWrite) (row : Row)
    → All (λ write. layout.store_of write.key ≡ s) writes → Contains (rows_written node stamp writes) row
    → layout.store_of row.key ≡ s
rows-routed layout s node stamp [] row routed m = absurd (Contains-none row m)
rows-routed layout s node stamp (write ∷ writes) row routed m =
    elim (Contains-cons_cases (row_written node stamp write) row (rows_written node stamp writes) m) [
      | inl same ↦ sym (ap (λ (r : Row). layout.store_of r.key) same)
          ∙ All-head (λ write. layout.store_of write.key ≡ s) write writes routed
      | inr rest ↦ rows-routed layout s node stamp writes row
          (All-tail (λ write. layout.store_of write.key ≡ s) write writes routed) rest
    ]

-- a row of an item has a key of its store
row-routed : (layout : Layout) (s node stamp : ℕ) (body : Body) (row : Row) → IsRouted layout s body
    → Contains (body_rows node stamp body) row → layout.store_of row.key ≡ s
row-routed layout s node stamp Report row routed m = absurd (Contains-none row m)
row-routed layout s node stamp Retire row routed m = absurd (Contains-none row m)
row-routed layout s node stamp (Batch writes) row routed m = rows-routed layout s node stamp writes row routed m
row-routed layout s node stamp (Write key value) row routed m =
    elim (Contains-cons_cases (record { key = key; stamp = stamp; node = node; value = value }) row [] m) [
      | inl same ↦ sym (ap (λ (r : Row). layout.store_of r.key) same) ∙ routed
      | inr rest ↦ absurd (Contains-none row rest)
    ]

-- an accepted item was issued for its store
pub accepted-issued : (layout : Layout) (run : List Turn) (s : ℕ) (item : Item) → IsLegal layout run
    → Contains (past_of layout s run) (Took item) → Contains (issued s item.node run) item
accepted-issued layout [] s item legal m = absurd (legal.untaken s item m)
accepted-issued layout (Issued t x ∷ run) s item legal m =
    issued-keeps (Issued t x) run s item.node item (accepted-issued layout run s item legal.1 m)
accepted-issued layout (Stepped t step ∷ run) s item legal m =
    elim (cases_eq t s) [
      | inr other ↦ accepted-issued layout run s item legal.1
          (subst (λ p. Contains p (Took item)) (past-other layout s t step run other) m)
      | inl same ↦
          elim (Contains-cons_cases step (Took item) (past_of layout s run)
          (subst (λ p. Contains p (Took item)) (past-same layout s t step run same) m)) [
            | inr old ↦ accepted-issued layout run s item legal.1 old
            | inl is ↦ subst (λ k. Contains (issued k item.node run) item) same
                (subst (λ x. IsIssuedStep t x run) is legal.0.2)
          ]
    ]
accepted-issued layout (turn ∷ run) s item legal m = accepted-issued layout run s item legal.1 m

-- an item of a link after one more was issued is that one or an old one
issued-cases : (t : ℕ) (x : Item) (run : List Turn) (s n : ℕ) (item : Item)
    → Contains (issued s n (Issued t x ∷ run)) item → (x ≡ item) ⊎ Contains (issued s n run) item
issued-cases t x run s n item m =
    elim (cases_eq t s) [
      | inr other ↦ inr (subst (λ xs. Contains xs item) (issued-other s t n x run other) m)
      | inl same ↦
          elim (cases_eq x.node n) [
            | inr other ↦ inr (subst (λ xs. Contains xs item) (issued-other_node s t n x run same other) m)
            | inl own ↦ Contains-cons_cases x item (issued s n run)
                (subst (λ xs. Contains xs item) (issued-same s t n x run same own) m)
          ]
    ]

-- the rows of issued items are those that were issued
pub issued_since-have : (run : List Turn) (s n : ℕ) (item : Item) (row : Row) → Contains (issued s n run) item
    → Contains (item_rows item) row → Contains (issued_since run) row
issued_since-have [] s n item row m r = absurd (Contains-none item m)
issued_since-have (Issued t x ∷ run) s n item row m r =
    elim (issued-cases t x run s n item m) [
      | inl is ↦ Contains-append_right (issued_since run) (item_rows x) row
          (subst (λ y. Contains (item_rows y) row) (sym is) r)
      | inr old ↦ Contains-append_left (issued_since run) (item_rows x) row (issued_since-have run s n item row old r)
    ]
issued_since-have (turn ∷ run) s n item row m r = issued_since-have run s n item row m r

-- and each of these is the row of an issued item
pub record IsOfLink (run : List Turn) (row : Row) : Type 0 where
  pub store : ℕ
  pub item : Item
  pub issued : Contains (issued store item.node run) item
  pub of : Contains (item_rows item) row

of_link-keeps : (turn : Turn) (run : List Turn) (row : Row) → IsOfLink run row → IsOfLink (turn ∷ run) row
of_link-keeps turn run row h = record {
  store = h.store;
  item = h.item;
  issued = issued-keeps turn run h.store h.item.node h.item h.issued;
  of = h.of;
}

pub issued_since-from : (run : List Turn) (row : Row) → Contains (issued_since run) row → IsOfLink run row
issued_since-from [] row m = absurd (Contains-none row m)
issued_since-from (Issued t x ∷ run) row m =
    elim (Contains-append_cases (issued_since run) (item_rows x) row m) [
      | inl old ↦ of_link-keeps (Issued t x) run row (issued_since-from run row old)
      | inr fresh ↦ record {
        store = t;
        item = x;
        issued = subst (λ xs. Contains xs x) (sym (issued-same t t x.node x run refl refl))
            (Contains-first x (issued t x.node run));
        of = fresh;
      }
    ]
issued_since-from (turn ∷ run) row m = of_link-keeps turn run row (issued_since-from run row m)

-- a row that a store began with, of a key, is in the key's store
pub begun-here : (layout : Layout) (run : List Turn) (row : Row) (key : List ℕ) → IsLegal layout run → row.key ≡ key
    → Contains (begun_writes layout layout.stores) row
    → Contains (writes (past_of layout (layout.store_of key) run)) row
begun-here layout run row key legal of_key m =
    let can = can-begin layout run legal in
    let h = begun-from layout layout.stores row m in
    let at : h.store ≡ layout.store_of key =
    sym (can.routed h.store row h.row_of) ∙ ap (λ k. layout.store_of k) of_key in
    subst (λ k. Contains (writes (past_of layout k run)) row) at (begun-stay layout run h.store row h.row_of)

-- the rows of a key that were issued are in the key's store, if their items were accepted
pub issued-here : (layout : Layout) (run : List Turn) (row : Row) (key : List ℕ) → IsLegal layout run → row.key ≡ key
    → Contains (issued_since run) row
    → ((n : ℕ) (item : Item) → Contains (issued (layout.store_of key) n run) item → item.stamp ≡ row.stamp
    → Contains (past_of layout (layout.store_of key) run) (Took item))
    → (item : Item) × Contains (past_of layout (layout.store_of key) run) (Took item)
    × (item.stamp ≡ row.stamp) × Contains (writes (past_of layout (layout.store_of key) run)) row
issued-here layout run row key legal of_key m accept =
    let s : ℕ = layout.store_of key in
    let w = issued_since-from run row m in
    let from = issued-from layout run w.store w.item.node w.item legal w.issued in
    let at : w.store ≡ s =
    sym (row-routed layout w.store w.item.node w.item.stamp w.item.body row from.routed w.of)
    ∙ ap (λ k. layout.store_of k) of_key in
    let same : w.item.stamp ≡ row.stamp = sym (body_rows-are w.item.node w.item.stamp w.item.body row w.of).1 in
    let accepted = accept w.item.node w.item
    (subst (λ k. Contains (issued k w.item.node run) w.item) at w.issued) same in
    (w.item, accepted, same, took-writes (past_of layout s run) w.item row accepted w.of)

-- a row that the key's store began with or accepted was there before, or issued
pub rows-from : (layout : Layout) (run : List Turn) (s : ℕ) (row : Row) → IsLegal layout run
    → Contains (writes (past_of layout s run)) row
    → Contains (writes (layout.begun s)) row ⊎ Contains (issued_since run) row
rows-from layout run s row legal m =
    elim (rows-since layout run s row legal m) [
      | inl began ↦ inl began
      | inr w ↦ inr (issued_since-have run s w.item.node w.item row
          (accepted-issued layout run s w.item legal w.accepted) w.of)
    ]

-- a row of a key that was issued at or below a cut is in the key's store
pub newest-issued : (layout : Layout) (run : List Turn) (stamp : ℕ) → IsLegal layout run → IsComplete layout run stamp
    → AreNewestIssued layout run stamp
newest-issued layout run stamp legal all = λ key at low.
    let s : ℕ = layout.store_of key in
    let begun : List Row = begun_writes layout layout.stores in
    answer-in_part (writes (past_of layout s run)) (issued_writes layout run) key at
    (writes-row_set (past_of layout s run) (past-legal layout run s legal))
    (λ row m of_key.
    elim (rows-from layout run s row legal m) [
      | inl began ↦ Contains-append_left begun (issued_since run) row
          (begun-inside layout s row (can-begin layout run legal) began)
      | inr fresh ↦ Contains-append_right begun (issued_since run) row fresh
    ])
    (λ row m of_key below.
    elim (Contains-append_cases begun (issued_since run) row m) [
      | inl began ↦ begun-here layout run row key legal of_key began
      | inr fresh ↦
          (issued-here layout run row key legal of_key fresh
          (λ n item i same. all s n item i (omega (arith, same, below, low)))).3
    ])

-- an accepted item stays one
pub past-keeps : (layout : Layout) (t : ℕ) (step : Step) (run : List Turn) (s : ℕ) (item : Item)
    → Contains (past_of layout s run) (Took item)
    → Contains (past_of layout s (Stepped t step ∷ run)) (Took item)
past-keeps layout t step run s item m =
    elim (cases_eq t s) [
      | inr other ↦ subst (λ p. Contains p (Took item)) (sym (past-other layout s t step run other)) m
      | inl same ↦ subst (λ p. Contains p (Took item)) (sym (past-same layout s t step run same))
          (Contains-rest step (Took item) (past_of layout s run) m)
    ]

-- the writes of a store are among the accepted ones
accepted_writes-have : (layout : Layout) (run : List Turn) (s : ℕ) (row : Row) → IsLegal layout run
    → Contains (writes (past_of layout s run)) row → Contains (accepted_writes layout run) row
accepted_writes-have layout [] s row legal m = begun-inside layout s row legal m
accepted_writes-have layout (Stepped t step ∷ run) s row legal m =
    elim (cases_eq t s) [
      | inr other ↦ Contains-append_left (accepted_writes layout run) (step_rows step) row
          (accepted_writes-have layout run s row legal.1
          (subst (λ p. Contains (writes p) row) (past-other layout s t step run other) m))
      | inl same ↦
          elim (step-writes step (past_of layout s run) row (stepped-none layout t step run legal)
          (subst (λ p. Contains (writes p) row) (past-same layout s t step run same) m)) [
            | inl old ↦ Contains-append_left (accepted_writes layout run) (step_rows step) row
                (accepted_writes-have layout run s row legal.1 old)
            | inr fresh ↦ Contains-append_right (accepted_writes layout run) (step_rows step) row fresh
          ]
    ]
accepted_writes-have layout (turn ∷ run) s row legal m = accepted_writes-have layout run s row legal.1 m

-- an accepted write is one that a store began with, or the row of an item that some store accepted
record IsOfStore (layout : Layout) (run : List Turn) (row : Row) : Type 0 where
  pub store : ℕ
  pub item : Item
  pub accepted : Contains (past_of layout store run) (Took item)
  pub of : Contains (item_rows item) row

abbrev IsAcceptedRow : Layout → List Turn → Row → Type 0
IsAcceptedRow layout run row = Contains (begun_writes layout layout.stores) row ⊎ IsOfStore layout run row

of_store-keeps : (layout : Layout) (t : ℕ) (step : Step) (run : List Turn) (row : Row) → IsAcceptedRow layout run row
    → IsAcceptedRow layout (Stepped t step ∷ run) row
of_store-keeps layout t step run row (inl began) = inl began
of_store-keeps layout t step run row (inr h) = inr (record {
  store = h.store;
  item = h.item;
  accepted = past-keeps layout t step run h.store h.item h.accepted;
  of = h.of;
})

of_store-step : (layout : Layout) (t : ℕ) (step : Step) (run : List Turn) (row : Row) → Contains (step_rows step) row
    → IsOfStore layout (Stepped t step ∷ run) row
of_store-step layout t step run row m =
    let w = of-step (past_of layout t run) step row m in record {
      store = t;
      item = w.item;
      accepted = subst (λ p. Contains p (Took w.item)) (sym (past-same layout t t step run refl)) w.accepted;
      of = w.of;
    }

-- what does not change a store keeps it
of_store-same : (layout : Layout) (turn : Turn) (run : List Turn) (row : Row)
    → ((s : ℕ) → past_of layout s run ≡ past_of layout s (turn ∷ run)) → IsAcceptedRow layout run row
    → IsAcceptedRow layout (turn ∷ run) row
of_store-same layout turn run row same (inl began) = inl began
of_store-same layout turn run row same (inr w) = inr (record {
  store = w.store;
  item = w.item;
  accepted = subst (λ p. Contains p (Took w.item)) (same w.store) w.accepted;
  of = w.of;
})

accepted_writes-from : (layout : Layout) (run : List Turn) (row : Row) → Contains (accepted_writes layout run) row
    → IsAcceptedRow layout run row
accepted_writes-from layout [] row m = inl m
accepted_writes-from layout (Stepped t step ∷ run) row m =
    elim (Contains-append_cases (accepted_writes layout run) (step_rows step) row m) [
      | inl old ↦ of_store-keeps layout t step run row (accepted_writes-from layout run row old)
      | inr fresh ↦ inr (of_store-step layout t step run row fresh)
    ]
accepted_writes-from layout (turn ∷ run) row m =
    of_store-same layout turn run row (λ s. refl) (accepted_writes-from layout run row m)

pub newest-accepted : (layout : Layout) (run : List Turn) → IsLegal layout run → AreNewestAccepted layout run
newest-accepted layout run legal = λ key at.
    let s : ℕ = layout.store_of key in
    answer-in_part (writes (past_of layout s run)) (accepted_writes layout run) key at
    (writes-row_set (past_of layout s run) (past-legal layout run s legal))
    (λ row m of_key. accepted_writes-have layout run s row legal m)
    (λ row m of_key below.
    elim (accepted_writes-from layout run row m) [
      | inl began ↦ begun-here layout run row key legal of_key began
      | inr w ↦
          let from = issued-from layout run w.store w.item.node w.item legal
          (accepted-issued layout run w.store w.item legal w.accepted) in
          let at' : w.store ≡ s =
          sym (row-routed layout w.store w.item.node w.item.stamp w.item.body row from.routed w.of)
          ∙ ap (λ k. layout.store_of k) of_key in
          took-writes (past_of layout s run) w.item row
          (subst (λ k. Contains (past_of layout k run) (Took w.item)) at' w.accepted) w.of
    ])

-- the stamp is a cut
pub consistent : (layout : Layout) (run : List Turn) (stamp : ℕ) → IsLegal layout run → IsCutOfOthers layout run stamp
    → IsConsistent layout run stamp
consistent layout run stamp legal cut =
    let all = complete layout run stamp legal cut in record {
      complete = all;
      closed = closed layout run stamp legal all;
      accepted = newest-accepted layout run legal;
      issued = newest-issued layout run stamp legal all;
    }

-- a store has no row of another store's key
pub other-none : (layout : Layout) (run : List Turn) (s : ℕ) (key : List ℕ) (stamp : ℕ) → IsLegal layout run
    → (layout.store_of key ≡ s → ⊥) → answer (writes (past_of layout s run)) key stamp ≡ None
other-none layout run s key stamp legal other =
    elim (newest (writes (past_of layout s run)) key stamp) as
    (λ o. newest (writes (past_of layout s run)) key stamp ≡ o
    → answer (writes (past_of layout s run)) key stamp ≡ None) [
      | None ↦ λ e. answer_none (writes (past_of layout s run)) key stamp e
      | Some row ↦ λ e.
          let is = newest_is_greatest (writes (past_of layout s run)) key stamp row e in
          let here : layout.store_of row.key ≡ s = elim (rows-since layout run s row legal is.member) [
            | inl began ↦ (can-begin layout run legal).routed s row began
            | inr w ↦
                let from = issued-from layout run s w.item.node w.item legal
                (accepted-issued layout run s w.item legal w.accepted) in
                row-routed layout s w.item.node w.item.stamp w.item.body row from.routed w.of
          ] in
          absurd (other (ap (λ k. layout.store_of k) (sym is.of_key) ∙ here))
    ] refl
