-- What never falls while a store goes on, and what is the same if nothing rose: the links, and the open snapshots if
-- none was opened; and then there are no more rows, and as many only if the whole state is the same.
use Rattle.std.proofs.Common.{◌≡◌, ◌≢◌, ℕ, ◌+◌, ◌<◌, ◌≤◌, List, [], ◌∷◌, length, get_or, not, zero, suc, None, refl, ap}
use Rattle.std.proofs.Common.{sym, ◌∙◌, inl, inr, arith, eq-eqb, ne_eqb, ext_get_or}
use Rattle.std.proofs.lemmas.Bool.{cond-true, cond-false, cases_eq}
use Rattle.std.proofs.lemmas.{List.nil_from_length, List.Sums.sum_by-cons, Option.get_or_from_slice_get}
use Rattle.hlc_intake.specs.IntakeView.{IntakeView}
use Rattle.hlc_heads.specs.Heads.{a_link, no_link}
use Rattle.hlc_node.specs.declared.item.Item.{Item}
use Rattle.hlc_snapshot.specs.{declared.snapshot.Snapshot.Snapshot, RegistryView.stamp_in, RegistryView.without}
use Rattle.hlc_snapshot.proofs.RegisterLemmas.{stamp_in-miss}
use Rattle.hlc_vacuum.specs.Representing.{IsWithin}
use Rattle.hlc_vacuum.proofs.WithinLemmas.{within-fewer, within-all}
use Rattle.hlc_core.specs.Past.{Step, Took, Joined, Opened, Closed, Vacuumed, PartVacuumed, count, head, retired}
use Rattle.hlc_core.specs.Past.{numbered, horizon}
use Rattle.hlc_core.specs.StoreView.{StoreView, AreLinks, Represents, with_rows, with_rows_left, without_snapshots}
use Rattle.hlc_core.proofs.PastLemmas.{inside, vacuum-above}
use Rattle.hlc_core.specs.GoneOn.{HasGoneOn, unchanged, accepted, joined, opened, closed, all_closed, vacuumed}
use Rattle.hlc_core.specs.GoneOn.{part_vacuumed, later}
use Rattle.hlc_saved.specs.{Saver.items_in, Saver.mark_of, declared.mark.Mark.Mark}

-- a node's link has the number of its accepted items
links-next : (past : List Step) (links : List IntakeView) → AreLinks past links → (n : ℕ) → n < length links
    → (get_or links n no_link).next ≡ count n past
links-next past links h n lt =
    ap (λ (link : IntakeView). link.next) (get_or_from_slice_get links n _ no_link (h.each n lt))

-- Each link of a longer list has no fewer items: then it has no fewer in all, and more if one has.
items-grow : (links more : List IntakeView) → length links ≤ length more
    → ((n : ℕ) → n < length links → (get_or links n no_link).next ≤ (get_or more n no_link).next)
    → items_in links ≤ items_in more
items-grow [] more long each = omega arith
items-grow (link ∷ links) [] long each = absurd (omega (arith, long))
items-grow (link ∷ links) (other ∷ more) long each =
    let first : link.next ≤ other.next = each 0 (omega arith) in
    let rest : items_in links ≤ items_in more =
    items-grow links more (omega (arith, long)) (λ n lt. each (suc n) (omega (arith, lt))) in
    let a : items_in (link ∷ links) ≡ link.next + items_in links =
    sum_by-cons (λ (link : IntakeView). link.next) link links in
    let b : items_in (other ∷ more) ≡ other.next + items_in more =
    sum_by-cons (λ (link : IntakeView). link.next) other more in
    omega (arith, first, rest, a, b)

items-rise : (links more : List IntakeView) → length links ≤ length more
    → ((n : ℕ) → n < length links → (get_or links n no_link).next ≤ (get_or more n no_link).next)
    → (k : ℕ) → k < length links → (get_or links k no_link).next < (get_or more k no_link).next
    → items_in links < items_in more
items-rise [] more long each k lt rises = absurd (omega (arith, lt))
items-rise (link ∷ links) [] long each k lt rises = absurd (omega (arith, long))
items-rise (link ∷ links) (other ∷ more) long each zero lt rises =
    let first : link.next < other.next = rises in
    let rest : items_in links ≤ items_in more =
    items-grow links more (omega (arith, long)) (λ n lt. each (suc n) (omega (arith, lt))) in
    let a : items_in (link ∷ links) ≡ link.next + items_in links =
    sum_by-cons (λ (link : IntakeView). link.next) link links in
    let b : items_in (other ∷ more) ≡ other.next + items_in more =
    sum_by-cons (λ (link : IntakeView). link.next) other more in
    omega (arith, first, rest, a, b)
items-rise (link ∷ links) (other ∷ more) long each (suc k) lt rises =
    let first : link.next ≤ other.next = each 0 (omega arith) in
    let rest : items_in links < items_in more =
    items-rise links more (omega (arith, long)) (λ n lt. each (suc n) (omega (arith, lt))) k (omega (arith, lt))
    rises in
    let a : items_in (link ∷ links) ≡ link.next + items_in links =
    sum_by-cons (λ (link : IntakeView). link.next) link links in
    let b : items_in (other ∷ more) ≡ other.next + items_in more =
    sum_by-cons (λ (link : IntakeView). link.next) other more in
    omega (arith, first, rest, a, b)

-- one snapshot fewer is open after one is closed
without-hit : (id : ℕ) (x : Snapshot) (xs : List Snapshot) → x.id ≡ id → without id (x ∷ xs) ≡ without id xs
without-hit id x xs e = cond-false _ _ _ (ap not (eq-eqb x.id id e))

without-miss : (id : ℕ) (x : Snapshot) (xs : List Snapshot) → x.id ≢ id → without id (x ∷ xs) ≡ x ∷ without id xs
without-miss id x xs e = cond-true _ _ _ (ap not (ne_eqb x.id id e))

without-most : (id : ℕ) (xs : List Snapshot) → length (without id xs) ≤ length xs
without-most id [] = omega arith
without-most id (x ∷ xs) =
    let rest : length (without id xs) ≤ length xs = without-most id xs in
    elim (cases_eq x.id id) [
      | inl e ↦ let n = ap length (without-hit id x xs e) in omega (arith, rest, n)
      | inr e ↦ let n = ap length (without-miss id x xs e) in omega (arith, rest, n)
    ]

without-fewer : (id : ℕ) (xs : List Snapshot) → stamp_in id xs ≢ None → length (without id xs) < length xs
without-fewer id [] open' = absurd (open' refl)
without-fewer id (x ∷ xs) open' =
    elim (cases_eq x.id id) [
      | inl e ↦
          let n = ap length (without-hit id x xs e) in
          let most = without-most id xs in omega (arith, most, n)
      | inr e ↦
          let n = ap length (without-miss id x xs e) in
          let rest = without-fewer id xs (λ none. open' (stamp_in-miss id x xs e ∙ none)) in omega (arith, rest, n)
    ]

-- there are no more rows, and as many at the same horizon only if the state is the same
record IsFewer (old new : StoreView) : Type 0 where
  rows : length new.rows ≤ length old.rows
  same : length new.rows ≡ length old.rows → new.horizon ≡ old.horizon → new ≡ old

-- what never falls; and what is true if it did not rise
record Grows (old new : StoreView) : Type 0 where
  nodes : length old.links ≤ length new.links
  items : items_in old.links ≤ items_in new.links
  ids : old.last_id ≤ new.last_id
  horizon : old.horizon ≤ new.horizon
  fewer_open : new.last_id ≡ old.last_id → length new.snapshots ≤ length old.snapshots
  rest : length new.links ≡ length old.links → items_in new.links ≡ items_in old.links → new.last_id ≡ old.last_id
      → length new.snapshots ≡ length old.snapshots → IsFewer old new

grows-same : (kept : StoreView) → Grows kept kept
grows-same kept = record {
  nodes = omega arith;
  items = omega arith;
  ids = omega arith;
  horizon = omega arith;
  fewer_open = λ _. omega arith;
  rest = λ _ _ _ _. record { rows = omega arith; same = λ _ _. refl };
}

grows-later : (old mid new : StoreView) → Grows old mid → Grows mid new → Grows old new
grows-later old mid new a b =
    let nodes : length old.links ≤ length new.links = omega (arith, a.nodes, b.nodes) in
    let items : items_in old.links ≤ items_in new.links = omega (arith, a.items, b.items) in
    let ids : old.last_id ≤ new.last_id = omega (arith, a.ids, b.ids) in
    let up : old.horizon ≤ new.horizon = omega (arith, a.horizon, b.horizon) in
    record {
      nodes = nodes;
      items = items;
      ids = ids;
      horizon = up;
      fewer_open = λ e.
          let e1 : mid.last_id ≡ old.last_id = omega (arith, e, a.ids, b.ids) in
          let e2 : new.last_id ≡ mid.last_id = omega (arith, e, a.ids, b.ids) in
          omega (arith, a.fewer_open e1, b.fewer_open e2);
      rest = λ n i l s.
          let l1 : mid.last_id ≡ old.last_id = omega (arith, l, a.ids, b.ids) in
          let l2 : new.last_id ≡ mid.last_id = omega (arith, l, a.ids, b.ids) in
          let first : IsFewer old mid = a.rest (omega (arith, n, a.nodes, b.nodes)) (omega (arith, i, a.items, b.items))
          l1 (omega (arith, s, a.fewer_open l1, b.fewer_open l2)) in
          let second : IsFewer mid new = b.rest (omega (arith, n, a.nodes, b.nodes))
          (omega (arith, i, a.items, b.items)) l2 (omega (arith, s, a.fewer_open l1, b.fewer_open l2)) in
          record {
            rows = omega (arith, first.rows, second.rows);
            same = λ r h.
                second.same (omega (arith, r, first.rows, second.rows)) (omega (arith, h, a.horizon, b.horizon))
                ∙ first.same (omega (arith, r, first.rows, second.rows)) (omega (arith, h, a.horizon, b.horizon));
          };
    }

grows-accepted : (old new : StoreView) (past : List Step) (item : Item) → Represents old past
    → Represents new (Took item ∷ past) → Grows old new
grows-accepted old new past item was is =
    let many : length new.links ≡ length old.links = is.links.many ∙ sym was.links.many in
    let below : item.node < length old.links =
    (let m = was.links.many in let i = inside past item is.legal.0 in omega (arith, m, i)) in
    let each : (n : ℕ) → n < length old.links
    → (get_or old.links n no_link).next ≤ (get_or new.links n no_link).next =
    λ n lt.
    let a = links-next past old.links was.links n lt in
    let b = links-next (Took item ∷ past) new.links is.links n (omega (arith, lt, many)) in
    elim (cases_eq item.node n) [
      | inl e ↦ let t : count n (Took item ∷ past) ≡ count n past + 1 = cond-true _ _ _ (eq-eqb item.node n e) in
          omega (arith, a, b, t)
      | inr e ↦ let t : count n (Took item ∷ past) ≡ count n past = cond-false _ _ _ (ne_eqb item.node n e) in
          omega (arith, a, b, t)
    ] in
    let rises : (get_or old.links item.node no_link).next < (get_or new.links item.node no_link).next =
    let a = links-next past old.links was.links item.node below in
    let b = links-next (Took item ∷ past) new.links is.links item.node (omega (arith, below, many)) in
    let t : count item.node (Took item ∷ past) ≡ count item.node past + 1 =
    cond-true _ _ _ (eq-eqb item.node item.node refl) in omega (arith, a, b, t) in
    let more : items_in old.links < items_in new.links =
    items-rise old.links new.links (omega (arith, many)) each item.node below rises in
    let ids : new.last_id ≡ old.last_id = is.last_id ∙ sym was.last_id in
    let up : new.horizon ≡ old.horizon = is.horizon ∙ sym was.horizon in
    let snapshots = ap length (is.snapshots ∙ sym was.snapshots) in
    record {
      nodes = omega (arith, many);
      items = omega (arith, more);
      ids = omega (arith, ids);
      horizon = omega (arith, up);
      fewer_open = λ _. omega (arith, snapshots);
      rest = λ _ e _ _. absurd (omega (arith, e, more));
    }

grows-joined : (old new : StoreView) (past : List Step) (node start : ℕ) → Represents old past
    → Represents new (Joined node start ∷ past) → Grows old new
grows-joined old new past node start was is =
    let before = was.links.many in
    let after : length new.links ≡ numbered past + 1 = is.links.many in
    let many : length new.links ≡ length old.links + 1 = omega (arith, before, after) in
    let items : items_in old.links ≤ items_in new.links =
    items-grow old.links new.links (omega (arith, many)) (λ n lt.
    let a = links-next past old.links was.links n lt in
    let b : (get_or new.links n no_link).next ≡ count n past =
    links-next (Joined node start ∷ past) new.links is.links n (omega (arith, lt, many)) in omega (arith, a, b)) in
    let ids : new.last_id ≡ old.last_id = is.last_id ∙ sym was.last_id in
    let up : new.horizon ≡ old.horizon = is.horizon ∙ sym was.horizon in
    let snapshots = ap length (is.snapshots ∙ sym was.snapshots) in
    record {
      nodes = omega (arith, many);
      items = items;
      ids = omega (arith, ids);
      horizon = omega (arith, up);
      fewer_open = λ _. omega (arith, snapshots);
      rest = λ e _ _ _. absurd (omega (arith, e, many));
    }

-- the links of one past are one list
links-same : (past after : List Step) (old new : List IntakeView) → AreLinks past old → AreLinks after new
    → numbered after ≡ numbered past
    → ((n : ℕ) → a_link (count n after) (head n after) (retired n after)
    ≡ a_link (count n past) (head n past) (retired n past))
    → new ≡ old
links-same past after old new was is many each =
    let long : length new ≡ length old = is.many ∙ many ∙ sym was.many in
    ext_get_or no_link new old long (λ n lt.
    get_or_from_slice_get new n _ no_link (is.each n lt)
    ∙ each n
    ∙ sym (get_or_from_slice_get old n _ no_link (was.each n (omega (arith, lt, long)))))

grows-opened : (old new : StoreView) (past : List Step) (stamp : ℕ) → Represents old past
    → Represents new (Opened stamp ∷ past) → Grows old new
grows-opened old new past stamp was is =
    let links : new.links ≡ old.links =
    links-same past (Opened stamp ∷ past) old.links new.links was.links is.links refl (λ n. refl) in
    let many = ap length links in
    let items = ap items_in links in
    let ids : new.last_id ≡ old.last_id + 1 = is.last_id ∙ ap (λ n. n + 1) (sym was.last_id) in
    let up : new.horizon ≡ old.horizon = is.horizon ∙ sym was.horizon in
    record {
      nodes = omega (arith, many);
      items = omega (arith, items);
      ids = omega (arith, ids);
      horizon = omega (arith, up);
      fewer_open = λ e. absurd (omega (arith, e, ids));
      rest = λ _ _ e _. absurd (omega (arith, e, ids));
    }

grows-closed : (old new : StoreView) (past : List Step) (id : ℕ) → Represents old past
    → Represents new (Closed id ∷ past) → Grows old new
grows-closed old new past id was is =
    let links : new.links ≡ old.links =
    links-same past (Closed id ∷ past) old.links new.links was.links is.links refl (λ n. refl) in
    let many = ap length links in
    let items = ap items_in links in
    let ids : new.last_id ≡ old.last_id = is.last_id ∙ sym was.last_id in
    let up : new.horizon ≡ old.horizon = is.horizon ∙ sym was.horizon in
    let left : new.snapshots ≡ without id old.snapshots = is.snapshots ∙ ap (without id) (sym was.snapshots) in
    let fewer : length (without id old.snapshots) < length old.snapshots =
    without-fewer id old.snapshots (λ none. is.legal.0 (sym (ap (stamp_in id) was.snapshots) ∙ none)) in
    let count' = ap length left in
    record {
      nodes = omega (arith, many);
      items = omega (arith, items);
      ids = omega (arith, ids);
      horizon = omega (arith, up);
      fewer_open = λ _. omega (arith, fewer, count');
      rest = λ _ _ _ e. absurd (omega (arith, e, fewer, count'));
    }

grows-all_closed : (old : StoreView) → Grows old (without_snapshots old)
grows-all_closed old = record {
  nodes = omega arith;
  items = omega arith;
  ids = omega arith;
  horizon = omega arith;
  fewer_open = λ _. omega arith;
  rest = λ _ _ _ e. record {
    rows = omega arith;
    same = λ _ _.
        let none : old.snapshots ≡ [] = nil_from_length old.snapshots (sym e) in
        ap (λ (open' : List Snapshot). record old { snapshots = open' }) (sym none);
  };
}

-- a step that drops rows alone
grows-dropped : (old new : StoreView) → new ≡ with_rows_left old new.rows new.horizon → old.horizon ≤ new.horizon
    → IsWithin old.rows new.rows → Grows old new
grows-dropped old new is up within =
    let many = ap (λ (kept : StoreView). length kept.links) is in
    let items = ap (λ (kept : StoreView). items_in kept.links) is in
    let ids = ap (λ (kept : StoreView). kept.last_id) is in
    let snapshots = ap (λ (kept : StoreView). length kept.snapshots) is in
    record {
      nodes = omega (arith, many);
      items = omega (arith, items);
      ids = omega (arith, ids);
      horizon = up;
      fewer_open = λ _. omega (arith, snapshots);
      rest = λ _ _ _ _. record {
        rows = within-fewer old.rows new.rows within;
        same = λ r h. is ∙ ap (λ horizon. with_rows_left old new.rows horizon) h
            ∙ ap (λ rows. with_rows old rows) (within-all old.rows new.rows within r);
      };
    }

-- a state of which all but the rows and the horizon are the same
all-but : (old new : StoreView) → new.initial_nodes ≡ old.initial_nodes → new.links ≡ old.links → new.top ≡ old.top
    → new.snapshots ≡ old.snapshots → new.last_id ≡ old.last_id → new ≡ with_rows_left old new.rows new.horizon
all-but old new a b c d e =
    ap (λ x. record new { initial_nodes = x }) a
    ∙ ap (λ x. record new { initial_nodes = old.initial_nodes; links = x }) b
    ∙ ap (λ x. record new { initial_nodes = old.initial_nodes; links = old.links; top = x }) c
    ∙ ap (λ x. record old { snapshots = x; last_id = new.last_id; horizon = new.horizon; rows = new.rows }) d
    ∙ ap (λ x. record old { last_id = x; horizon = new.horizon; rows = new.rows }) e

grows-vacuumed : (old new : StoreView) (past : List Step) (at : ℕ) → Represents old past
    → Represents new (Vacuumed at ∷ past) → IsWithin old.rows new.rows → Grows old new
grows-vacuumed old new past at was is within =
    let up : horizon past ≤ at = vacuum-above past at is.legal.0 in
    grows-dropped old new
    (all-but old new (is.initial_nodes ∙ sym was.initial_nodes)
    (links-same past (Vacuumed at ∷ past) old.links new.links was.links is.links refl (λ n. refl))
    (is.top ∙ sym was.top) (is.snapshots ∙ sym was.snapshots) (is.last_id ∙ sym was.last_id))
    (let a : old.horizon ≡ horizon past = was.horizon in let b : new.horizon ≡ at = is.horizon in
    omega (arith, up, a, b)) within

grows-part_vacuumed : (old new : StoreView) (past : List Step) (at dropped : ℕ) → Represents old past
    → Represents new (PartVacuumed at dropped ∷ past) → IsWithin old.rows new.rows → Grows old new
grows-part_vacuumed old new past at dropped was is within =
    let up : horizon past ≤ at = vacuum-above past at is.legal.0 in
    grows-dropped old new
    (all-but old new (is.initial_nodes ∙ sym was.initial_nodes)
    (links-same past (PartVacuumed at dropped ∷ past) old.links new.links was.links is.links refl (λ n. refl))
    (is.top ∙ sym was.top) (is.snapshots ∙ sym was.snapshots) (is.last_id ∙ sym was.last_id))
    (let a : old.horizon ≡ horizon past = was.horizon in let b : new.horizon ≡ at = is.horizon in
    omega (arith, up, a, b)) within

grows : {old new : StoreView} → HasGoneOn old new → Grows old new
grows (unchanged {kept = kept}) = grows-same kept
grows (accepted {old = old} {new = new} past item was is rows) = grows-accepted old new past item was is
grows (joined {old = old} {new = new} past node start was is rows) = grows-joined old new past node start was is
grows (opened {old = old} {new = new} past stamp was is rows) = grows-opened old new past stamp was is
grows (closed {old = old} {new = new} past id was is rows) = grows-closed old new past id was is
grows (all_closed {old = old}) = grows-all_closed old
grows (vacuumed {old = old} {new = new} past at was is within) = grows-vacuumed old new past at was is within
grows (part_vacuumed {old = old} {new = new} past at dropped was is within) =
    grows-part_vacuumed old new past at dropped was is within
grows (later {old = old} {mid = mid} {new = new} first second) = grows-later old mid new (grows first) (grows second)

-- equal marks mean an equal state
pub marks-tell : (old new : StoreView) → HasGoneOn old new → mark_of new ≡ mark_of old → new ≡ old
marks-tell old new gone e =
    let g : Grows old new = grows gone in
    let fewer : IsFewer old new = g.rest (ap (λ (mark : Mark). mark.nodes) e) (ap (λ (mark : Mark). mark.items) e)
    (ap (λ (mark : Mark). mark.last_id) e) (ap (λ (mark : Mark). mark.snapshots) e) in
    fewer.same (ap (λ (mark : Mark). mark.rows) e) (ap (λ (mark : Mark). mark.horizon) e)
