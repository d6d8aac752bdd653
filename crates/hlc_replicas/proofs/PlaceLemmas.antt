-- What refuses an item or a join depends on the log alone, so a store that is behind can take what it lacks.
use Rattle.std.proofs.Common.{◌≡◌, ℕ, ◌+◌, ◌<◌, ◌≤◌, List, [], ◌∷◌, ◌++◌, max, refl, ap, sym, ◌∙◌, subst, arith, Bool}
use Rattle.std.specs.Prelude.{◌==◌, if◌then◌else◌}
use Rattle.hlc_node.specs.{declared.item.Item.Item, Items.retires}
use Rattle.hlc_heads.proofs.LowLemmas.{low-same}
use Rattle.hlc_core.specs.Past.{Step, Started, Began, Took, Opened, Closed, Vacuumed, PartVacuumed, Joined}
use Rattle.hlc_core.specs.Past.{initial_nodes, numbered, count, head, retired, top, floor, item_refusal, IsLegal}
use Rattle.hlc_core.specs.Replicas.{items_of, joins_of, begun, AreReplicas, CanMeet}
use Rattle.hlc_replicas.specs.Places.{log_of}

-- Two pasts have the same start, joins, number of node numbers and greatest head, and of each node the same items,
-- their number, its head, and whether it retired.
abbrev pub HaveOneLog : List Step → List Step → Type 0
HaveOneLog past other =
    (begun past ≡ begun other) × (initial_nodes past ≡ initial_nodes other) × (joins_of past ≡ joins_of other)
    × (numbered past ≡ numbered other) × (top past ≡ top other)
    × ((n : ℕ) → (items_of n past ≡ items_of n other) × (count n past ≡ count n other)
    × (head n past ≡ head n other) × (retired n past ≡ retired n other))

-- a past and its log do
pub log-same : (past : List Step) → HaveOneLog (log_of past) past
log-same [] = (refl, refl, refl, refl, refl, λ n. (refl, refl, refl, refl))
log-same (Started nodes ∷ past) =
    let so = log-same past in (so.0, refl, so.2, ap (λ k. k + nodes) so.3, so.4, so.5)
log-same (Began kept ∷ past) =
    let so = log-same past in
    (ap (λ ks. kept ∷ ks) so.0, refl, so.2, refl, refl, λ n. ((so.5 n).0, refl, refl, refl))
log-same (Took item ∷ past) =
    let so = log-same past in (
      so.0,
      so.1,
      so.2,
      so.3,
      ap (λ k. max k item.stamp) so.4,
      λ n. (
        ap (λ (is : List Item). if item.node == n then item ∷ is else is) (so.5 n).0,
        ap (λ k. if item.node == n then k + 1 else k) (so.5 n).1,
        ap (λ k. if item.node == n then item.stamp else k) (so.5 n).2,
        ap (λ (b : Bool). if item.node == n then retires item.body else b) (so.5 n).3,
      ),
    )
log-same (Opened stamp ∷ past) = log-same past
log-same (Closed id ∷ past) = log-same past
log-same (Vacuumed at ∷ past) = log-same past
log-same (PartVacuumed at dropped ∷ past) = log-same past
log-same (Joined node start ∷ past) =
    let so = log-same past in (
      so.0,
      so.1,
      ap (λ (js : List (ℕ × ℕ)). (node, start) ∷ js) so.2,
      ap (λ k. k + 1) so.3,
      ap (λ k. max k start) so.4,
      λ n. let at = so.5 n in (at.0, at.1, ap (λ k. if node == n then start else k) at.2, at.3),
    )

-- pasts with one log are alike in all that an item or a join is refused by
one-log : (past other : List Step) → log_of past ≡ log_of other → HaveOneLog past other
one-log past other e =
    let a = log-same past in
    let b = log-same other in (
      sym a.0 ∙ ap begun e ∙ b.0,
      sym a.1 ∙ ap initial_nodes e ∙ b.1,
      sym a.2 ∙ ap joins_of e ∙ b.2,
      sym a.3 ∙ ap numbered e ∙ b.3,
      sym a.4 ∙ ap top e ∙ b.4,
      λ n. (
        sym (a.5 n).0 ∙ ap (items_of n) e ∙ (b.5 n).0,
        sym (a.5 n).1 ∙ ap (count n) e ∙ (b.5 n).1,
        sym (a.5 n).2 ∙ ap (head n) e ∙ (b.5 n).2,
        sym (a.5 n).3 ∙ ap (retired n) e ∙ (b.5 n).3,
      ),
    )

items-alike : (past other : List Step) (item : Item) → HaveOneLog past other
    → item_refusal past item ≡ item_refusal other item
items-alike past other item are = let at = are.5 item.node in rw (are.3, at.3, at.1, at.2) refl

floor-alike : (past other : List Step) → HaveOneLog past other → floor past ≡ floor other
floor-alike past other are =
    low-same (λ k. head k past) (λ k. head k other) (λ k. retired k past) (λ k. retired k other) (numbered past)
    (numbered other) (top past) (top other) are.3 are.4 (λ k within. ((are.5 k).2, (are.5 k).3))

pub log-append : (more past : List Step) → log_of (more ++ past) ≡ log_of more ++ log_of past
log-append [] past = refl
log-append (Started nodes ∷ more) past = ap (λ (p : List Step). Started nodes ∷ p) (log-append more past)
log-append (Began kept ∷ more) past = ap (λ (p : List Step). Began kept ∷ p) (log-append more past)
log-append (Took item ∷ more) past = ap (λ (p : List Step). Took item ∷ p) (log-append more past)
log-append (Opened stamp ∷ more) past = log-append more past
log-append (Closed id ∷ more) past = log-append more past
log-append (Vacuumed at ∷ more) past = log-append more past
log-append (PartVacuumed at dropped ∷ more) past = log-append more past
log-append (Joined node start ∷ more) past = ap (λ (p : List Step). Joined node start ∷ p) (log-append more past)

twice : (past : List Step) → log_of (log_of past) ≡ log_of past
twice [] = refl
twice (Started nodes ∷ past) = ap (λ (p : List Step). Started nodes ∷ p) (twice past)
twice (Began kept ∷ past) = ap (λ (p : List Step). Began kept ∷ p) (twice past)
twice (Took item ∷ past) = ap (λ (p : List Step). Took item ∷ p) (twice past)
twice (Opened stamp ∷ past) = twice past
twice (Closed id ∷ past) = twice past
twice (Vacuumed at ∷ past) = twice past
twice (PartVacuumed at dropped ∷ past) = twice past
twice (Joined node start ∷ past) = ap (λ (p : List Step). Joined node start ∷ p) (twice past)

pub legal-log : (past : List Step) → IsLegal past → IsLegal (log_of past)
legal-log [] legal = legal
legal-log (Started nodes ∷ past) legal = (ap log_of legal.0, legal-log past legal.1)
legal-log (Began kept ∷ past) legal = (ap log_of legal.0, legal-log past legal.1, legal.2)
legal-log (Took item ∷ past) legal =
    (items-alike (log_of past) past item (log-same past) ∙ legal.0, legal-log past legal.1)
legal-log (Opened stamp ∷ past) legal = legal-log past legal.1
legal-log (Closed id ∷ past) legal = legal-log past legal.1
legal-log (Vacuumed at ∷ past) legal = legal-log past legal.1
legal-log (PartVacuumed at dropped ∷ past) legal = legal-log past legal.1
legal-log (Joined node start ∷ past) legal =
    let so = log-same past in (
      rw so.3 legal.0,
      legal.1 ∙ sym so.3,
      subst (λ f. f ≤ start) (sym (floor-alike (log_of past) past so)) legal.2,
      legal-log past legal.3,
    )

-- no start comes later
starts-once : (more past : List Step) → 0 < initial_nodes past → more ++ log_of past ≡ [] → ⊥
starts-once [] past some none =
    let zero : initial_nodes (log_of past) ≡ 0 = ap initial_nodes none in
    let same = (log-same past).1 in omega (arith, some, zero, same)
starts-once (step ∷ more) past some none = absurd (cc)

on-log : (more past : List Step) → HaveOneLog (log_of more ++ past) (log_of more ++ log_of past)
on-log more past =
    one-log (log_of more ++ past) (log_of more ++ log_of past) (log-append (log_of more) past
    ∙ ap (λ (p : List Step). log_of (log_of more) ++ p) (sym (twice past))
    ∙ sym (log-append (log_of more) (log_of past)))

-- a store that is behind can take the rest of the log
goes-on : (more past : List Step) → 0 < initial_nodes past → IsLegal past
    → IsLegal (log_of more ++ log_of past) → IsLegal (log_of more ++ past)
goes-on [] past some legal h = legal
goes-on (Started nodes ∷ more) past some legal h = absurd (starts-once (log_of more) past some h.0)
goes-on (Began kept ∷ more) past some legal h = absurd (starts-once (log_of more) past some h.0)
goes-on (Took item ∷ more) past some legal h =
    let so = on-log more past in
    (items-alike (log_of more ++ past) (log_of more ++ log_of past) item so ∙ h.0, goes-on more past some legal h.1)
goes-on (Opened stamp ∷ more) past some legal h = goes-on more past some legal h
goes-on (Closed id ∷ more) past some legal h = goes-on more past some legal h
goes-on (Vacuumed at ∷ more) past some legal h = goes-on more past some legal h
goes-on (PartVacuumed at dropped ∷ more) past some legal h = goes-on more past some legal h
goes-on (Joined node start ∷ more) past some legal h =
    let so = on-log more past in (
      rw so.3 h.0,
      h.1 ∙ sym so.3,
      subst (λ f. f ≤ start) (sym (floor-alike (log_of more ++ past) (log_of more ++ log_of past) so)) h.2,
      goes-on more past some legal h.3,
    )

pub can-meet : (past other more : List Step) → 0 < initial_nodes past → IsLegal past → IsLegal other
    → log_of other ≡ log_of more ++ log_of past → CanMeet past other
can-meet past other more some legal legal' is =
    let here : List Step = log_of more ++ past in
    let so = one-log here other
    (log-append (log_of more) past ∙ ap (λ (p : List Step). p ++ log_of past) (twice more) ∙ sym is) in
    record {
      more = log_of more;
      rest = [];
      legal = goes-on more past some legal (subst IsLegal is (legal-log other legal'));
      other_legal = legal';
      meet = record { begun = so.0; initial_nodes = so.1; joins = so.2; items = λ n. (so.5 n).0 };
    }
