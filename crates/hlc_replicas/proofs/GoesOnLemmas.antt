-- A past that begins with the state which another past led to goes on as that one: it refuses the same steps, and its
-- writes answer alike from the other's horizon on and at the snapshots that were open.
use Rattle.std.proofs.Common.{◌≡◌, ℕ, ◌+◌, ◌<◌, ◌≤◌, List, [], ◌∷◌, ◌++◌, length, refl, ap, sym, ◌∙◌, subst, inl, inr}
use Rattle.std.proofs.Common.{arith, false}
use Rattle.std.proofs.lemmas.Bool.{cases_lt}
use Rattle.hlc_intake.specs.IntakeView.{IntakeView}
use Rattle.hlc_node.specs.declared.item.Item.{Item}
use Rattle.hlc_heads.specs.Heads.{a_link}
use Rattle.hlc_snapshot.specs.RegistryView.{stamps, stamp_in}
use Rattle.hlc_vacuum.specs.Representing.{RowsRepresent}
use Rattle.hlc_core.specs.Past.{Step, Started, Began, Took, Opened, Closed, Vacuumed, PartVacuumed, Joined, numbered}
use Rattle.hlc_core.specs.Past.{head, floor, horizon, open_snapshots, writes, item_refusal, open_refusal}
use Rattle.hlc_core.specs.Past.{vacuum_refusal, IsLegal, initial_nodes}
use Rattle.hlc_core.specs.{StoreView.StoreView, StoreView.Represents, Checkpoint.IsCheckpoint}
use Rattle.hlc_core.proofs.BeganLemmas.{link_in-out}
use Rattle.hlc_core.proofs.PastLemmas.{fresh, inside, head-other, head-joined_other, above_floor, horizon-low}
use Rattle.hlc_core.proofs.PastLemmas.{writes-row_set}
use Rattle.hlc_core.proofs.CheckpointLemmas.{link-is}
use Rattle.hlc_core.proofs.StayLemmas.{floor-never_falls, nothing-before}
use Rattle.hlc_core.proofs.TakingLemmas.{rows-body}
use Rattle.hlc_replicas.proofs.AlikeLemmas.{AreAlike, alike-took, alike-joined, alike-opened, alike-closed}
use Rattle.hlc_replicas.proofs.AlikeLemmas.{floors-alike}

-- a node that does not exist has no head
head-none : (past : List Step) (n : ℕ) → IsLegal past → numbered past ≤ n → head n past ≡ 0
head-none [] n legal out = refl
head-none (Opened stamp ∷ past) n legal out = head-none past n legal.1 out
head-none (Started nodes ∷ past) n legal out =
    head-none past n legal.1 (let out' : numbered past + nodes ≤ n = out in omega arith)
head-none (Began kept ∷ past) n legal out = ap (λ (link : IntakeView). link.head) (link_in-out kept n out)
head-none (Closed id ∷ past) n legal out = head-none past n legal.1 out
head-none (Vacuumed at ∷ past) n legal out = head-none past n legal.1 out
head-none (PartVacuumed at dropped ∷ past) n legal out = head-none past n legal.1 out
head-none (Joined node start ∷ past) n legal out =
    let out' : numbered past + 1 ≤ n = out in
    let is : node ≡ numbered past = legal.1 in
    head-joined_other n node start past (λ e. omega (arith, e)) ∙ head-none past n legal.3 (omega arith)
head-none (Took item ∷ past) n legal out =
    let within : item.node < numbered past = inside past item legal.0 in
    let out' : numbered past ≤ n = out in
    head-other n item past (λ e. omega (arith, e)) ∙ head-none past n legal.1 out

-- the past that begins with the state is like that which led to it
began-alike : (kept : StoreView) (past : List Step) → Represents kept past → AreAlike (Began kept ∷ []) past
began-alike kept past h = (
  h.initial_nodes,
  h.links.many,
  λ n. elim (cases_lt n (length kept.links)) [
    | inl within ↦
        let is = link-is kept past h n (a_link 0 0 false) within in (
          ap (λ (link : IntakeView). link.next) is,
          ap (λ (link : IntakeView). link.head) is,
          ap (λ (link : IntakeView). link.retired) is,
        )
    | inr out ↦
        let e = link_in-out kept n out in
        let out' : numbered past ≤ n = (let many : length kept.links ≡ numbered past = h.links.many in omega arith) in
        let none = fresh past n h.legal out' in (
          ap (λ (link : IntakeView). link.next) e ∙ sym none.0,
          ap (λ (link : IntakeView). link.head) e ∙ sym (head-none past n h.legal out'),
          ap (λ (link : IntakeView). link.retired) e ∙ sym none.1,
        )
  ],
  h.top,
  h.last_id,
  h.snapshots,
)

items-alike : (past other : List Step) (item : Item) → AreAlike past other
    → item_refusal past item ≡ item_refusal other item
items-alike past other item are = let link = are.2 item.node in rw (are.1, link.2, link.0, link.1) refl

opens-alike : (past other : List Step) (stamp : ℕ) → AreAlike past other → horizon past ≡ horizon other
    → open_refusal past stamp ≡ open_refusal other stamp
opens-alike past other stamp are same = rw (floors-alike past other are, same, are.5, are.4) refl

vacuums-alike : (past other : List Step) (at : ℕ) → AreAlike past other → horizon past ≡ horizon other
    → vacuum_refusal past at ≡ vacuum_refusal other at
vacuums-alike past other at are same = rw (floors-alike past other are, same) refl

-- After more steps, from the state, and from the past that led to it: what is said of them, with the horizon and the
-- snapshots of that past.
pub record GoesOn (kept : StoreView) (past more : List Step) : Type 0 where
  pub legal : IsLegal (more ++ (Began kept ∷ []))
  pub alike : AreAlike (more ++ (Began kept ∷ [])) (more ++ past)
  pub horizons : horizon (more ++ (Began kept ∷ [])) ≡ horizon (more ++ past)
  pub rows : RowsRepresent (writes (more ++ (Began kept ∷ []))) (writes (more ++ past)) (horizon past)
      (stamps (open_snapshots past))

-- nothing begins later
begins-once : (kept : StoreView) (past more : List Step) → IsCheckpoint kept → Represents kept past
    → more ++ past ≡ [] → ⊥
begins-once kept past more is h none =
    let e : kept.initial_nodes ≡ initial_nodes past = h.initial_nodes in
    let f : initial_nodes past ≡ 0 = ap initial_nodes (nothing-before more past none) in
    let some : 0 < kept.initial_nodes = is.store.sound.nodes.some in omega arith

pub goes-on : (more : List Step) (kept : StoreView) (past : List Step) → IsCheckpoint kept → Represents kept past
    → IsLegal (more ++ past) → GoesOn kept past more
goes-on [] kept past is h legal = record {
  legal = (refl, tt, is);
  alike = began-alike kept past h;
  horizons = h.horizon;
  rows = h.rows;
}
goes-on (Opened stamp ∷ more) kept past is h legal =
    let on = goes-on more kept past is h legal.1 in record {
      legal = (
        opens-alike (more ++ (Began kept ∷ [])) (more ++ past) stamp on.alike on.horizons ∙ legal.0,
        on.legal,
      );
      alike = alike-opened (more ++ (Began kept ∷ [])) (more ++ past) stamp on.alike;
      horizons = on.horizons;
      rows = on.rows;
    }
goes-on (Started nodes ∷ more) kept past is h legal = absurd (begins-once kept past more is h legal.0)
goes-on (Began other ∷ more) kept past is h legal = absurd (begins-once kept past more is h legal.0)
goes-on (Closed id ∷ more) kept past is h legal =
    let on = goes-on more kept past is h legal.1 in record {
      legal = (λ none. legal.0 (sym (ap (stamp_in id) on.alike.5) ∙ none), on.legal);
      alike = alike-closed (more ++ (Began kept ∷ [])) (more ++ past) id on.alike;
      horizons = on.horizons;
      rows = on.rows;
    }
goes-on (Vacuumed at ∷ more) kept past is h legal =
    let on = goes-on more kept past is h legal.1 in record {
      legal = (
        vacuums-alike (more ++ (Began kept ∷ [])) (more ++ past) at on.alike on.horizons ∙ legal.0,
        on.legal,
      );
      alike = on.alike;
      horizons = refl;
      rows = on.rows;
    }
goes-on (PartVacuumed at dropped ∷ more) kept past is h legal =
    let on = goes-on more kept past is h legal.1 in record {
      legal = (
        vacuums-alike (more ++ (Began kept ∷ [])) (more ++ past) at on.alike on.horizons ∙ legal.0,
        on.legal,
      );
      alike = on.alike;
      horizons = refl;
      rows = on.rows;
    }
goes-on (Joined node start ∷ more) kept past is h legal =
    let on = goes-on more kept past is h legal.3 in record {
      legal = (
        rw on.alike.1 legal.0,
        legal.1 ∙ sym on.alike.1,
        subst (λ f. f ≤ start) (sym (floors-alike (more ++ (Began kept ∷ [])) (more ++ past) on.alike)) legal.2,
        on.legal,
      );
      alike = alike-joined (more ++ (Began kept ∷ [])) (more ++ past) node start on.alike;
      horizons = on.horizons;
      rows = on.rows;
    }
goes-on (Took item ∷ more) kept past is h legal =
    let on = goes-on more kept past is h legal.1 in
    let low : horizon past ≤ floor past = horizon-low past h.legal in
    let rose : floor past ≤ floor (more ++ past) = floor-never_falls past more legal.1 in
    let up : floor (more ++ past) < item.stamp = above_floor (more ++ past) item legal.0 in record {
      legal = (items-alike (more ++ (Began kept ∷ [])) (more ++ past) item on.alike ∙ legal.0, on.legal);
      alike = alike-took (more ++ (Began kept ∷ [])) (more ++ past) item item.body refl on.alike;
      horizons = on.horizons;
      rows = rows-body (writes (more ++ (Began kept ∷ []))) (writes (more ++ past)) (horizon past)
          (stamps (open_snapshots past)) item.node item.stamp item.body on.rows (omega arith)
          (writes-row_set (Took item ∷ (more ++ past)) legal);
    }
