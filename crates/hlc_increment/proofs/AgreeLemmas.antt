-- A past in which vacuums dropped nothing agrees with the past of the vacuums in all but the number of stored rows, and
-- is legal where that is.
use Rattle.std.proofs.Common.{◌≡◌, ℕ, ◌≤◌, List, [], ◌∷◌, ◌++◌, refl, ap, sym, ◌∙◌, subst, arith}
use Rattle.hlc_node.specs.declared.item.Item.{Item}
use Rattle.hlc_core.specs.Past.{Step, Started, Began, Took, Opened, Closed, Vacuumed, PartVacuumed, Joined, horizon}
use Rattle.hlc_core.specs.Past.{writes, item_rows, IsLegal, item_refusal, open_refusal, vacuum_refusal, part_dropped}
use Rattle.hlc_core.specs.Past.{vacuumed}
use Rattle.hlc_core.specs.Stored.{AreLastChanges}
use Rattle.hlc_witness.specs.declared.witness.Witness.{Witness}
use Rattle.hlc_replicas.proofs.AlikeLemmas.{AreAlike, alike-itself, alike-started, alike-took, alike-joined}
use Rattle.hlc_replicas.proofs.AlikeLemmas.{alike-began, alike-opened, alike-closed, floors-alike}
use Rattle.hlc_increment.specs.Increment.{without_drops}

-- two pasts agree in all that refusals and reads look at
pub record Agree (past other : List Step) : Type 0 where
  pub alike : AreAlike past other
  pub horizons : horizon past ≡ horizon other
  pub rows : writes past ≡ writes other

-- a part that dropped nothing stands in place of each vacuum
pub drops-agree : (more past : List Step) → Agree (without_drops more ++ past) (more ++ past)
drops-agree [] past = record { alike = alike-itself past; horizons = refl; rows = refl }
drops-agree (Took item ∷ more) past =
    let are = drops-agree more past in record {
      alike = alike-took (without_drops more ++ past) (more ++ past) item item.body refl are.alike;
      horizons = are.horizons;
      rows = ap (λ rows. rows ++ item_rows item) are.rows;
    }
drops-agree (Opened stamp ∷ more) past =
    let are = drops-agree more past in record {
      alike = alike-opened (without_drops more ++ past) (more ++ past) stamp are.alike;
      horizons = are.horizons;
      rows = are.rows;
    }
drops-agree (Started nodes ∷ more) past =
    let are = drops-agree more past in record {
      alike = alike-started (without_drops more ++ past) (more ++ past) nodes are.alike;
      horizons = are.horizons;
      rows = are.rows;
    }
drops-agree (Began kept ∷ more) past =
    let are = drops-agree more past in record {
      alike = alike-began (without_drops more ++ past) (more ++ past) kept;
      horizons = refl;
      rows = ap (λ rows. rows ++ kept.rows) are.rows;
    }
drops-agree (Closed id ∷ more) past =
    let are = drops-agree more past in record {
      alike = alike-closed (without_drops more ++ past) (more ++ past) id are.alike;
      horizons = are.horizons;
      rows = are.rows;
    }
drops-agree (Vacuumed at ∷ more) past =
    let are = drops-agree more past in record { alike = are.alike; horizons = refl; rows = are.rows }
drops-agree (PartVacuumed at dropped ∷ more) past =
    let are = drops-agree more past in record { alike = are.alike; horizons = refl; rows = are.rows }
drops-agree (Joined node start ∷ more) past =
    let are = drops-agree more past in record {
      alike = alike-joined (without_drops more ++ past) (more ++ past) node start are.alike;
      horizons = are.horizons;
      rows = are.rows;
    }

-- what refusals look at
items-agree : (past other : List Step) (item : Item) → Agree past other
    → item_refusal past item ≡ item_refusal other item
items-agree past other item are =
    let link = are.alike.2 item.node in rw (are.alike.1, link.2, link.0, link.1) refl

opens-agree : (past other : List Step) (stamp : ℕ) → Agree past other
    → open_refusal past stamp ≡ open_refusal other stamp
opens-agree past other stamp are =
    rw (floors-alike past other are.alike, are.horizons, are.alike.5, are.alike.4) refl

vacuums-agree : (past other : List Step) (at : ℕ) → Agree past other
    → vacuum_refusal past at ≡ vacuum_refusal other at
vacuums-agree past other at are = rw (floors-alike past other are.alike, are.horizons) refl

-- where nothing took place, nothing did without drops either
drops-none : (more past : List Step) → more ++ past ≡ [] → without_drops more ++ past ≡ []
drops-none [] past none = none
drops-none (step ∷ more) past none = absurd (cc)

pub drops-legal : (more past : List Step) → IsLegal (more ++ past)
    → IsLegal (without_drops more ++ past)
drops-legal [] past legal = legal
drops-legal (Took item ∷ more) past legal = (
  items-agree (without_drops more ++ past) (more ++ past) item (drops-agree more past) ∙ legal.0,
  drops-legal more past legal.1,
)
drops-legal (Opened stamp ∷ more) past legal = (
  opens-agree (without_drops more ++ past) (more ++ past) stamp (drops-agree more past) ∙ legal.0,
  drops-legal more past legal.1,
)
drops-legal (Started nodes ∷ more) past legal = (
  drops-none more past legal.0,
  drops-legal more past legal.1,
)
drops-legal (Began kept ∷ more) past legal = (
  drops-none more past legal.0,
  drops-legal more past legal.1,
  legal.2,
)
drops-legal (Closed id ∷ more) past legal = (
  rw (drops-agree more past).alike.5 legal.0,
  drops-legal more past legal.1,
)
drops-legal (Vacuumed at ∷ more) past legal = (
  vacuums-agree (without_drops more ++ past) (more ++ past) at (drops-agree more past) ∙ legal.0,
  drops-legal more past legal.1,
)
drops-legal (PartVacuumed at dropped ∷ more) past legal = (
  vacuums-agree (without_drops more ++ past) (more ++ past) at (drops-agree more past) ∙ legal.0,
  drops-legal more past legal.1,
)
drops-legal (Joined node start ∷ more) past legal = (
  rw (drops-agree more past).alike.1 legal.0,
  legal.1 ∙ sym (drops-agree more past).alike.1,
  subst (λ f. f ≤ start)
      (sym (floors-alike (without_drops more ++ past) (more ++ past) (drops-agree more past).alike)) legal.2,
  drops-legal more past legal.3,
)

-- the number of rows that should be stored counts on from the last whole vacuum before
pub drops-part_nothing : (more past : List Step) → part_dropped (without_drops more ++ past) ≡ part_dropped past
drops-part_nothing [] past = refl
drops-part_nothing (Vacuumed at ∷ more) past = (let h = drops-part_nothing more past in omega (arith, h))
drops-part_nothing (PartVacuumed at dropped ∷ more) past = (let h = drops-part_nothing more past in omega (arith, h))
drops-part_nothing (step ∷ more) past = drops-part_nothing more past

pub drops-vacuumed : (more past : List Step) → vacuumed (without_drops more ++ past) ≡ vacuumed past
drops-vacuumed [] past = refl
drops-vacuumed (Vacuumed at ∷ more) past = drops-vacuumed more past
drops-vacuumed (step ∷ more) past = drops-vacuumed more past

pub drops-last_changes : (more past : List Step) (changes : List Witness) → AreLastChanges past changes
    → AreLastChanges (without_drops more ++ past) changes
drops-last_changes [] past changes are = are
drops-last_changes (Vacuumed at ∷ more) past changes are = drops-last_changes more past changes are
drops-last_changes (step ∷ more) past changes are = drops-last_changes more past changes are

pub drops-append : (more past : List Step) → without_drops (more ++ past) ≡ without_drops more ++ without_drops past
drops-append [] past = refl
drops-append (Vacuumed at ∷ more) past = ap (λ (p : List Step). PartVacuumed at 0 ∷ p) (drops-append more past)
drops-append (PartVacuumed at dropped ∷ more) past =
    ap (λ (p : List Step). PartVacuumed at 0 ∷ p) (drops-append more past)
drops-append (step ∷ more) past = ap (λ (p : List Step). step ∷ p) (drops-append more past)
