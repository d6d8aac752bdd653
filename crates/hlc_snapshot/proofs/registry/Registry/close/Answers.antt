-- The state is the snapshots without the one with the id, so each clause is that of a closing.
use Rattle.std.proofs.{Common.◌≡◌, Common.rules, Common.sym, Common.◌∙◌, Common.refl, lemmas.Fn.filter_same}
use Rattle.std.specs.Prelude.{◌==◌, not}
use Rattle.hlc_snapshot.specs.RegistryView.{without}
use Rattle.hlc_snapshot.proofs.RegisterLemmas.{closed-map, closed-is_register}
use Rattle.hlc_snapshot.proofs.registry.Registry.close.Goals as goal

kept : (c : goal.After-retain) → c.retain.new.self.items ≡ without c.args.id c.self.inside.snapshots.items
kept c = filter_same _ (λ snapshot. not (snapshot.id == c.args.id)) _
    (λ x b f' k. search rules) _ _ c.retain.ensures.filtered

pub invariant_of-self : goal.invariant_of-self
invariant_of-self c = rw (kept c) (closed-is_register _ c.args.id c.self.invariant)

pub returns-clause-ok : goal.returns-clause-ok
returns-clause-ok c = (sym c.stamp_of.ensures.value ∙ c.in-Some.is, rw (← c.self.view_is, kept c) refl)

pub returns-clause-map : goal.returns-clause-map
returns-clause-map c = λ other. rw (← c.self.view_is, kept c)
    (closed-map (record { snapshots = c.self.inside.snapshots.items; last_id = c.self.inside.last_id }) c.args.id other)

pub returns-clause-register : goal.returns-clause-register
returns-clause-register c = rw (kept c) (closed-is_register _ c.args.id c.self.invariant)
