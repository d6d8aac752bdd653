-- The least head of the node's group is the lower of the earlier one and the start, and the least of all groups is the
-- floor.
use Rattle.std.proofs.Common.{rules, ◌≡◌, ◌<◌, ◌≤◌, ◌/◌, ℕ, List, length, Some, None, Option, refl, sym, subst}
use Rattle.std.proofs.Common.{slice_set, ap, arith}
use Rattle.std.proofs.lemmas.{Grind.common_steps, List.get_or_default, Result.err_from_is_err_and}
use Rattle.hlc_heads.specs.declared.{heads.TheConstants.MAX_NODES, groups.TheConstants.GROUP}
use Rattle.hlc_heads.specs.Heads.{HeadsView, IsSized, IsFloor, joined}
use Rattle.hlc_heads.{specs.Groups.AreGroups, specs.Groups.group_at, proofs.LowLemmas.floor-is}
use Rattle.hlc_heads.proofs.LeastGroups.{IsLower, groups_join, found_floor, joined-sized}
use Rattle.hlc_heads.proofs.heads.Heads.join_at.Goals as goal

pub invariant_of-self-2 : goal.invariant_of-self-2
invariant_of-self-2 c =
    let inside = c.self.inside in
    let marks : HeadsView = record { links = inside.links.items; top = inside.top } in
    let grown : HeadsView = joined marks c.args.start in
    let place : c.len-place.result ≡ length inside.links.items = search rules in
    let few : length inside.links.items < MAX_NODES = search (rules, common_steps) in
    let size : length inside.groups ≡ GROUP = search (rules, common_steps) in
    let groups : List (Option ℕ) = slice_set inside.groups (c.len-place.result / GROUP) (Some c.lower.result) in
    let lowest : IsLower (group_at inside.groups (c.len-place.result / GROUP)) c.args.start c.lower.result =
    subst (λ found. IsLower found c.args.start c.lower.result)
    (get_or_default inside.groups (c.len-place.result / GROUP) c.index-self-group.result None
    (omega (arith, place, few, size))) c.lower.ensures in
    let sized : IsSized grown = joined-sized marks c.args.start c.self.invariant.0 few in
    let grouped : AreGroups grown.links groups =
    subst (λ (n : ℕ). AreGroups grown.links (slice_set inside.groups (n / GROUP) (Some c.lower.result))) (sym place)
    (groups_join marks inside.groups c.args.start c.lower.result size few
    (subst (λ (n : ℕ). IsLower (group_at inside.groups (n / GROUP)) c.args.start c.lower.result) place lowest)
    c.self.invariant.2) in
    rw (
      c.in_ok-push.ensures.items,
      c.starting_at.ensures,
      c.unwrap_or-self-inside.ensures,
      c.greater-self-inside.ensures,
    ) (
      sized,
      found_floor grown groups c.least_of.result sized.few grouped c.least_of.ensures,
      grouped,
    )

pub returns-then-lt : goal.returns-then-lt
returns-then-lt c =
    let few : length c.args.self.now.links < MAX_NODES = search (rules, common_steps) in
    let below : c.args.start < c.self.inside.floor = search (rules, common_steps) in
    let old : IsFloor c.args.self.now c.self.inside.floor =
    subst (λ m. IsFloor m c.self.inside.floor) c.self.view_is c.self.invariant.1 in
    (few, floor-is c.args.self.now c.self.inside.floor old, below, refl)

pub returns-in_err-push : goal.returns-in_err-push
returns-in_err-push c =
    let few : length c.args.self.now.links < MAX_NODES = search (rules, common_steps) in
    let above : c.self.inside.floor ≤ c.args.start = search (rules, common_steps) in
    let old : IsFloor c.args.self.now c.self.inside.floor =
    subst (λ m. IsFloor m c.self.inside.floor) c.self.view_is c.self.invariant.1 in
    let below = subst (λ floor. floor ≤ c.args.start) (floor-is c.args.self.now c.self.inside.floor old) above in
    let p = err_from_is_err_and c.from_residual.result c.from_residual.ensures.1 in
    rw p.1 (few, below, search (rules, common_steps))

pub returns : goal.returns
returns c =
    let few : length c.args.self.now.links < MAX_NODES = search (rules, common_steps) in
    let place : c.len-place.result ≡ length c.args.self.now.links = search rules in
    let above : c.self.inside.floor ≤ c.args.start = search (rules, common_steps) in
    let old : IsFloor c.args.self.now c.self.inside.floor =
    subst (λ m. IsFloor m c.self.inside.floor) c.self.view_is c.self.invariant.1 in (
      few,
      subst (λ floor. floor ≤ c.args.start) (floor-is c.args.self.now c.self.inside.floor old) above,
      place,
      rw (c.in_ok-push.ensures.items, c.starting_at.ensures, c.greater-self-inside.ensures)
          (ap (λ (marks : HeadsView). joined marks c.args.start) c.self.view_is),
    )
