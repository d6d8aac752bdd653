-- The floor of the links is that of the state, which without its rows is one of a store if no reason was found.
use Rattle.std.proofs.Common.{◌≡◌, ◌≤◌, All, List, true≢false, sym, subst, rules}
use Rattle.std.proofs.lemmas.{Grind.common_steps, List.Elements.All-nil}
use Rattle.hlc_snapshot.specs.declared.snapshot.Snapshot.{Snapshot}
use Rattle.hlc_checkpoint.specs.StoreView.{StoreView, greatest_head}
use Rattle.hlc_checkpoint.specs.Checkpoint.{AreAtMost, HasLinks, HasRegister, IsStoreHead, floor_in}
use Rattle.hlc_checkpoint.proofs.checkpoint.head_reason.Goals as goal

pub returns-then-not-are_at_most : goal.returns-then-not-are_at_most
returns-then-not-are_at_most c =
    let has : HasLinks c.args.checkpoint.now = search (rules, common_steps) in
    let register : HasRegister c.args.checkpoint.now = search (rules, common_steps) in
    let at : c.floor_of-floor.result ≡ floor_in c.args.checkpoint.now =
    rw (c.links-links.ensures, c.top.ensures.value) at c.floor_of-floor.ensures in (
      has,
      register,
      λ low. true≢false (sym (c.if-not-are_at_most.ensures.1
          (subst (λ f. All (λ (s : Snapshot). s.stamp ≤ f) c.snapshots-snapshots.result.now) (sym at)
          (subst (λ (xs : List Snapshot). All (λ (s : Snapshot). s.stamp ≤ floor_in c.args.checkpoint.now) xs)
          (sym c.snapshots-snapshots.ensures) low)))),
    )

store_head : (kept : StoreView) → HasLinks kept → kept.top ≡ greatest_head kept.links → HasRegister kept
    → AreAtMost (floor_in kept) kept → kept.horizon ≤ floor_in kept → IsStoreHead kept
store_head kept links top register opened horizon = record {
  consistent = record { opened = opened; row_set = tt; stored = All-nil _ };
  sound = record {
    nodes = links.0;
    stamps = links.1;
    last = links.2;
    top = top;
    horizon = horizon;
    limits = All-nil _;
  };
  register = register;
}

pub returns : goal.returns
returns c = search (rules, common_steps, store_head)
