-- Where no receipt is bad and there are as many as entries, all settles: the invariant of what was under the lock says
-- that the trail is a legal history which the core represents.
use Rattle.std.proofs.Common.{◌≡◌, List, Some, sym, ap, ◌∙◌, subst}
use Rattle.hlc_core.proofs.FaithfulLemmas.{histories_are_faithful}
use Rattle.hlc_server.specs.{declared.entry.Entry.Entry, Trails.entries_of, Trails.history_of}
use Rattle.hlc_server.{specs.Settling.claims_of, specs.Settling.IsSettled, proofs.Callers.each_is_claimed}
use Rattle.hlc_server.proofs.settle.settle_guarded.Goals as goal

pub returns : goal.returns
returns g c =
    let trail = c.in-Some.trail.entries.items in
    let is : c.args.guarded.trail ≡ Some trail = ap (λ v. v.trail) (sym c.guarded.view_is)
    ∙ ap entries_of c.in-Some.is in
    let settled : IsSettled trail (claims_of c.args.lists.items) =
    subst (λ (t : List Entry). IsSettled t (claims_of c.args.lists.items)) c.as_slice.ensures.value
    (subst (λ l. IsSettled c.as_slice.result.now (claims_of l)) c.as_slice-2.ensures.value
    c.in_default-first_bad.ensures.settled) in
    let audited = c.guarded.invariant.1 trail (ap entries_of c.in-Some.is) in
    record {
      trail = trail;
      kept = is;
      all = settled;
      returned = each_is_claimed trail (claims_of c.args.lists.items) settled;
      represents = audited.represents;
      faithful = histories_are_faithful _ c.guarded.inside.core (history_of trail) audited.represents;
      core = ap (λ v. v.core) c.guarded.view_is;
      entries = c.len-entries.ensures ∙ c.in-Some.trail.entries.ok.0;
    }
