-- At the end no stamp is above the greatest.
use Rattle.std.proofs.{Common.◌≤◌, Common.arith, lemmas.List.Elements.All-from_get_or}
use Rattle.hlc_vacuum_draft.proofs.gaps.greatest_of.Goals as goal

pub returns : goal.returns
returns c = All-from_get_or (λ stamp. stamp ≤ c.loop-stamp.greatest) c.args.stamps.now 0
    (λ k lt. c.loop-stamp.invariant k (omega arith))
