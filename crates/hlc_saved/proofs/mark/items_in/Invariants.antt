-- The items of the links so far, each of which has fewer than 2^64.
use Rattle.std.proofs.Common.{◌≡◌, ◌*◌, ◌≤◌, take}
use Rattle.hlc_saved.specs.Saver.{items_in}
use Rattle.hlc_saved.proofs.mark.items_in.Given as goal

abbrev pub invariant-loop-link : goal.invariant-loop-link
invariant-loop-link l =
    (l.items ≡ items_in (take l.link-index l.links)) × (l.items ≤ l.link-index * 18446744073709551615)
