-- Those so far are written.
use Rattle.std.proofs.Common.{◌≡◌, ◌++◌, length, take}
use Rattle.std.specs.{List.flat_map, Int.w16, Int.to_be_bytes}
use Rattle.hlc_body.specs.Spelling.{link_bytes}
use Rattle.hlc_body.proofs.writing.put_links.Given as goal

abbrev pub invariant-loop-link : goal.invariant-loop-link
invariant-loop-link l =
    l.out.items ≡ l.fn.out.items
    ++ (to_be_bytes w16 (length l.links) ++ flat_map link_bytes (take l.link-index l.links))
