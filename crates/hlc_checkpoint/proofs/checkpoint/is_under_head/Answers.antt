-- The link is that of the row's node, if there is one.
use Rattle.std.proofs.Common.{◌≡◌, ◌≤◌, ◌<◌, List, length, Bool, refl, ap, arith, rules, get_or, IsTrue, ◌↔◌}
use Rattle.std.proofs.lemmas.Option.{get_or_from_slice_get, slice_get_read}
use Rattle.hlc_rows.specs.declared.row.Row.{Row}
use Rattle.hlc_intake.specs.IntakeView.{IntakeView}
use Rattle.hlc_heads.specs.Heads.{no_link}
use Rattle.hlc_checkpoint.specs.StoreView.{IsUnderHead}
use Rattle.hlc_checkpoint.proofs.checkpoint.is_under_head.Goals as goal

one_link : (links : List IntakeView) (row : Row) (link : IntakeView) (b : Bool) → row.node < length links
    → link ≡ get_or links row.node link → (IsTrue b ↔ ((0 < row.stamp) × (row.stamp ≤ link.head)))
    → IsTrue b ↔ IsUnderHead links row
one_link links row link b within at is =
    let same = ap (λ (l : IntakeView). l.head) (get_or_from_slice_get links row.node link no_link
    (slice_get_read links (length links) row.node link refl within at)) in (
      λ t. let both = is.0 t in let low = both.1 in (within, omega (arith, same, low), both.0),
      λ under. is.1 (let low = under.1 in (under.2, omega (arith, same, low))),
    )

pub returns-in-Some : goal.returns-in-Some
returns-in-Some c =
    one_link c.args.links.now c.args.row.now c.in-Some.link.now _ c.in-Some.ensures.lookup.3.0
    c.in-Some.ensures.lookup.1 (search rules)
