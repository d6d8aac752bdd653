-- The first two neighbours that do not ascend answer, or all ascend.
use Rattle.std.proofs.Common.{true≢false, sym, ap, ap₂, ◌∙◌, refl, arith, is_lt, nat_cmp}
use Rattle.std.specs.Cmp.Lexicographic.{slice_cmp}
use Rattle.hlc_routing.proofs.Boundaries.{neighbours}
use Rattle.hlc_routing.proofs.division.do_ascend.Goals as goal

pub returns-then-not-is_below : goal.returns-then-not-is_below
returns-then-not-is_below c = (
  λ h. absurd (true≢false (sym h)),
  λ up.
      absurd (true≢false (sym (c.if-not-is_below.ensures
      ∙ ap is_lt (ap₂ (slice_cmp nat_cmp) c.as_slice.ensures c.as_slice-in-loop-i.ensures
      ∙ neighbours c.args.boundaries.now c.loop-i.i c.index-boundaries-i.result
      c.index-boundaries-i-in-loop-i.result (omega arith) c.loop-i-test.true c.index-boundaries-i.is
      c.index-boundaries-i-in-loop-i.is up)))),
)

pub returns : goal.returns
returns c = (λ _ k d l. c.loop-i.invariant k d (omega arith), λ _. refl)
