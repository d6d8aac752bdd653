-- Ascending points are found by binary search, and the point before another is just before it.
use Rattle.std.proofs.Common.{true≢false, sym, ◌∙◌, subst, arith, Ok, Err}
use Rattle.std.proofs.lemmas.{Bool.eqb-true, Bool.eq-eqb, Bool.ltb-true, Bool.lt-ltb, List.Sorted.searched}
use Rattle.hlc_clock.specs.Points.{IsPointBefore}
use Rattle.hlc_witness.proofs.PlaceLemmas.{place_of, place_before, no_place, never_falling, first_point, first_only}
use Rattle.hlc_witness.proofs.PlaceLemmas.{next_point, next_only}
use Rattle.hlc_witness.proofs.checker.is_at_point.Goals as goal

pub returns-in-Err : goal.returns-in-Err
returns-in-Err c = (
  λ h. absurd (true≢false (sym h)),
  λ is. absurd (no_place c.args.points.now c.args.witness.now.at c.in-Err.field-0
      (searched c.args.points.now c.args.witness.now.at (Err c.in-Err.field-0) c.in-Err.ensures.position
      (never_falling c.args.points.now c.requires)) is.point),
)

pub returns-in-None : goal.returns-in-None
returns-in-None c =
    let found = searched c.args.points.now c.args.witness.now.at (Ok c.in-Ok.place) c.in-Ok.ensures.position
    (never_falling c.args.points.now c.requires) in (
      λ h. record {
        point = place_of c.args.points.now c.in-Ok.place c.args.witness.now.at found.0 found.1;
        neighbour = subst (λ b. IsPointBefore c.args.points.now b c.args.witness.now.at) (sym c.in-None.is)
            (first_point c.args.points.now c.in-Ok.place c.args.witness.now.at c.requires found.0 found.1
            (eqb-true c.in-Ok.place 0 h));
      },
      λ is. eq-eqb c.in-Ok.place 0 (first_only c.args.points.now c.in-Ok.place c.args.witness.now.at c.requires found.0
          found.1 (subst (λ b. IsPointBefore c.args.points.now b c.args.witness.now.at) c.in-None.is is.neighbour)),
    )

pub returns-then-place-gt0 : goal.returns-then-place-gt0
returns-then-place-gt0 c =
    let found = searched c.args.points.now c.args.witness.now.at (Ok c.in-Ok.place) c.in-Ok.ensures.position
    (never_falling c.args.points.now c.requires) in
    let before = place_before c.args.points.now c.in-Ok.place c.index-points-place.result
    (omega (arith, found.0)) c.index-points-place.is in (
      λ h. record {
        point = place_of c.args.points.now c.in-Ok.place c.args.witness.now.at found.0 found.1;
        neighbour = subst (λ b. IsPointBefore c.args.points.now b c.args.witness.now.at) (sym c.in-Some.is)
            (next_point c.args.points.now c.in-Ok.place c.args.witness.now.at
            c.in-Some.before c.requires found.0 found.1 c.if-place-gt0.true
            (before ∙ eqb-true c.index-points-place.result c.in-Some.before (sym c.eq.ensures ∙ h)));
      },
      λ is. c.eq.ensures ∙ eq-eqb c.index-points-place.result c.in-Some.before (sym before
          ∙ (next_only c.args.points.now c.in-Ok.place c.args.witness.now.at c.in-Some.before c.requires found.0 found.1
          (subst (λ b. IsPointBefore c.args.points.now b c.args.witness.now.at) c.in-Some.is is.neighbour)).1),
    )

pub returns-else-place-gt0 : goal.returns-else-place-gt0
returns-else-place-gt0 c =
    let found = searched c.args.points.now c.args.witness.now.at (Ok c.in-Ok.place) c.in-Ok.ensures.position
    (never_falling c.args.points.now c.requires) in (
      λ h. let l = ltb-true 0 c.in-Ok.place h in absurd (omega arith),
      λ is. lt-ltb 0 c.in-Ok.place
          (next_only c.args.points.now c.in-Ok.place c.args.witness.now.at c.in-Some.before c.requires found.0 found.1
          (subst (λ b. IsPointBefore c.args.points.now b c.args.witness.now.at) c.in-Some.is is.neighbour)).0,
    )
