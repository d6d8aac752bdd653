-- At each point either nothing is recorded or the newest row is marked.
use Rattle.std.proofs.Common.{◌≡◌, ◌<◌, ◌+◌, ◌++◌, ◌∷◌, [], ℕ, List, length, map, sym, ap, ◌∙◌, refl, subst, ltb}
use Rattle.std.proofs.Common.{get_or, inl, inr, true≢false, option_copied, IfSome}
use Rattle.std.proofs.lemmas.{Bool.cases_Bool, List.length-map, List.get_or_default}
use Rattle.hlc_rows.specs.Rows.{answer, newest}
use Rattle.hlc_witness.specs.Changes.{answer_at}
use Rattle.hlc_clock.specs.Points.{last_point}
use Rattle.hlc_table_column.specs.{Cells.Cell, Rows.row_of, Rows.rows_of}
use Rattle.hlc_vacuum_draft.specs.{Draft.IsDraft, KeyPlan.IsKeyPlan}
use Rattle.hlc_vacuum_draft.proofs.{SoFar.KeyPlanSoFar, Drafts.draft-above, JoinedLemmas.key_vacuums}
use Rattle.hlc_vacuum_draft.proofs.Steps.{same_on, change_on, plan_done, flagged, next_before}
use Rattle.hlc_vacuum_draft.proofs.key_plan.plan_lanes.Goals as goal

pub loop-point-init : goal.loop-point-init
loop-point-init c =
    let lanes = c.args.lanes in
    let bound = last_point c.args.points.now in
    let flags : c.in_ok-keep.keep.items ≡ map (λ s. ltb bound s) (map (λ (x : Cell). x.stamp) lanes) =
    c.in_ok-keep.ensures ∙ ap (map (λ s. ltb c.bits.result s)) c.stamps.ensures ∙ ap
    (λ b. map (λ s. ltb b s) (map (λ (x : Cell). x.stamp) lanes)) (c.bits.ensures.value ∙ c.last_of.ensures) in
    record {
      long = ap length flags ∙ length-map (map (λ (x : Cell). x.stamp) lanes) (λ s. ltb bound s)
          ∙ length-map lanes (λ (x : Cell). x.stamp);
      value_here = λ key. refl;
      plan = λ key. record {
        found = [];
        at_points = sym c.new-changes.ensures.items;
        so = record {
          rest = refl;
          draft = subst (IsDraft (rows_of key lanes) bound []) (sym flags) (draft-above key bound lanes);
        };
      };
    }

pub loop-point-preserved : goal.loop-point-preserved
loop-point-preserved c =
    let lanes = c.args.lanes in
    let points = c.args.points.now in
    let i = c.loop-point.point-index in
    let inv = c.loop-point.invariant in
    let p = c.point-item.result in
    let at : p ≡ get_or points i 0 = c.point-item.is ∙ get_or_default points i p 0 c.loop-point-test.true in
    let value_here : (key : List ℕ)
    → option_copied c.value_of-value_here.result ≡ answer (rows_of key lanes) key (get_or points i 0) =
    λ key. c.value_of-value_here.ensures key p c.newest-place.ensures.within (c.newest-place.ensures.newest key)
    ∙ ap (answer (rows_of key lanes) key) at in
    record {
      long = c.in_ok-note_point.ensures.long ∙ inv.long;
      value_here = λ key. value_here key ∙ ap (answer_at (rows_of key lanes) key) (sym (next_before points i));
      plan = λ key. elim (cases_Bool c.are_equal-equal.result) [
        | inl t ↦
            let s = c.in_ok-note_point.ensures.same t in
            subst (λ xs. KeyPlanSoFar (rows_of key lanes) key points (i + 1) xs c.note_point.new.keep.items) (sym s.0)
            (subst (λ bs. KeyPlanSoFar (rows_of key lanes) key points (i + 1) c.loop-point.changes.items bs) (sym s.1)
            (same_on (rows_of key lanes) key points i c.loop-point-test.true c.loop-point.changes.items
            c.loop-point.keep.items (sym (value_here key) ∙ c.are_equal-equal.ensures.0 t ∙ inv.value_here key)
            (inv.plan key)))
        | inr f ↦
            let s = c.in_ok-note_point.ensures.change f in
            subst (λ xs. KeyPlanSoFar (rows_of key lanes) key points (i + 1) xs c.note_point.new.keep.items)
            (sym (s.0 ∙ ap (λ q. c.loop-point.changes.items ++ q ∷ []) at))
            (change_on (rows_of key lanes) key points i c.loop-point-test.true c.loop-point.changes.items
            c.loop-point.keep.items c.note_point.new.keep.items
            (λ e. true≢false (sym (c.are_equal-equal.ensures.1 (value_here key ∙ e ∙ sym (inv.value_here key))) ∙ f))
            (flagged (rows_of key lanes) key
            (get_or points i 0) c.newest-place.result c.loop-point.keep.items c.note_point.new.keep.items
            (subst (λ n. IfSome c.newest-place.result (λ j. j < n))
            (sym (length-map lanes (row_of key))) c.newest-place.ensures.within)
            (c.newest-place.ensures.newest key ∙ ap (newest (rows_of key lanes) key) at) s.1)
            (inv.plan key))
      ];
    }

planned : (c : goal.After-loop-point) → (key : List ℕ)
    → IsKeyPlan (rows_of key c.args.lanes) key c.args.points.now c.loop-point.changes.items c.loop-point.keep.items
planned c = λ key. plan_done (rows_of key c.args.lanes) key c.args.points.now c.loop-point.point-index
    c.loop-point.changes.items c.loop-point.keep.items c.loop-point-test.false (c.loop-point.invariant.plan key)

pub returns-clause-flags : goal.returns-clause-flags
returns-clause-flags c = planned c

pub returns-clause-vacuumed : goal.returns-clause-vacuumed
returns-clause-vacuumed c = λ key apart.
    key_vacuums key c.args.lanes c.args.points.now c.loop-point.changes.items c.loop-point.keep.items
    c.requires apart (planned c key)
