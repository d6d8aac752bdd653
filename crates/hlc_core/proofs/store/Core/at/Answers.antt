-- The stored rows answer at an open snapshot as all accepted writes do.
use Rattle.std.proofs.Common.{◌≡◌, Some, sym, ap, ◌∙◌, subst, ℕ, List}
use Rattle.hlc_rows.specs.Rows.{answer}
use Rattle.hlc_columns.specs.View.{Seen}
use Rattle.hlc_core.{specs.Past.stamp_of, specs.Past.writes, proofs.Answering.answer-alike}
use Rattle.hlc_snapshot.specs.RegistryView.{stamp_in}
use Rattle.hlc_core.proofs.store.Core.at.Goals as goal

pub returns : goal.returns
returns c = λ past h.
    let h' = rw (← c.self.view_is) at h in
    let at : stamp_of c.args.id past ≡ Some c.in_ok-stamp.stamp = ap (stamp_in c.args.id) (sym h'.snapshots)
    ∙ sym c.in_ok-stamp.ensures.value in
    subst (λ (seen : Seen). (stamp_of c.args.id past ≡ Some seen.stamp)
    × ((key : List ℕ) → answer seen.rows key seen.stamp ≡ answer (writes past) key seen.stamp)) (sym c.new.ensures)
    (at, answer-alike _ past c.args.id c.in_ok-stamp.stamp h' (sym c.in_ok-stamp.ensures.value))
