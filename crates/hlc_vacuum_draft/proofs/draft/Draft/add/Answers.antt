-- At each point either nothing is counted, or a change is, it is listed, and the newest row is marked.
use Rattle.std.proofs.Common.{◌≡◌, ◌<◌, ◌+◌, ◌++◌, ◌∷◌, [], ℕ, List, length, map, sym, ap, ◌∙◌, refl, subst, ltb}
use Rattle.std.proofs.Common.{get_or, option_copied, Option, Some, None, Bool, true, set, ap₂, true≢false, rules, arith}
use Rattle.std.specs.Prelude.{IfSome, MatchOption}
use Rattle.std.proofs.lemmas.List.{length-map, get_or_default, length-append, length-set}
use Rattle.hlc_rows.specs.{Rows.answer, Rows.newest, declared.row.Row.Row}
use Rattle.hlc_witness.specs.{Changes.answer_at, Cost.cost_of, declared.witness.Witness.Witness}
use Rattle.hlc_clock.specs.Points.{last_point}
use Rattle.hlc_table_column.specs.{Cells.Cell, Rows.row_of, Rows.rows_of}
use Rattle.hlc_vacuum_draft.specs.declared.draft.Draft.{Draft}
use Rattle.hlc_vacuum_draft.proofs.{SoFar.point_before, SoFar.AddedSoFar, Costs.cost-none, Drafts.draft-above}
use Rattle.hlc_vacuum_draft.proofs.Steps.{same_added, change_added, change_here, next_before, added_all, all_found}
use Rattle.hlc_vacuum_draft.proofs.Steps.{none_left}
use Rattle.hlc_vacuum_draft.proofs.Quiet.{IsQuiet, quiet_answer, quiet_on, quiet_from, quiet_first, quiet_rest}
use Rattle.hlc_vacuum_draft.proofs.Quiet.{before_below}
use Rattle.hlc_vacuum_draft.proofs.draft.Draft.add.Goals.{then-not-are_equal+in_ok-note+in_ok-count, else-not-are_equal}
use Rattle.hlc_vacuum_draft.proofs.draft.Draft.add.Goals as goal

-- marking a row does not change the number of flags
marked_length : (flags more : List Bool) (from : ℕ) (place : Option ℕ)
    → MatchOption place (more ≡ flags) (λ j. more ≡ set flags (from + j) true) → length more ≡ length flags
marked_length flags more from None e = ap length e
marked_length flags more from (Some j) e = ap length e ∙ length-set flags (from + j) true

abbrev Kept : List Row → List ℕ → List ℕ → ℕ → ℕ → Draft → Draft → Option ℕ → Option (List ℕ) → ℕ
    → (List Witness → Type 0) → Type 0
Kept rows key points i many old new before value_here next IsListed = record {
  long : length new.keep ≡ many;
  before : before ≡ point_before points i;
  value_here : value_here ≡ answer_at rows key (point_before points i);
  quiet : IsQuiet rows (point_before points i) next;
  found : List Witness;
  added : AddedSoFar rows key points i found old.changes new.changes old.keep new.keep old.bytes new.bytes;
  listed : IsListed found;
}

pub loop-point-init : goal.loop-point-init
loop-point-init g c =
    let column = c.args.column in
    let bound = last_point c.args.points.now in
    let above = map (λ s. ltb bound s) (map (λ (x : Cell). x.stamp) column) in
    let from : c.len-from.result ≡ length c.args.self.now.keep = search rules in
    let flags : c.add_flags.new.flags ≡ c.args.self.now.keep ++ above =
    c.in_ok-add_flags.ensures ∙ ap (λ ss. c.args.self.now.keep ++ map (λ s. ltb c.bits-last.result s) ss)
    c.stamps-stamps.ensures ∙ ap (λ b. c.args.self.now.keep
    ++ map (λ s. ltb b s) (map (λ (x : Cell). x.stamp) column)) (c.bits-last.ensures.value ∙ c.last_of.ensures) in
    let long : length above ≡ length column =
    length-map (map (λ (x : Cell). x.stamp) column) (λ s. ltb bound s) ∙ length-map column (λ (x : Cell). x.stamp) in
    record {
      long = ap length flags ∙ length-append c.args.self.now.keep above ∙ ap₂ (λ m n. m + n) (sym from) long;
      before = refl;
      value_here = refl;
      quiet = quiet_first c.args.key.now column c.stamps-stamps.result.now c.gap_end-next.result
          c.stamps-stamps.ensures c.gap_end-next.ensures;
      found = [];
      added = record {
        keep = above;
        news = omega arith;
        mores = flags;
        cost = cost-none (rows_of c.args.key.now column) c.args.self.now.bytes;
        so = record { rest = refl; draft = draft-above c.args.key.now bound column };
      };
      listed = g.met.C.Changes.none_added c.args.changes.now;
    }

-- no row is in the gap, so nothing changes at a point there
pub loop-point-preserved-then-bits-next : goal.loop-point-preserved-then-bits-next
loop-point-preserved-then-bits-next g c =
    let key = c.args.key.now in
    let points = c.args.points.now in
    let rows = rows_of key c.args.column in
    let i = c.loop-point.point-index in
    let inv = c.loop-point.invariant in
    let old = c.args.self.now in
    let on = c.loop-point.self in
    let p = c.point-item.result in
    let at : p ≡ get_or points i 0 = c.point-item.is ∙ get_or_default points i p 0 c.loop-point-test.true in
    let below : get_or points i 0 < c.loop-point.next =
    let bits = c.bits.ensures.value in let lt = c.if-bits-next.true in omega arith in
    let before = before_below points i i c.requires (omega arith) c.loop-point-test.true in
    let same : answer rows key (get_or points i 0) ≡ answer_at rows key (point_before points i) =
    quiet_answer rows key (point_before points i) c.loop-point.next (get_or points i 0) inv.quiet below before in
    record {
      long = inv.long;
      before = ap Some at ∙ sym (next_before points i);
      value_here = inv.value_here ∙ sym same ∙ ap (answer_at rows key) (sym (next_before points i));
      quiet = subst (λ b. IsQuiet rows b c.loop-point.next) (sym (next_before points i))
          (quiet_on rows (point_before points i) c.loop-point.next (get_or points i 0) inv.quiet before);
      found = inv.found;
      added = same_added rows key points i c.loop-point-test.true inv.found old.changes on.changes
          old.keep on.keep old.bytes on.bytes same inv.added;
      listed = inv.listed;
    }

-- no point is left after the gap
pub returns-then-last-next-clause-plan : goal.returns-then-last-next-clause-plan
returns-then-last-next-clause-plan g c =
    let points = c.args.points.now in
    let rows = rows_of c.args.key.now c.args.column in
    let i = c.loop-point.point-index in
    let inv = c.loop-point.invariant in
    let old = c.args.self.now in
    let on = c.loop-point.self in
    let past : last_point points < c.loop-point.next =
    let last = c.last_of.ensures in let bits = c.bits-last.ensures.value in let lt = c.if-last-next.true in
    omega arith in
    added_all rows c.args.key.now points i inv.found old.changes on.changes old.keep on.keep old.bytes
    on.bytes
    (all_found rows c.args.key.now points i inv.found inv.added.keep
    (quiet_rest rows c.args.key.now points i c.loop-point.next c.requires inv.quiet past) inv.added.so) inv.added

pub returns-then-last-next-clause-changes : goal.returns-then-last-next-clause-changes
returns-then-last-next-clause-changes g c =
    let points = c.args.points.now in
    let rows = rows_of c.args.key.now c.args.column in
    let i = c.loop-point.point-index in
    let inv = c.loop-point.invariant in
    let past : last_point points < c.loop-point.next =
    let last = c.last_of.ensures in let bits = c.bits-last.ensures.value in let lt = c.if-last-next.true in
    omega arith in
    subst (λ found. g.C.Changes.adds c.args.changes.now found c.loop-point.changes)
    (all_found rows c.args.key.now points i inv.found inv.added.keep
    (quiet_rest rows c.args.key.now points i c.loop-point.next c.requires inv.quiet past) inv.added.so) inv.listed

pub loop-point-preserved : goal.loop-point-preserved
loop-point-preserved g c =
    let column = c.args.column in
    let key = c.args.key.now in
    let points = c.args.points.now in
    let rows = rows_of key column in
    let i = c.loop-point.point-index in
    let inv = c.loop-point.invariant in
    let p = c.point-item.result in
    let old = c.args.self.now in
    let on = c.loop-point.self in
    let now = c.if-not-are_equal.self in
    let place = c.newest_on-place.result.0 in
    let from = c.len-from.result in
    let from_is : from ≡ length old.keep = search rules in
    let IsListed : List Witness → Type 0 = λ found. g.C.Changes.adds c.args.changes.now found
    c.if-not-are_equal.changes in
    let at : p ≡ get_or points i 0 = c.point-item.is ∙ get_or_default points i p 0 c.loop-point-test.true in
    let value_here : option_copied c.value_of-value_here.result ≡ answer rows key (get_or points i 0) =
    c.value_of-value_here.ensures key p c.newest_on-place.ensures.within (c.newest_on-place.ensures.newest key)
    ∙ ap (answer rows key) at in
    let quiet : IsQuiet rows (point_before points (i + 1)) c.gap_end-next-in-loop-point.result =
    subst (λ before. IsQuiet rows before c.gap_end-next-in-loop-point.result) (sym (next_before points i))
    (quiet_from key column c.stamps-stamps.result.now c.saturating_add-above.result c.gap_end-next-in-loop-point.result
    (get_or points i 0) c.stamps-stamps.ensures
    (let sum = c.saturating_add-above.ensures in let bits = c.bits-in-loop-point.ensures.value in omega arith)
    c.gap_end-next-in-loop-point.ensures) in
    let fields : (found : List Witness) → AddedSoFar rows key points (i + 1) found old.changes now.changes
    old.keep now.keep old.bytes now.bytes → IsListed found → length now.keep ≡ length on.keep
    → Kept rows key points (i + 1) (from + length column) old now (Some p) (option_copied c.value_of-value_here.result)
    c.gap_end-next-in-loop-point.result IsListed =
    λ found added listed long. record {
      long = long ∙ inv.long;
      before = ap Some at ∙ sym (next_before points i);
      value_here = value_here ∙ ap (answer_at rows key) (sym (next_before points i));
      quiet = quiet;
      found = found;
      added = added;
      listed = listed;
    } in
    elim c.if-not-are_equal.branch [
      | then-not-are_equal+in_ok-note+in_ok-count w ↦
          let counted = w.in_ok-count.ensures in
          let between = w.count.new.self.keep in
          let marks : MatchOption place (now.keep ≡ on.keep)
          (λ j. now.keep ≡ set on.keep (from + j) true) =
          subst (λ flags. MatchOption place (now.keep ≡ flags) (λ j. now.keep ≡ set flags (from + j) true))
          counted.keep
          (subst (λ flags. MatchOption place (flags ≡ between) (λ j. flags ≡ set between (from + j) true))
          (sym (ap (λ (draft : Draft). draft.keep) w.self-is)) w.mark.ensures) in
          let here = change_here rows key points i c.loop-point-test.true in
          let noted : record { key = key; before = c.loop-point.before; at = p } ≡ here =
          ap₂ (λ (b : Option ℕ) (q : ℕ). record { key = key; before = b; at = q }) inv.before at in
          fields (inv.found ++ here ∷ [])
          (change_added rows key points i c.loop-point-test.true inv.found old.changes on.changes
          now.changes old.keep on.keep now.keep old.bytes on.bytes now.bytes place
          (λ e. true≢false (sym (c.are_equal.ensures.1 (value_here ∙ e ∙ sym inv.value_here))
          ∙ w.if-not-are_equal.true))
          (subst (λ n. IfSome place (λ j. j < n)) (sym (length-map column (row_of key)))
          c.newest_on-place.ensures.within)
          (c.newest_on-place.ensures.newest key ∙ ap (newest rows key) at)
          (ap (λ (draft : Draft). draft.changes) w.self-is ∙ counted.changes)
          (subst (λ n. MatchOption place (now.keep ≡ on.keep)
          (λ j. now.keep ≡ set on.keep (n + j) true)) from_is marks)
          (ap (λ (draft : Draft). draft.bytes) w.self-is ∙ counted.bytes
          ∙ ap (λ n. on.bytes + n) (w.cost_of.ensures.cost ∙ ap (cost_of key) value_here))
          inv.added)
          (subst (λ changes. g.C.Changes.adds c.args.changes.now (inv.found ++ here ∷ []) changes) (sym w.changes-is)
          (g.met.C.Changes.both_added c.args.changes.now c.loop-point.changes w.note.new.self inv.found (here ∷ [])
          inv.listed
          (subst (λ change. g.C.Changes.adds c.loop-point.changes (change ∷ []) w.note.new.self) noted
          w.in_ok-note.ensures)))
          (marked_length on.keep now.keep from place marks)
      | else-not-are_equal w ↦
          fields inv.found
          (subst (λ (draft : Draft). AddedSoFar rows key points (i + 1) inv.found old.changes draft.changes
          old.keep draft.keep old.bytes draft.bytes) (sym w.self-is)
          (same_added rows key points i c.loop-point-test.true inv.found old.changes on.changes
          old.keep on.keep old.bytes on.bytes
          (sym value_here ∙ c.are_equal.ensures.0 w.if-not-are_equal.false ∙ inv.value_here) inv.added))
          (subst (λ changes. g.C.Changes.adds c.args.changes.now inv.found changes) (sym w.changes-is) inv.listed)
          (ap (λ (draft : Draft). length draft.keep) w.self-is)
    ]

pub returns-clause-plan : goal.returns-clause-plan
returns-clause-plan g c =
    let points = c.args.points.now in
    let rows = rows_of c.args.key.now c.args.column in
    let i = c.loop-point.point-index in
    let inv = c.loop-point.invariant in
    let old = c.args.self.now in
    let on = c.loop-point.self in
    added_all rows c.args.key.now points i inv.found old.changes on.changes old.keep on.keep old.bytes
    on.bytes
    (all_found rows c.args.key.now points i inv.found inv.added.keep
    (none_left rows c.args.key.now points i c.loop-point-test.false) inv.added.so) inv.added

pub returns-clause-changes : goal.returns-clause-changes
returns-clause-changes g c =
    let points = c.args.points.now in
    let rows = rows_of c.args.key.now c.args.column in
    let i = c.loop-point.point-index in
    let inv = c.loop-point.invariant in
    subst (λ found. g.C.Changes.adds c.args.changes.now found c.loop-point.changes)
    (all_found rows c.args.key.now points i inv.found inv.added.keep
    (none_left rows c.args.key.now points i c.loop-point-test.false) inv.added.so) inv.listed
