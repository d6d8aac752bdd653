-- The new entry goes to its position among all entries, in whatever leaf it is stored.
use Rattle.std.proofs.Common.{◌≡◌, ◌-◌, ◌+◌, ◌<◌, ◌∙◌, ap, arith, sym, subst, [], false, length, get_or, take, List, ℕ}
use Rattle.std.proofs.Common.{inl, inr}
use Rattle.std.proofs.lemmas.Result.{on_ok_weaker, on_err_weaker}
use Rattle.hlc_table_index.specs.Entries.{keys_in, entries_in, IsGap, IsSlot}
use Rattle.hlc_table_index.proofs.Places.{slot_empty, slot_end, grown, grown_ascend, pushed, end_place, with_is}
use Rattle.hlc_table_index.proofs.index.Index.insert_at.{Given.Over, Goals.After-is_full_end}
use Rattle.hlc_table_index.proofs.index.Index.insert_at.Goals as goal

-- the first entry of all
pub invariant_of-self : goal.invariant_of-self
invariant_of-self g c =
    grown_ascend c.self.inside.leaves c.push.new.self c.args.key c.args.value (length (entries_in c.self.inside.leaves))
    c.push.result
    c.self.invariant (slot_empty c.self.inside.leaves c.args.key (sym c.len.ensures ∙ c.if-len-eq0.true))
    (on_ok_weaker c.push.result (pushed c.self.inside.leaves c.push.new.self (c.args.key, c.args.value))
    c.push.ensures.ok)
    (on_err_weaker c.push.result (ap entries_in) c.push.ensures.unchanged)

-- the place among all entries
module _ (g : Over) (c : After-is_full_end g) where
  abbrev leaves : List (List (List ℕ × g.row.V.Denot))
  leaves = c.self.inside.leaves

  gap : IsGap leaves c.args.key c.args.at c.args.slot
  gap = subst (λ l. IsGap l c.args.key c.args.at c.args.slot) (sym c.self.view_is) c.requires

  inside : c.args.at < length leaves
  inside = elim gap.0 [
    | inl less ↦ less
    | inr none ↦
        let some = c.if-len-eq0.false in
        let long = c.len.ensures in
        let empty = ap length none in
        absurd (omega (arith, some, long, empty))
  ]

  abbrev place : ℕ
  place = length (entries_in (take c.args.at leaves)) + c.args.slot

  at_end : length leaves ≡ c.args.at + 1 → c.args.slot ≡ length (get_or leaves c.args.at [])
      → place ≡ length (entries_in leaves)
  at_end last end =
      let back : c.args.at + 1 - 1 ≡ c.args.at = omega arith in
      subst (λ n. length (entries_in (take n leaves)) + c.args.slot ≡ length (entries_in leaves)) back
      (end_place leaves (c.args.at + 1) c.args.slot (get_or leaves c.args.at []) (λ none. omega (arith, none))
      (sym last) (ap (λ n. get_or leaves n []) (sym back)) end)

  after_all : length leaves ≡ c.args.at + 1 → c.args.slot ≡ length (get_or leaves c.args.at [])
      → IsSlot (keys_in (entries_in leaves)) c.args.key (length (entries_in leaves)) false
  after_all last end = slot_end leaves c.args.key place (length (entries_in leaves)) (at_end last end) gap.2

pub invariant_of-self-2 : goal.invariant_of-self-2
invariant_of-self-2 g c =
    let at = (goal.at.invariant_of-self-2 g c).After-is_full_end in
    grown_ascend c.self.inside.leaves c.put.new.self c.args.key c.args.value (place g at) c.put.result
    c.self.invariant (gap g at).2
    (on_ok_weaker c.put.result (λ e. e ∙ with_is c.self.inside.leaves c.args.at c.args.slot (c.args.key, c.args.value)
    (inside g at) (gap g at).1) c.put.ensures.ok)
    c.put.ensures.unchanged

pub returns-clause-ok : goal.returns-clause-ok
returns-clause-ok g c =
    let at = (goal.at.returns-clause-ok g c).After-is_full_end in
    on_ok_weaker c.put.result (λ e. grown c.self.inside.leaves c.put.new.self (entries_in c.args.self.now)
    c.args.key c.args.value (place g at)
    c.self.invariant (ap entries_in c.self.view_is) (gap g at).2
    (e ∙ with_is c.self.inside.leaves c.args.at c.args.slot (c.args.key, c.args.value) (inside g at) (gap g at).1))
    c.put.ensures.ok

-- after all others
pub invariant_of-self-then-is_full_end : goal.invariant_of-self-then-is_full_end
invariant_of-self-then-is_full_end g c =
    let at = (goal.at.invariant_of-self-then-is_full_end g c).After-is_full_end in
    grown_ascend c.self.inside.leaves c.push-then-is_full_end.new.self c.args.key c.args.value (length (entries_in
    c.self.inside.leaves))
    c.push-then-is_full_end.result c.self.invariant
    (after_all g at (c.is_full_end.ensures.last c.if-is_full_end.true)
    (c.is_full_end.ensures.end c.if-is_full_end.true))
    (on_ok_weaker c.push-then-is_full_end.result
    (pushed c.self.inside.leaves c.push-then-is_full_end.new.self (c.args.key, c.args.value))
    c.push-then-is_full_end.ensures.ok)
    (on_err_weaker c.push-then-is_full_end.result (ap entries_in) c.push-then-is_full_end.ensures.unchanged)

pub returns-then-is_full_end-clause-ok : goal.returns-then-is_full_end-clause-ok
returns-then-is_full_end-clause-ok g c =
    let at = (goal.at.returns-then-is_full_end-clause-ok g c).After-is_full_end in
    on_ok_weaker c.push-then-is_full_end.result
    (λ e. grown c.self.inside.leaves c.push-then-is_full_end.new.self (entries_in c.args.self.now) c.args.key
    c.args.value (length (entries_in c.self.inside.leaves))
    c.self.invariant (ap entries_in c.self.view_is)
    (after_all g at (c.is_full_end.ensures.last c.if-is_full_end.true)
    (c.is_full_end.ensures.end c.if-is_full_end.true))
    (pushed c.self.inside.leaves c.push-then-is_full_end.new.self (c.args.key, c.args.value) e))
    c.push-then-is_full_end.ensures.ok
