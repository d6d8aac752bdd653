-- One more key.
use Rattle.std.proofs.Common.{◌∙◌, ◌++◌, ap, sym, map, Bor, List, ℕ, append-nil}
use Rattle.hlc_table_index.specs.Entries.{keys_in}
use Rattle.hlc_columns.specs.Answers.{entries_left}
use Rattle.hlc_columns.proofs.{Ranged.all_lead, WalkLemmas.Entry, WalkLemmas.name_next, WalkLemmas.all_from_first}
use Rattle.hlc_columns.proofs.walks.list_keys.Goals as goal

pub loop-entry-init : goal.loop-entry-init
loop-entry-init c =
    let all = c.from_slot-walk.ensures.exact ∙ all_lead _ ∙ all_from_first c.args.columns.now in
    rw c.new-keys.ensures.items (ap (λ (es : List Entry). keys_in es) all)

pub loop-entry-preserved : goal.loop-entry-preserved
loop-entry-preserved c =
    name_next c.loop-entry.keys.items c.push.new.self.items c.as_slice.result (entries_left c.loop-entry.walk)
    (entries_left c.next.new.self) c.in-Some.entry.now _ c.in-Some.ensures c.in_ok-push.ensures.items
    c.as_slice.ensures c.loop-entry.invariant

pub returns-clause-list : goal.returns-clause-list
returns-clause-list c =
    let listed = map (λ (key : Bor (List ℕ)). key.now) c.loop-entry.keys.items in
    sym (append-nil listed) ∙ ap (λ (es : List Entry). listed ++ keys_in es) (sym c.in_default.ensures.0)
    ∙ c.loop-entry.invariant
