-- The remaining rows are those that the plan chose among the rows that were there.
use Rattle.std.proofs.Common.{◌≡◌, ◌∙◌, length, ap, count_by, not, sym}
use Rattle.std.specs.List.{items_where_true}
use Rattle.hlc_clock.specs.Points.{last_point}
use Rattle.hlc_vacuum_draft.specs.{Plan.TallyView, declared.report.Numbers.Numbers}
use Rattle.hlc_vacuum_draft.proofs.ChosenLemmas.{length_chosen}
use Rattle.hlc_vacuum_draft.proofs.VacuumLemmas.{vacuums_keep_fewest, vacuums_keep_cheapest}
use Rattle.hlc_vacuum.proofs.applying.apply_tally.Goals.{After-drop_rows}
use Rattle.hlc_vacuum.proofs.applying.apply_tally.Goals as goal

rows_left : (c : After-drop_rows)
    → c.drop_rows.new.table ≡ items_where_true c.requires.plan.keep c.args.table.now
rows_left c =
    c.drop_rows.ensures ∙ ap (λ flags. items_where_true flags c.args.table.now)
    (c.flags.ensures ∙ ap (λ (tally : TallyView). tally.keep) (c.tally.view_is ∙ c.requires.is))

floor_is : (c : After-drop_rows) → c.numbers-numbers.result.floor ≡ last_point c.requires.plan.points
floor_is c =
    ap (λ (numbers : Numbers). numbers.floor) c.numbers-numbers.ensures
    ∙ ap (λ (tally : TallyView). last_point tally.points) c.requires.is

pub returns-clause-dropped : goal.returns-clause-dropped
returns-clause-dropped c =
    let left = ap length (rows_left c) in
    let dropped : c.numbers-numbers.result.dropped ≡ count_by not c.requires.plan.keep =
    ap (λ (numbers : Numbers). numbers.dropped) c.numbers-numbers.ensures
    ∙ ap (λ (tally : TallyView). count_by not tally.keep) c.requires.is in
    rw (left, dropped) (length_chosen c.requires.plan.keep c.args.table.now c.requires.made.each)

pub returns-clause-fewest : goal.returns-clause-fewest
returns-clause-fewest c =
    let plan = c.requires.plan in
    let made = c.requires.made in
    rw (rows_left c, floor_is c, ap (λ (tally : TallyView). tally.points) c.requires.is)
    (vacuums_keep_fewest c.args.table.now (items_where_true plan.keep c.args.table.now)
    plan.points plan.witnesses made.ascend made.vacuumed)

pub returns-clause-cheapest : goal.returns-clause-cheapest
returns-clause-cheapest c =
    let plan = c.requires.plan in
    let made = c.requires.made in
    rw (rows_left c, floor_is c, ap (λ (tally : TallyView). tally.points) c.requires.is)
    (vacuums_keep_cheapest c.args.table.now (items_where_true plan.keep c.args.table.now)
    plan.points plan.witnesses made.ascend made.vacuumed)

pub returns-clause-kept : goal.returns-clause-kept
returns-clause-kept c =
    let kept : c.numbers-numbers.result.kept ≡ length c.requires.plan.witnesses =
    ap (λ (numbers : Numbers). numbers.kept) c.numbers-numbers.ensures
    ∙ ap (λ (tally : TallyView). tally.kept) c.requires.is in
    rw (rows_left c, floor_is c, kept) (sym c.requires.made.vacuumed.count)

pub returns-clause-bytes : goal.returns-clause-bytes
returns-clause-bytes c =
    let bytes : c.numbers-numbers.result.bytes ≡ c.requires.plan.bytes =
    ap (λ (numbers : Numbers). numbers.bytes) c.numbers-numbers.ensures
    ∙ ap (λ (tally : TallyView). tally.bytes) c.requires.is in
    rw (rows_left c, floor_is c, bytes) c.requires.made.cost
