-- There are as many rows at or below the bound as stamps: those of the index, and those after it, which the kernel
-- counts.
use Rattle.std.proofs.Common.{◌≡◌, ◌∙◌, ℕ, ap, sym, map, length, drop, leb}
use Rattle.std.{specs.List.count_by, proofs.lemmas.List.take_rest, proofs.lemmas.List.Sums.length-filter}
use Rattle.hlc_table_column.{specs.Cells.Cell, proofs.Beside.rows_within, proofs.Beside.stamps_of_cells}
use Rattle.hlc_table_order.proofs.CountLemmas.{counted_all}
use Rattle.hlc_table_column.proofs.lanes.Lanes.count_at.Goals as goal

pub returns : goal.returns
returns c = λ key.
    let stamps = c.self.inside.stamps.now in
    let places = length c.self.inside.order.now in
    let below = λ (s : ℕ). leb s c.bits-bound.result in
    let rest : c.count_at.result ≡ count_by below (drop places stamps) = c.count_at.ensures
    ∙ ap (count_by below) (take_rest stamps places) in
    counted_all below stamps places c.count_indexed-first.result c.count_at.result
    c.count_indexed-first.ensures.count rest ∙ ap (count_by below) (stamps_of_cells _ _ _ c.self.invariant.0
    ∙ ap (map (λ (cell : Cell). cell.stamp)) c.self.view_is)
    ∙ ap (λ b. count_by (λ s. leb s b) (map (λ (cell : Cell). cell.stamp) c.args.self.now)) c.bits-bound.ensures.value
    ∙ sym (length-filter (λ s. leb s c.args.bound) (map (λ (cell : Cell). cell.stamp) c.args.self.now))
    ∙ sym (rows_within c.args.bound key c.args.self.now)
