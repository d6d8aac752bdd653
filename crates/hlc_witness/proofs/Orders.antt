-- The orders of changes and of rows are total.
use Rattle.std.specs.Cmp.{IsTotalOrder}
use Rattle.std.proofs.lemmas.Cmp.{nat_cmp_total, nat_list_cmp_total, on_total, then_total}
use Rattle.hlc_rows.specs.declared.row.Row.{Row}
use Rattle.hlc_witness.specs.{Certificate.row_cmp, Changes.change_cmp, declared.witness.Witness.Witness}

pub change_cmp_total : IsTotalOrder change_cmp
change_cmp_total =
    then_total (on_total (λ (c : Witness). c.key) nat_list_cmp_total) (on_total (λ (c : Witness). c.at) nat_cmp_total)

pub row_cmp_total : IsTotalOrder row_cmp
row_cmp_total = then_total (on_total (λ (row : Row). row.key) nat_list_cmp_total)
    (then_total (on_total (λ (row : Row). row.stamp) nat_cmp_total) (on_total (λ (row : Row). row.node) nat_cmp_total))
