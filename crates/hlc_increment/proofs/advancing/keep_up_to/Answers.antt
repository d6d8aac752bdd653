-- The closure compares a row's stamp.
use Rattle.std.proofs.{Common.leb, Common.rules, lemmas.Fn.filter_same}
use Rattle.hlc_rows.specs.declared.row.Row.{Row}
use Rattle.hlc_increment.proofs.advancing.keep_up_to.Goals as goal

pub returns : goal.returns
returns c = filter_same _ (λ (row : Row). leb row.stamp c.args.since) _ (λ x b f' k. search rules) _ _
    c.retain.ensures.filtered
