-- The parts add up to the whole.
use Rattle.std.{proofs.Common.ap, proofs.Common.◌∙◌, proofs.Common.length, proofs.Common.List, specs.List.flat_map}
use Rattle.hlc_rows.specs.declared.row.Row.{Row}
use Rattle.hlc_body.specs.Spelling.{Preamble, row_bytes, preamble_bytes}
use Rattle.hlc_saved.proofs.Sizes.{all_take, some_iff}
use Rattle.hlc_saved.proofs.size.checkpoint_size.Goals as goal

pub returns-clause-size : goal.returns-clause-size
returns-clause-size c =
    some_iff c.checked_add.result _ _
    (all_take c.args.checkpoint.now c.in_ok-rows.rows c.preamble_size.result
    (c.in_ok-rows.ensures.size.1 ∙ ap (λ (rows : List Row). length (flat_map row_bytes rows)) c.rows.ensures)
    (c.preamble_size.ensures.size ∙ ap (λ (p : Preamble). length (preamble_bytes p)) c.of-preamble.ensures))
    c.checked_add.ensures
