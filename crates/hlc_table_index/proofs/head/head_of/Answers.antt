-- Eight bytes, and eight others after them.
use Rattle.std.proofs.Common.{◌∙◌, ◌-◌, ap, arith, length, drop, take_all, length-drop}
use Rattle.hlc_table_index.{specs.Head.head_upto, proofs.Heads.head_one, proofs.Heads.head_two}
use Rattle.hlc_table_index.proofs.head.head_of.Goals as goal

pub returns-then-key-le8-clause-value : goal.returns-then-key-le8-clause-value
returns-then-key-le8-clause-value c =
    head_one c.args.key.now c.first_eight-front.result c.first_eight-front.ensures.value c.if-key-le8.true

pub returns-clause-value : goal.returns-clause-value
returns-clause-value c =
    head_two c.args.key.now c.first_eight-front.result c.first_eight-back.result c.first_eight-front.ensures.value
    (c.first_eight-back.ensures.value ∙ ap (head_upto 8) (take_all (length c.args.key.now - 8) (drop 8 c.args.key.now)
    (let m = length-drop 8 c.args.key.now in omega (arith, m))))
