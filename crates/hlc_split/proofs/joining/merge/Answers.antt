-- The keys are divided, so each is answered as by its side. The horizons are one, so both parts were vacuumed to it.
use Rattle.std.proofs.{Common.◌≡◌, Common.◌++◌, Common.rules, lemmas.Grind.common_steps}
use Rattle.hlc_core.specs.StoreView.{with_rows}
use Rattle.hlc_split.specs.Merge.{AreJoinable}
use Rattle.hlc_split.proofs.{Onward.own_merged_represents, Sides.merged_answers, Sides.merged_is_checkpoint}
use Rattle.hlc_split.proofs.joining.merge.Goals as goal

pub returns-clause-answers : goal.returns-clause-answers
returns-clause-answers c = λ key stamp.
    let made : c.of.result
    ≡ with_rows c.args.left (c.args.left.rows ++ c.args.right.rows) = search rules in
    let fit : AreJoinable c.args.left c.args.right = search (rules, common_steps) in
    merged_answers c.args.left c.args.right c.of.result key stamp made fit

pub returns-clause-checkpoint : goal.returns-clause-checkpoint
returns-clause-checkpoint c = λ l r.
    let made : c.of.result
    ≡ with_rows c.args.left (c.args.left.rows ++ c.args.right.rows) = search rules in
    let fit : AreJoinable c.args.left c.args.right = search (rules, common_steps) in
    merged_is_checkpoint c.args.left c.args.right c.of.result made fit l r

pub returns-clause-vacuumed : goal.returns-clause-vacuumed
returns-clause-vacuumed c = λ past own_left own_right is_of legal is_left is_right l r.
    let made : c.of.result
    ≡ with_rows c.args.left (c.args.left.rows ++ c.args.right.rows) = search rules in
    let same : c.args.left.horizon ≡ c.args.right.horizon = search rules in
    own_merged_represents c.args.left c.args.right c.of.result past own_left own_right is_of made same legal is_left
    is_right l r
