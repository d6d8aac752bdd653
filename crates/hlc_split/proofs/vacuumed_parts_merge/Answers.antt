-- Each part answers at its keys as the whole does, and has its links and snapshots.
use Rattle.hlc_split.proofs.Onward.{own-parts_merge, both-rows, own-answers}
use Rattle.hlc_split.proofs.vacuumed_parts_merge.Goals as goal

pub returns-clause-merged : goal.returns-clause-merged
returns-clause-merged c = own-parts_merge

pub returns-clause-answers : goal.returns-clause-answers
returns-clause-answers c = λ left right past own_left own_right is_of key stamp legal is_left is_right l r same high.
    (both-rows left right past own_left own_right is_of legal is_left is_right l r same).from_horizon key stamp high

pub returns-clause-part : goal.returns-clause-part
returns-clause-part c = λ part past own is_of key stamp is h of_kind high.
    own-answers is_of part past own key stamp is h of_kind high
