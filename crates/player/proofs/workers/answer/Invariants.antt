-- The ledger of the store is the one that the blank names.
use Rattle.player.proofs.workers.answer.Given as goal

abbrev pub ghosts-answer_in : goal.ghosts-answer_in
ghosts-answer_in g a = record { name = a.blank.name; parts = a.blank.parts }
