-- The ledger is the one that the blank was made for.
use Rattle.test_workers.proofs.joins.a_round_above_the_floor.Given as goal

abbrev pub ghosts-by_three : goal.ghosts-by_three
ghosts-by_three g a = record { name = a.blank.name; parts = a.blank.parts }
