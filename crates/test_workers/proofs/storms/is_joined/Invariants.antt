-- The ledger is the one that the blank was made for.
use Rattle.test_workers.proofs.storms.is_joined.Given as goal

abbrev pub ghosts-join_new : goal.ghosts-join_new
ghosts-join_new g a = record { name = a.blank.name; parts = a.blank.parts }
