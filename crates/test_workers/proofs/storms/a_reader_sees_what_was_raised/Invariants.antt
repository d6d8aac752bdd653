-- The ledger is the one that the blank was made for.
use Rattle.test_workers.proofs.storms.a_reader_sees_what_was_raised.Given as goal

abbrev pub ghosts-opens_last : goal.ghosts-opens_last
ghosts-opens_last g a = record { name = a.blank.name; parts = a.blank.parts }
