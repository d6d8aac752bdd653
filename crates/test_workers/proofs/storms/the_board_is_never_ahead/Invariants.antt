-- The ledger is the one that the blank was made for.
use Rattle.test_workers.proofs.storms.the_board_is_never_ahead.Given as goal

abbrev pub ghosts-calls_of_storm : goal.ghosts-calls_of_storm
ghosts-calls_of_storm g a = record { name = a.blank.name; parts = a.blank.parts }
