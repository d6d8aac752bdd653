-- The ledger is the one that the blank was made for.
use Rattle.test_workers.proofs.feeds.fed_new.Given as goal

abbrev pub ghosts-fed : goal.ghosts-fed
ghosts-fed g a = record { name = a.blank.name; parts = a.blank.parts }
