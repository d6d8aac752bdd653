-- The name and the parts of the blank ledger.
use Rattle.test_shared.proofs.threads.four_threads.Given as goal

abbrev pub ghosts-by_four : goal.ghosts-by_four
ghosts-by_four g a = record { name = a.blank.name; parts = a.blank.parts }
