-- The name and the parts of the blank ledger.
use Rattle.test_shared.proofs.threads.four_threads_without_a_trail.Given as goal

abbrev pub ghosts-by_four_alone : goal.ghosts-by_four_alone
ghosts-by_four_alone g a = record { name = a.blank.name; parts = a.blank.parts }
