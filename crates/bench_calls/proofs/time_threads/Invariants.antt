-- The ledger is the one that the blank was made for.
use Rattle.bench_calls.proofs.time_threads.Given as goal

abbrev pub ghosts-time_in_store : goal.ghosts-time_in_store
ghosts-time_in_store g a = record { name = a.blank.name; parts = a.blank.parts }
