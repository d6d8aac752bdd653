-- The ledger of the store is the one that the blank names.
use Rattle.player.proofs.desk.play_desk.Given as goal

abbrev pub ghosts-play_in : goal.ghosts-play_in
ghosts-play_in g a = record { name = a.blank.name; parts = a.blank.parts }
