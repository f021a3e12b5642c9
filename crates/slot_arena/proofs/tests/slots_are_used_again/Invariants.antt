use Rattle.slot_arena.proofs.tests.slots_are_used_again.Given as goal

abbrev pub ghosts-use_again : goal.ghosts-use_again
ghosts-use_again g a = record { name = a.blank.name; parts = a.blank.parts }
