use Rattle.slot_arena.proofs.tests.values_are_written.Given as goal

abbrev pub ghosts-write_and_keep : goal.ghosts-write_and_keep
ghosts-write_and_keep g a = record { name = a.blank.name; parts = a.blank.parts }
