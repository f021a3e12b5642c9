use Rattle.counted_heap.proofs.tests.a_thing_is_written.Given as goal

abbrev pub ghosts-write_and_keep : goal.ghosts-write_and_keep
ghosts-write_and_keep g a = record { name = a.blank.name; parts = a.blank.parts }
