use Rattle.counted_heap.proofs.tests.a_key_holds_an_object.Given as goal

abbrev pub ghosts-run : goal.ghosts-run
ghosts-run g a = record { name = a.blank.name; parts = a.blank.parts }
