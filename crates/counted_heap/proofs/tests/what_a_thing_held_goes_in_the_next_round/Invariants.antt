use Rattle.counted_heap.proofs.tests.what_a_thing_held_goes_in_the_next_round.Given as goal

abbrev pub ghosts-run : goal.ghosts-run
ghosts-run g a = record { name = a.blank.name; parts = a.blank.parts }
