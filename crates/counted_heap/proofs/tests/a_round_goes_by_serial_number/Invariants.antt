use Rattle.counted_heap.proofs.tests.a_round_goes_by_serial_number.Given as goal

abbrev pub ghosts-run : goal.ghosts-run
ghosts-run g a = record { name = a.blank.name; parts = a.blank.parts }
