use Rattle.rooted_heap.proofs.uncounted.make.Given as goal

abbrev pub ghosts-make_in : goal.ghosts-make_in
ghosts-make_in a = record { name = a.blank.name; parts = a.blank.parts }
