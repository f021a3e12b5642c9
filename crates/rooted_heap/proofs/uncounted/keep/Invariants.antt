use Rattle.rooted_heap.proofs.uncounted.keep.Given as goal

abbrev pub ghosts-keep_in : goal.ghosts-keep_in
ghosts-keep_in a = record { name = a.blank.name; parts = a.blank.parts }
