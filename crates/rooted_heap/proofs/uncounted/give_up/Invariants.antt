use Rattle.rooted_heap.proofs.uncounted.give_up.Given as goal

abbrev pub ghosts-give_up_in : goal.ghosts-give_up_in
ghosts-give_up_in a = record { name = a.blank.name; parts = a.blank.parts }
