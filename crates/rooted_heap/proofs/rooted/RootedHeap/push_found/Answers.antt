use Rattle.rooted_heap.proofs.rooted.RootedHeap.push_found.Goals as goal

pub push_held-requires-clause-held : goal.push_held-requires-clause-held
push_held-requires-clause-held c = c.requires.held c.in-Some.value c.in-Some.is
