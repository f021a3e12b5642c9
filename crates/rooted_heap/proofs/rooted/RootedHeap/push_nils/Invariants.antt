use Rattle.std.proofs.Common.{◌≡◌, ◌++◌, replicate}
use Rattle.gd_model.specs.declared.value.Value.TheVariants as v
use Rattle.rooted_heap.proofs.rooted.RootedHeap.push_nils.Given as goal

abbrev pub invariant-pushes : goal.invariant-pushes
invariant-pushes l = l.self ≡ record l.initial.self { values = l.initial.self.values ++ replicate l.counter v.Nil }
