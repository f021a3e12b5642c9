use Rattle.std.proofs.Common.{◌≡◌, ◌-◌, ◌++◌, replicate, take, drop}
use Rattle.gd_model.specs.declared.value.Value.TheVariants as v
use Rattle.rooted_heap.proofs.rooted.RootedHeap.clear.Given as goal

abbrev pub invariant-loop-i : goal.invariant-loop-i
invariant-loop-i l = l.self ≡ record l.initial.self { values = take l.from l.initial.self.values ++ replicate (l.i - l.from) v.Nil ++ drop l.i l.initial.self.values }
