use Rattle.std.proofs.Common.{◌≡◌, ◌++◌, take, get_or}
use Rattle.gd_model.specs.declared.value.Value.TheVariants as v
use Rattle.rooted_heap.specs.Reading.{dict_handle, keys_at}
use Rattle.rooted_heap.proofs.rooted.RootedHeap.push_keys.Given as goal

abbrev pub invariant-loop-j : goal.invariant-loop-j
invariant-loop-j l = l.self ≡ record l.initial.self { values = l.initial.self.values ++ take l.j (keys_at l.initial.self.things (dict_handle (get_or l.initial.self.values l.i v.Nil))) }
