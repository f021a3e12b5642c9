use Rattle.std.proofs.Common.{◌≡◌, ◌++◌, take}
use Rattle.gd_operators.proofs.joining.push_all.Given as goal

-- the array has got the elements so far
abbrev pub invariant-loop-item : goal.invariant-loop-item
invariant-loop-item l = l.array ≡ record l.fn.array { items = l.fn.array.items ++ take l.item-index l.items }
