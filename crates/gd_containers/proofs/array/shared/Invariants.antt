use Rattle.std.proofs.Common.{◌≡◌, take}
use Rattle.gd_containers.proofs.array.shared.Given as goal

abbrev pub invariant-loop-item : goal.invariant-loop-item
invariant-loop-item l = l.all.items ≡ take l.item-index l.items
