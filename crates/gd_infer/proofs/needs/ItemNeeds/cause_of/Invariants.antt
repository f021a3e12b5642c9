use Rattle.std.proofs.Common.{◌≡◌, true, take}
use Rattle.std.specs.List.{All, Contains}
use Rattle.gd_infer.specs.Needs.{is_item, settled_in}
use Rattle.gd_infer.proofs.needs.ItemNeeds.cause_of.Given as goal

abbrev pub invariant-loop-next : goal.invariant-loop-next
invariant-loop-next l = All (λ item. is_item l.self item ≡ true → Contains (settled_in l.progress).typed item) (take l.next-index l.row)
