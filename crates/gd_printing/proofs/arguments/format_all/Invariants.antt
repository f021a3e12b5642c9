use Rattle.std.proofs.Common.{map, take}
use Rattle.gd_model.specs.Meant.{datum}
use Rattle.value_semantics.specs.Formatting.{argument}
use Rattle.gd_printing.specs.Arguments.{AllStand}
use Rattle.gd_printing.proofs.arguments.format_all.Given as goal

-- the arguments of the elements so far
abbrev pub invariant-loop-item : goal.invariant-loop-item
invariant-loop-item g l = AllStand (map (argument (g.K.Look.store l.look) (g.K.Look.names l.look)) (map datum (take l.item-index l.items))) l.args.list.items l.args.too_long
