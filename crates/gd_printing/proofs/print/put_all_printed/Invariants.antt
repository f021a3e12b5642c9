use Rattle.std.proofs.Common.{◌≡◌, ◌++◌, map, drop}
use Rattle.gd_model.specs.Meant.{datum}
use Rattle.value_semantics.specs.Printed.{more_forms, all_forms, printed}
use Rattle.gd_printing.proofs.print.put_all_printed.Given as goal

-- what was put and the forms that are left make the whole
abbrev pub invariant-loop-v : goal.invariant-loop-v
invariant-loop-v g l =
    let F = printed (g.K.Look.store l.look) (g.K.Look.names l.look) in
    l.out.items ++ more_forms l.between (map F (map datum (drop l.v-index l.rest))) ≡ l.fn.out.items ++ all_forms l.between (map F (map datum l.values))
