use Rattle.std.proofs.Common.{sym, subst}
use Rattle.std.specs.List.{AllByRecursion}
use Rattle.gd_model.specs.Whole.{WholeFor}
use Rattle.gd_builtins.proofs.text_methods.join_list.Goals as goal

pub joined-requires : goal.joined-requires
joined-requires g c =
    record { whole = λ n. subst (AllByRecursion (WholeFor (g.K.Look.things c.args.look.now) (g.K.Look.names c.args.look.now) n)) (sym c.items.ensures) (c.array_of.ensures.inside n) }
