use Rattle.std.proofs.Common.{List, sym, subst}
use Rattle.gd_model.specs.declared.value.Value.{Value}
use Rattle.gd_model.specs.Whole.{AllWhole}
use Rattle.container_methods.proofs.arrays.joined.Goals as goal

pub all_fit-requires : goal.all_fit-requires
all_fit-requires g c = record { whole = subst (λ (xs : List Value). AllWhole (g.K.Look.things c.args.look.now) (g.K.Look.names c.args.look.now) xs) (sym c.items.ensures) c.requires.whole }
