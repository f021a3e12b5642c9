use Rattle.std.proofs.Common.{◌≡◌, ℕ, suc, List, ap, sym, subst, ◌∙◌}
use Rattle.std.specs.Option.{option_copied}
use Rattle.std.specs.List.{AllByRecursion}
use Rattle.gd_model.specs.Whole.{WholeFor}
use Rattle.gd_containers.proofs.Whole.{not_none, array_lies}
use Rattle.gd_containers.proofs.found.array_of.Goals as goal

pub unreachable-requires : goal.unreachable-requires
unreachable-requires g c = not_none _ (sym c.array.ensures ∙ ap option_copied c.in-None.is) ((c.requires.whole 1).0)

pub returns-clause-inside : goal.returns-clause-inside
returns-clause-inside g c n =
    subst (AllByRecursion (WholeFor (g.K.Look.things c.args.look.now) (g.K.Look.names c.args.look.now) n))
    (array_lies _ _ (sym c.array.ensures ∙ ap option_copied c.in-Some.is)) ((c.requires.whole (suc n)).1)
