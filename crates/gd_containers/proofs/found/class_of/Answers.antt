use Rattle.std.proofs.Common.{◌≡◌, ap, sym, ◌∙◌}
use Rattle.std.specs.Prelude.{option_and_then}
use Rattle.gd_containers.proofs.Whole.{not_none}
use Rattle.gd_containers.proofs.found.class_of.Goals as goal

pub unreachable-requires : goal.unreachable-requires
unreachable-requires g c =
    not_none _ (ap (option_and_then (g.K.Look.names c.args.look.now)) (sym c.class_of.ensures ∙ c.in-None.is)) ((c.requires.whole 1).0)
