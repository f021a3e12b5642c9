use Rattle.std.proofs.Common.{◌≡◌, ap, sym, ◌∙◌}
use Rattle.std.specs.Prelude.{option_and_then}
use Rattle.std.specs.Option.{option_copied}
use Rattle.gd_containers.proofs.Whole.{not_none}
use Rattle.gd_containers.proofs.found.class_name_of.Goals as goal

pub unreachable-requires : goal.unreachable-requires
unreachable-requires g c =
    not_none _ (ap (option_and_then (g.K.Look.names c.args.look.now)) (sym c.class_of.ensures ∙ c.in_default.is)) ((c.requires.whole 1).0)

pub unreachable-requires-in-None : goal.unreachable-requires-in-None
unreachable-requires-in-None g c =
    not_none _
    (ap (option_and_then (g.K.Look.names c.args.look.now)) (sym c.class_of.ensures ∙ c.in-Some.is) ∙ sym c.class_name.ensures ∙ ap option_copied c.in-None.is)
    ((c.requires.whole 1).0)
