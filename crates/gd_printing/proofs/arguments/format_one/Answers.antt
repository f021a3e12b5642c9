use Rattle.std.proofs.Common.{[], ◌∷◌}
use Rattle.gd_model.specs.Meant.{datum}
use Rattle.value_semantics.specs.Formatting.{argument}
use Rattle.gd_printing.proofs.arguments.format_one.Goals as goal

pub returns : goal.returns
returns g c =
    let want = argument (g.K.Look.store c.args.look.now) (g.K.Look.names c.args.look.now) (datum c.args.v.now) in
    c.fill.ensures (want ∷ []) (c.in_ok-put.ensures.ok [] c.new-args.ensures)
