use Rattle.std.proofs.Common.{List, map, length, refl, subst, arith}
use Rattle.std.proofs.lemmas.List.{take_all}
use Rattle.std.proofs.lemmas.Option.{slice_get_read}
use Rattle.gd_model.specs.Meant.{datum}
use Rattle.gd_model.specs.declared.value.Value.{Value}
use Rattle.gd_containers.proofs.AllWhole.{whole_at}
use Rattle.value_semantics.specs.Formatting.{argument}
use Rattle.gd_printing.specs.Arguments.{AllStand}
use Rattle.gd_printing.proofs.arguments.format_all.Goals as goal

pub put-requires : goal.put-requires
put-requires g c =
    let T = g.K.Look.things c.args.look.now in
    let N = g.K.Look.names c.args.look.now in
    let items = c.args.items.now in
    let at = slice_get_read items (length items) c.loop-item.item-index c.item-item.result refl (omega arith) c.item-item.is in
    record { whole = whole_at T N items c.loop-item.item-index c.item-item.result at c.requires.whole }

pub returns : goal.returns
returns g c =
    let F = argument (g.K.Look.store c.args.look.now) (g.K.Look.names c.args.look.now) in
    let items = c.args.items.now in
    let all = take_all c.loop-item.item-index items (omega arith) in
    c.fill.ensures (map F (map datum items)) (subst (λ (vs : List Value). AllStand (map F (map datum vs)) c.loop-item.args.list.items c.loop-item.args.too_long) all c.loop-item.invariant)
