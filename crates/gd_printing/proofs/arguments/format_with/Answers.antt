use Rattle.std.proofs.Common.{List, map, ap, sym, subst, ◌∙◌}
use Rattle.gd_model.specs.Meant.{datum}
use Rattle.gd_model.specs.Store.{ArrayThing}
use Rattle.gd_model.specs.Whole.{AllWhole}
use Rattle.gd_model.specs.declared.value.Value.{Value}
use Rattle.gd_text.specs.declared.formatting.Arg.{Arg}
use Rattle.gd_answers.specs.Answers.{Gives}
use Rattle.value_semantics.specs.Formatting.{argument, arguments, format_gives}
use Rattle.gd_printing.proofs.arguments.format_with.Goals as goal

pub format_all-requires : goal.format_all-requires
format_all-requires g c =
    let whole = AllWhole (g.K.Look.things c.args.look.now) (g.K.Look.names c.args.look.now) in
    record { whole = subst whole (sym c.items.ensures) c.array_of.ensures.inside }

pub returns-in-Array : goal.returns-in-Array
returns-in-Array g c =
    let S = g.K.Look.store c.args.look.now in
    let N = g.K.Look.names c.args.look.now in
    let F = argument S N in
    let same = ap (λ (w : Value). arguments S N (datum w)) c.in-Array.is ∙ ap (λ (a : ArrayThing). map F a.items) c.array_of.ensures.value
    ∙ ap (λ (xs : List Value). map F (map datum xs)) (sym c.items.ensures) in
    subst (λ (args : List Arg). Gives (format_gives c.args.pattern.now args) c.format_all.result) (sym same) c.format_all.ensures
