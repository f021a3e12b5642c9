use Rattle.std.proofs.Common.{List, Result, sym, subst}
use Rattle.gd_containers.specs.declared.fault.ThingFault.{ThingFault}
use Rattle.gd_text.specs.declared.formatting.Arg.{Arg}
use Rattle.gd_answers.specs.declared.fresh.Fresh.{Fresh}
use Rattle.gd_answers.specs.Answers.{Gives}
use Rattle.value_semantics.specs.Formatting.{format_gives}
use Rattle.gd_printing.proofs.Standing.{standing_gives}
use Rattle.gd_printing.proofs.arguments.Arguments.fill.Goals as goal

pub returns : goal.returns
returns c = λ wants h.
    let args = c.args.self.now in
    let pattern = c.args.pattern.now in
    let made = subst (λ (xs : List Arg). Gives (format_gives pattern xs) c.formatted-made.result) c.as_slice.ensures c.formatted-made.ensures in
    subst (λ (r : Result Fresh ThingFault). Gives (format_gives pattern wants) r) (sym c.within.ensures)
    (standing_gives pattern wants args.list.items args.too_long c.formatted-made.result h made)
