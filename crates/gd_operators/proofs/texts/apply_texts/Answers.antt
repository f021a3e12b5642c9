use Rattle.std.proofs.Common.{Some, ◌++◌, sym, subst}
use Rattle.gd_answers.specs.Answers.{Gives}
use Rattle.value_semantics.specs.Texts.{texts_give}
use Rattle.gd_operators.proofs.texts.apply_texts.Goals as goal

pub returns-in-Add : goal.returns-in-Add
returns-in-Add c =
    subst (λ op. Gives (texts_give op c.args.x.now c.args.y.now) c.text.result) (sym c.in-Add.is) (c.text.ensures (Some (c.args.x.now ++ c.args.y.now)) c.concat.ensures)
