use Rattle.std.proofs.Common.{Err, sym, subst}
use Rattle.gd_text.specs.Text.{Gives as GivesText}
use Rattle.value_semantics.specs.Made.{text_in_range}
use Rattle.gd_answers.specs.Answers.{Gives}
use Rattle.gd_answers.proofs.TextAnswers.{text_made, text_not_made}
use Rattle.gd_answers.proofs.texts.text.Goals as goal

pub returns-in-Ok : goal.returns-in-Ok
returns-in-Ok c = λ want h. text_made want c.in-Ok.text (subst (GivesText want) c.in-Ok.is h)

pub returns-in-Err : goal.returns-in-Err
returns-in-Err c = λ want h. subst (λ x. Gives (text_in_range want) (Err x)) (sym c.text_refusal.ensures) (text_not_made want c.in-Err.fault (subst (GivesText want) c.in-Err.is h))
