use Rattle.std.proofs.Common.{ℕ, List, [], ◌∷◌, Some, subst}
use Rattle.gd_text.specs.Text.{Gives as GivesText}
use Rattle.gd_builtins.proofs.makers.one_character.Goals as goal

pub returns-in-Ok : goal.returns-in-Ok
returns-in-Ok c = c.text.ensures (Some (c.args.c ∷ [])) (subst (λ (xs : List ℕ). GivesText (Some xs) c.text_of_chars.result) c.in-Ok.ensures.items c.text_of_chars.ensures)
