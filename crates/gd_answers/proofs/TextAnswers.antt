-- The answers of text calls as answers of operators and builtins.
use Rattle.std.proofs.Common.{◌≡◌, ℕ, ◌≤◌, List, length, Option, None, Some, Result, Ok, Err, ap, sym, ◌∙◌, subst, if◌then◌else◌}
use Rattle.std.proofs.lemmas.Bool.{le-leb, lt-leb}
use Rattle.gd_syntax.specs.declared.text.TextFault.{TextFault}
use Rattle.gd_syntax.specs.declared.text.TextFault.TheVariants as t
use Rattle.gd_model.specs.declared.fault.RunFault.{RunFault}
use Rattle.gd_model.specs.declared.fault.RunFault.TheVariants.{TooLong}
use Rattle.gd_model.specs.declared.value.Value.TheVariants.{Str}
use Rattle.gd_model.specs.Datum as d
use Rattle.gd_text.specs.Text.{Gives as GivesText}
use Rattle.value_semantics.specs.Answer.{in_form}
use Rattle.value_semantics.specs.Made.{Made, value, text_in_range}
use Rattle.gd_answers.specs.declared.fresh.Fresh.TheVariants.{Value}
use Rattle.gd_answers.specs.Answers.{Gives, text_fault}

pub text_made : (want : Option (List ℕ)) (text : List ℕ) → GivesText want (Ok text) → Gives (text_in_range want) (Ok (Value (Str text)))
text_made None text h = let e = h.0 in cc
text_made (Some w) text h =
    let e = h.0 in
    let same : w ≡ text = cc in
    let fits : length w ≤ 16777216 = subst (λ (x : List ℕ). length x ≤ 16777216) (sym same) h.1 in
    ap (λ b. let r : Result (List ℕ) RunFault = if b then Ok w else Err TooLong in in_form (λ s. value (d.text s)) r) (le-leb (length w) 16777216 fits) ∙ ap (λ x. Ok (value (d.text x))) same

pub text_not_made : (want : Option (List ℕ)) (fault : TextFault) → GivesText want (Err fault) → Gives (text_in_range want) (Err (text_fault fault))
text_not_made want t.OutOfRange h = ap (λ w. text_in_range w) h
text_not_made want t.NoMemory h = tt
text_not_made want t.NotUtf8 h = absurd h
text_not_made None t.TooLong h = absurd h
text_not_made (Some w) t.TooLong h = ap (λ b. let r : Result (List ℕ) RunFault = if b then Ok w else Err TooLong in in_form (λ s. value (d.text s)) r) (lt-leb (length w) 16777216 h)
