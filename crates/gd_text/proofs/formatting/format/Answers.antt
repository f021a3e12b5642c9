use Rattle.std.proofs.Common.{◌≡◌, ℕ, true, false, List, ap, ◌∙◌}
use Rattle.gd_text.specs.Format.{fits}
use Rattle.gd_text.proofs.Formatted.{formatted_fits}
use Rattle.gd_text.proofs.formatting.format.Goals as goal

pub returns-then-not-fits : goal.returns-then-not-fits
returns-then-not-fits c = λ t f.
    let yes : fits c.args.pattern.now c.args.args.now ≡ true = formatted_fits c.args.pattern.now c.args.args.now t f in
    let no : false ≡ fits c.args.pattern.now c.args.args.now = c.if-not-fits.ensures ∙ ap (λ (xs : List ℕ). fits xs c.args.args.now) c.chars-chars.ensures.value in
    cc
