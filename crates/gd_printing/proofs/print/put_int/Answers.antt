use Rattle.std.proofs.Common.{List, ℕ, subst, ap, ◌∙◌, w64}
use Rattle.std.specs.Fmt.{signed_decimal}
use Rattle.std.proofs.lemmas.Int.{to_z-of_z}
use Rattle.gd_printing.specs.Puts.{Puts}
use Rattle.gd_printing.proofs.print.put_int.Goals as goal

pub returns : goal.returns
returns c = subst (λ (t : List ℕ). Puts t c.args.out.now.items c.put_word.new.out.items c.put_word.result) (c.format.ensures.text ∙ ap signed_decimal (to_z-of_z w64 c.args.n c.ranges.n)) c.put_word.ensures
