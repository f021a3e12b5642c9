use Rattle.std.proofs.Common.{◌≡◌, ℤ, ℕ, List, Result, subst, w64}
use Rattle.std.proofs.lemmas.Int.{to_z-of_z}
use Rattle.gd_syntax.specs.declared.text.TextFault.{TextFault}
use Rattle.gd_text.specs.Text.{Gives as GivesText, substr}
use Rattle.gd_builtins.proofs.text_methods.part.Goals as goal

of_ints : (a : List ℕ) (from len f l : ℤ) (r : Result (List ℕ) TextFault) → f ≡ from → l ≡ len → GivesText (substr a f l) r → GivesText (substr a from len) r
of_ints a from len f l r ef el h = subst (λ (n : ℤ). GivesText (substr a from n) r) el (subst (λ (n : ℤ). GivesText (substr a n l) r) ef h)

pub returns : goal.returns
returns c =
    c.text.ensures (substr c.args.a.now c.args.from c.args.len)
    (of_ints c.args.a.now c.args.from c.args.len _ _ c.substr.result (to_z-of_z w64 c.args.from c.ranges.from) (to_z-of_z w64 c.args.len c.ranges.len) c.substr.ensures)
