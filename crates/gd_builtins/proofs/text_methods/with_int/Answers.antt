use Rattle.std.proofs.Common.{◌≡◌, ℤ, Some, subst, w64}
use Rattle.std.proofs.lemmas.Int.{to_z-of_z}
use Rattle.gd_text.specs.Text.{Gives as GivesText, left, right, repeated}
use Rattle.gd_answers.specs.Answers.{exact, meant}
use Rattle.gd_answers.proofs.Answer.{gives_exact}
use Rattle.value_semantics.specs.Methods.{unicode_at}
use Rattle.gd_builtins.proofs.text_methods.with_int.Goals as goal

pub returns-in-StringLeft : goal.returns-in-StringLeft
returns-in-StringLeft c =
    rw c.in-StringLeft.is (c.text.ensures (Some (left c.args.a.now c.args.n)) (subst (λ (n : ℤ). GivesText (Some (left c.args.a.now n)) c.left.result) (to_z-of_z w64 c.args.n c.ranges.n) c.left.ensures))

pub returns-in-StringRight : goal.returns-in-StringRight
returns-in-StringRight c =
    rw c.in-StringRight.is (c.text-in-StringRight.ensures (Some (right c.args.a.now c.args.n)) (subst (λ (n : ℤ). GivesText (Some (right c.args.a.now n)) c.right.result) (to_z-of_z w64 c.args.n c.ranges.n) c.right.ensures))

pub returns-in-StringRepeat : goal.returns-in-StringRepeat
returns-in-StringRepeat c =
    rw c.in-StringRepeat.is (c.text-in-StringRepeat.ensures (repeated c.args.a.now c.args.n) (subst (λ (n : ℤ). GivesText (repeated c.args.a.now n) c.repeat.result) (to_z-of_z w64 c.args.n c.ranges.n) c.repeat.ensures))

pub returns-in-StringUnicodeAt : goal.returns-in-StringUnicodeAt
returns-in-StringUnicodeAt c =
    rw c.in-StringUnicodeAt.is (gives_exact (unicode_at c.args.a.now c.args.n) c.unicode_at.result (subst (λ (n : ℤ). meant c.unicode_at.result ≡ exact (unicode_at c.args.a.now n)) (to_z-of_z w64 c.args.n c.ranges.n) c.unicode_at.ensures))
