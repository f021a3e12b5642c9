use Rattle.std.proofs.Common.{◌≡◌, decimal, arith, sym, ap, ◌∙◌}
use Rattle.std.proofs.Common.{not}
use Rattle.std.proofs.lemmas.Bool.{false≢true}
use Rattle.std.proofs.lemmas.Slice.Eq.{bytes_eq-Decides}
use Rattle.std.proofs.lemmas.Fmt.{parse-decimal}
use Rattle.gd_command.proofs.decimal.read_decimal.Goals as goal

pub returns-in_default : goal.returns-in_default
returns-in_default c n small is =
    let parsed = parse-decimal 32 n c.args.text.now c.parse.result (omega arith) (omega arith) is c.parse.ensures.value.0 in
    cc

pub returns-then-number-most : goal.returns-then-number-most
returns-then-number-most c n small is =
    let parsed = parse-decimal 32 n c.args.text.now c.parse.result (omega arith) (omega arith) is c.parse.ensures.value.0 in
    let same : n ≡ c.in-Ok.number = cc in
    omega arith

pub returns-then-ne : goal.returns-then-ne
returns-then-ne c n small is =
    let parsed = parse-decimal 32 n c.args.text.now c.parse.result (omega arith) (omega arith) is c.parse.ensures.value.0 in
    let same : n ≡ c.in-Ok.number = cc in
    let written : c.format.result.now ≡ c.args.text.now = c.format.ensures.text ∙ ap decimal (sym same) ∙ sym is in
    let equal = (bytes_eq-Decides c.format.result.now c.args.text.now).1 written in
    false≢true (sym (ap not equal) ∙ sym c.ne.ensures ∙ c.if-ne.true)
