use Rattle.std.proofs.Common.{map}
use Rattle.std.proofs.lemmas.Result.{err_from_is_err_and}
use Rattle.gd_model.specs.Meant.{datum}
use Rattle.value_semantics.specs.Functions.{two_ints, of_pair}
use Rattle.gd_answers.proofs.Answer.{fault_and_then}
use Rattle.gd_builtins.proofs.functions.call_on_two.Goals as goal

pub returns-in_err-x : goal.returns-in_err-x
returns-in_err-x c =
    let p = err_from_is_err_and c.from_residual.result c.from_residual.ensures.1 in
    rw (p.1, p.2) (fault_and_then (of_pair c.args.builtin) (two_ints (map datum c.args.args.now)) c.in_err-x.field-0.0 c.in_err-x.ensures)
