use Rattle.std.proofs.Common.{map, Ok, ap, ◌∙◌, w64}
use Rattle.std.proofs.lemmas.Int.{to_z-of_z}
use Rattle.std.proofs.lemmas.Result.{err_from_is_err_and}
use Rattle.gd_model.specs.Meant.{datum}
use Rattle.value_semantics.specs.Functions.{three_ints, clamped}
use Rattle.gd_answers.proofs.Answer.{fault_in_form, given_in_form}
use Rattle.gd_builtins.proofs.functions.clamp.Goals as goal

pub returns-in_err-three_ints : goal.returns-in_err-three_ints
returns-in_err-three_ints c =
    let p = err_from_is_err_and c.from_residual.result c.from_residual.ensures.1 in
    rw (p.1, p.2) (fault_in_form clamped (three_ints (map datum c.args.args.now)) c.in_err-three_ints.field-0.0 c.in_err-three_ints.ensures)

pub returns : goal.returns
returns c =
    ap (λ n. Ok n) (to_z-of_z w64 c.clamped.result (record { sfits = c.clamped.type_inv })) ∙ ap (λ n. Ok n) c.clamped.ensures
    ∙ given_in_form clamped (three_ints (map datum c.args.args.now)) c.in_ok-three_ints.field-0 c.in_ok-three_ints.ensures
