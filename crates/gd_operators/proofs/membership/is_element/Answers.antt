use Rattle.std.proofs.Common.{◌≡◌, is_some, Bool, map, Result, Ok, Err, ap, sym, subst, ◌∙◌}
use Rattle.std.proofs.lemmas.Result.{err_from_is_err_and}
use Rattle.gd_model.specs.Datum.{Datum}
use Rattle.gd_model.specs.Meant.{datum}
use Rattle.gd_model.specs.Store.{array_at}
use Rattle.gd_containers.specs.declared.fault.ThingFault.{ThingFault}
use Rattle.gd_answers.specs.Answers.{Answers, exact}
use Rattle.gd_answers.proofs.Answer.{given, answers_exact, fault_in_form}
use Rattle.value_semantics.specs.Answer.{in_form}
use Rattle.value_semantics.specs.Equality.{same}
use Rattle.value_semantics.specs.Operators.{first_place, is_element}
use Rattle.gd_operators.proofs.membership.is_element.Goals as goal

pub returns : goal.returns
returns g c =
    let store = g.K.Look.store c.args.look.now in
    let test = λ (x : Datum). same store x (datum c.args.v.now) in
    ap (is_element store (datum c.args.v.now)) c.array_of.ensures.value
    ∙ ap (in_form is_some) (given (first_place test 0 (map datum c.array_of.result.now.items)) c.in_ok-first_place.field-0 c.in_ok-first_place.ensures)
    ∙ ap (λ b. Ok b) (sym c.is_some.ensures)

pub returns-in_err-first_place : goal.returns-in_err-first_place
returns-in_err-first_place g c =
    let store = g.K.Look.store c.args.look.now in
    let test = λ (x : Datum). same store x (datum c.args.v.now) in
    let want = is_element store (datum c.args.v.now) (array_at store c.args.h.serial) in
    let p = err_from_is_err_and c.from_residual.result c.from_residual.ensures.1 in
    let fault : Err c.in_err-first_place.field-0.0 ≡ exact want =
    fault_in_form is_some (first_place test 0 (map datum c.array_of.result.now.items)) c.in_err-first_place.field-0.0 c.in_err-first_place.ensures
    ∙ ap (λ a. exact (is_element store (datum c.args.v.now) a)) (sym c.array_of.ensures.value) in
    subst (λ (r : Result Bool ThingFault). Answers want r) (sym (p.1 ∙ ap (λ f. Err f) p.2)) (answers_exact want (Err c.in_err-first_place.field-0.0) fault)
