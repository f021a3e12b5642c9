use Rattle.std.proofs.Common.{is_some, Bool, Result, Ok, Err, ap, sym, subst, ◌∙◌}
use Rattle.std.proofs.lemmas.Result.{err_from_is_err_and}
use Rattle.gd_model.specs.Meant.{datum}
use Rattle.gd_model.specs.Store.{dict_at}
use Rattle.gd_containers.specs.declared.fault.ThingFault.{ThingFault}
use Rattle.gd_answers.specs.Answers.{Answers}
use Rattle.value_semantics.specs.Operators.{has_key}
use Rattle.gd_operators.proofs.Sought.{no_key, key_there, is_some-copied}
use Rattle.gd_operators.proofs.membership.has_key.Goals as goal

pub returns : goal.returns
returns g c =
    key_there c.args.v.now c.in_ok-key.key c.dict_of.result.now (dict_at (g.K.Look.store c.args.look.now) c.args.h.serial) c.in_ok-key.ensures.faults c.in_ok-key.ensures.meant c.dict_of.ensures.value
    ∙ ap (λ b. Ok b) (sym (c.is_some.ensures ∙ sym (is_some-copied c.get.result) ∙ ap is_some c.get.ensures))

pub returns-in_err-key : goal.returns-in_err-key
returns-in_err-key g c =
    let there = dict_at (g.K.Look.store c.args.look.now) c.args.h.serial in
    let p = err_from_is_err_and c.from_residual.result c.from_residual.ensures.1 in
    subst (λ (r : Result Bool ThingFault). Answers (has_key (datum c.args.v.now) there) r) (sym (p.1 ∙ ap (λ f. Err f) p.2)) (no_key c.args.v.now there c.in_err-key.field-0.0 c.in_err-key.ensures.faults)
