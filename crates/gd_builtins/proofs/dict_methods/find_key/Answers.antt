use Rattle.std.proofs.Common.{◌≡◌, ◌+◌, Result, Ok, Err, map, drop, sym, ap, ◌∙◌, if◌then◌else◌}
use Rattle.std.proofs.lemmas.Result.{err_from_is_err_and}
use Rattle.gd_model.specs.declared.fault.RunFault.{RunFault}
use Rattle.gd_containers.specs.declared.fault.ThingFault.{ThingFault}
use Rattle.gd_containers.specs.declared.fault.ThingFault.TheVariants.{Run, NoMemory}
use Rattle.gd_model.specs.Datum.{Datum}
use Rattle.gd_model.specs.KeyDatum.{key_datum}
use Rattle.gd_model.specs.Meant.{datum, pair_datum}
use Rattle.gd_containers.proofs.AllWhole.{whole_pair}
use Rattle.gd_answers.specs.Answers.{exact, AnswersAs}
use Rattle.gd_answers.proofs.Answer.{fault_and_then, given, refused_so}
use Rattle.value_semantics.specs.Answer.{and_then}
use Rattle.value_semantics.specs.Equality.{same}
use Rattle.value_semantics.specs.Methods.{first_key}
use Rattle.gd_builtins.proofs.Pairs.{key_at, key_value-meant}
use Rattle.gd_builtins.proofs.dict_methods.find_key.Goals as goal

pub same-requires-clause-left : goal.same-requires-clause-left
same-requires-clause-left g c =
    (whole_pair (g.K.Look.things c.args.look.now) (g.K.Look.names c.args.look.now) c.args.d.now.pairs c.loop-i.i (c.in-Some.key.now, c.in-Some.value.now) (sym c.in-Some.ensures) c.requires.elements).1

pub returns-then-branch : goal.returns-then-branch
returns-then-branch g c =
    let test = λ (x : Datum). same (g.K.Look.store c.args.look.now) x (datum c.args.v.now) in
    let ps = c.args.d.now.pairs in
    sym c.loop-i.invariant ∙ key_at test ps c.loop-i.i c.in-Some.key.now c.in-Some.value.now c.in-Some.ensures
    ∙ ap (λ w. and_then w (λ yes. if yes then Ok (key_datum c.in-Some.key.now) else first_key test (map pair_datum (drop (c.loop-i.i + 1) ps)))) (given (test (datum c.in-Some.value.now)) c.in_ok-same.field-0 c.in_ok-same.ensures)
    ∙ ap (λ yes. if yes then Ok (key_datum c.in-Some.key.now) else first_key test (map pair_datum (drop (c.loop-i.i + 1) ps))) c.if-branch.true
    ∙ ap (λ x. Ok x) (sym (ap datum c.in_ok-value_of.ensures ∙ key_value-meant c.in-Some.key.now))

pub loop-i-preserved : goal.loop-i-preserved
loop-i-preserved g c =
    let test = λ (x : Datum). same (g.K.Look.store c.args.look.now) x (datum c.args.v.now) in
    let ps = c.args.d.now.pairs in
    sym (key_at test ps c.loop-i.i c.in-Some.key.now c.in-Some.value.now c.in-Some.ensures
    ∙ ap (λ w. and_then w (λ yes. if yes then Ok (key_datum c.in-Some.key.now) else first_key test (map pair_datum (drop (c.loop-i.i + 1) ps)))) (given (test (datum c.in-Some.value.now)) c.in_ok-same.field-0 c.in_ok-same.ensures)
    ∙ ap (λ yes. if yes then Ok (key_datum c.in-Some.key.now) else first_key test (map pair_datum (drop (c.loop-i.i + 1) ps))) c.if-branch.false)
    ∙ c.loop-i.invariant

-- a fault of a call that takes no memory
fault_as : {A B : Type 0} → (form : B → A) (want : Result A RunFault) (f : ThingFault) → Err f ≡ exact want → AnswersAs form want (Err f)
fault_as form want (Run f) e = refused_so want f e
fault_as form want NoMemory e = tt

pub returns-in_err-same : goal.returns-in_err-same
returns-in_err-same g c =
    let test = λ (x : Datum). same (g.K.Look.store c.args.look.now) x (datum c.args.v.now) in
    let ps = c.args.d.now.pairs in
    let p = err_from_is_err_and c.from_residual.result c.from_residual.ensures.1 in
    rw (p.1, p.2) (fault_as datum (first_key test (map pair_datum ps)) c.in_err-same.field-0.0
    (fault_and_then (λ yes. if yes then Ok (key_datum c.in-Some.key.now) else first_key test (map pair_datum (drop (c.loop-i.i + 1) ps))) (test (datum c.in-Some.value.now)) c.in_err-same.field-0.0 c.in_err-same.ensures
    ∙ ap exact (sym (key_at test ps c.loop-i.i c.in-Some.key.now c.in-Some.value.now c.in-Some.ensures)) ∙ ap exact c.loop-i.invariant))
