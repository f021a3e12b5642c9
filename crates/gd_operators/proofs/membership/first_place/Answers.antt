use Rattle.std.proofs.Common.{◌≡◌, ◌<◌, false, true, length, get_or, Ok, refl, ap, sym, ◌∙◌, arith}
use Rattle.std.proofs.lemmas.Option.{slice_get_read}
use Rattle.std.proofs.lemmas.Result.{err_from_is_err_and}
use Rattle.gd_model.specs.Datum.{Datum}
use Rattle.gd_model.specs.Meant.{datum}
use Rattle.gd_containers.proofs.AllWhole.{whole_at}
use Rattle.gd_answers.specs.Answers.{exact}
use Rattle.value_semantics.specs.Equality.{same}
use Rattle.gd_operators.proofs.Sought.{places_no, places_yes, places_fault, places_end}
use Rattle.gd_operators.proofs.membership.first_place.Goals as goal

pub same-requires : goal.same-requires
same-requires g c =
    let xs = c.args.array.now.items in
    let within : c.loop-i.i < length xs = omega arith in
    let at : c.index-items-i.result ≡ get_or xs c.loop-i.i c.index-items-i.result = c.index-items-i.is ∙ (λ j. get_or (c.items-items.ensures j) c.loop-i.i c.index-items-i.result) in
    record {
      left = whole_at (g.K.Look.things c.args.look.now) (g.K.Look.names c.args.look.now) xs c.loop-i.i c.index-items-i.result (slice_get_read xs (length xs) c.loop-i.i c.index-items-i.result refl within at) c.requires.items;
      right = c.requires.whole;
    }

pub loop-i-preserved : goal.loop-i-preserved
loop-i-preserved g c =
    let xs = c.args.array.now.items in
    let test = λ (x : Datum). same (g.K.Look.store c.args.look.now) x (datum c.args.v.now) in
    let within : c.loop-i.i < length xs = omega arith in
    let at : c.index-items-i.result ≡ get_or xs c.loop-i.i c.index-items-i.result = c.index-items-i.is ∙ (λ j. get_or (c.items-items.ensures j) c.loop-i.i c.index-items-i.result) in
    let said : exact (test (datum c.index-items-i.result)) ≡ Ok false = sym c.in_ok-same.ensures ∙ ap (λ b. Ok b) c.if-branch.false in
    sym (places_no test xs c.loop-i.i c.index-items-i.result within at said) ∙ c.loop-i.invariant

pub returns-then-branch : goal.returns-then-branch
returns-then-branch g c =
    let xs = c.args.array.now.items in
    let test = λ (x : Datum). same (g.K.Look.store c.args.look.now) x (datum c.args.v.now) in
    let within : c.loop-i.i < length xs = omega arith in
    let at : c.index-items-i.result ≡ get_or xs c.loop-i.i c.index-items-i.result = c.index-items-i.is ∙ (λ j. get_or (c.items-items.ensures j) c.loop-i.i c.index-items-i.result) in
    let said : exact (test (datum c.index-items-i.result)) ≡ Ok true = sym c.in_ok-same.ensures ∙ ap (λ b. Ok b) c.if-branch.true in
    ap exact (sym (places_yes test xs c.loop-i.i c.index-items-i.result within at said) ∙ c.loop-i.invariant)

pub returns-in_err-same : goal.returns-in_err-same
returns-in_err-same g c =
    let xs = c.args.array.now.items in
    let test = λ (x : Datum). same (g.K.Look.store c.args.look.now) x (datum c.args.v.now) in
    let within : c.loop-i.i < length xs = omega arith in
    let at : c.index-items-i.result ≡ get_or xs c.loop-i.i c.index-items-i.result = c.index-items-i.is ∙ (λ j. get_or (c.items-items.ensures j) c.loop-i.i c.index-items-i.result) in
    let p = err_from_is_err_and c.from_residual.result c.from_residual.ensures.1 in
    rw (p.1, p.2) (places_fault test xs c.loop-i.i c.index-items-i.result c.in_err-same.field-0.0 within at c.in_err-same.ensures ∙ ap exact c.loop-i.invariant)

pub returns : goal.returns
returns g c =
    let test = λ (x : Datum). same (g.K.Look.store c.args.look.now) x (datum c.args.v.now) in
    ap exact (sym (places_end test c.args.array.now.items c.loop-i.i (omega arith)) ∙ c.loop-i.invariant)
