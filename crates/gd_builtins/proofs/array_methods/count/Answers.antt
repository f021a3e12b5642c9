use Rattle.std.proofs.Common.{◌≡◌, ℕ, suc, ◌+◌, ◌<◌, ◌≤◌, Bool, true, false, List, length, map, drop, get_or, Result, Ok, refl, ap, sym, ◌∙◌, add-one, if◌then◌else◌, arith}
use mir.Val.{bool_byte}
use Rattle.std.proofs.Math.Seq.{drop-cons}
use Rattle.std.proofs.lemmas.Option.{slice_get_read}
use Rattle.std.proofs.lemmas.Result.{err_from_is_err_and}
use Rattle.gd_model.specs.declared.fault.RunFault.{RunFault}
use Rattle.gd_model.specs.declared.value.Value.{Value}
use Rattle.gd_model.specs.Datum.{Datum}
use Rattle.gd_model.specs.Meant.{datum}
use Rattle.gd_containers.proofs.AllWhole.{whole_at}
use Rattle.gd_answers.specs.Answers.{exact}
use Rattle.gd_answers.proofs.Answer.{fault_and_then, given}
use Rattle.value_semantics.specs.Answer.{and_then}
use Rattle.value_semantics.specs.Equality.{same}
use Rattle.value_semantics.specs.Methods.{count_from}
use Rattle.gd_builtins.proofs.array_methods.count.Goals as goal

count_at : (test : Datum → Result Bool RunFault) (n : ℕ) (xs : List Value) (i : ℕ) (x : Value) → i < length xs → x ≡ get_or xs i x → count_from test n (map datum (drop i xs)) ≡ and_then (test (datum x)) (λ yes. count_from test (n + (if yes then 1 else 0)) (map datum (drop (i + 1) xs)))
count_at test n xs i x h e =
    let here : count_from test n (map datum (drop i xs)) ≡ and_then (test (datum (get_or xs i x))) (λ yes. count_from test (n + (if yes then 1 else 0)) (map datum (drop (suc i) xs))) = λ j. count_from test n (map datum (drop-cons xs i x h j)) in
    here ∙ (λ j. and_then (test (datum (sym e j))) (λ yes. count_from test (n + (if yes then 1 else 0)) (map datum (drop (sym (add-one i) j) xs))))

count_next : (test : Datum → Result Bool RunFault) (n : ℕ) (xs : List Value) (i : ℕ) (x : Value) (b : Bool) (more : ℕ) → i < length xs → x ≡ get_or xs i x → Ok b ≡ exact (test (datum x)) → more ≡ (if b then 1 else 0) → count_from test (n + more) (map datum (drop (i + 1) xs)) ≡ count_from test n (map datum (drop i xs))
count_next test n xs i x b more h e v m =
    ap (λ k. count_from test (n + k) (map datum (drop (i + 1) xs))) m
    ∙ sym (count_at test n xs i x h e ∙ ap (λ w. and_then w (λ yes. count_from test (n + (if yes then 1 else 0)) (map datum (drop (i + 1) xs)))) (given (test (datum x)) b v))

at_most_one : (b : Bool) (more : ℕ) → more ≡ (if b then 1 else 0) → more ≤ 1
at_most_one true more e = omega arith
at_most_one false more e = omega arith

byte : (b : Bool) → bool_byte b ≡ (if b then 1 else 0)
byte true = refl
byte false = refl

pub same-requires-clause-left : goal.same-requires-clause-left
same-requires-clause-left g c =
    let xs = c.args.a.now.items in
    let i = c.loop-i.i in
    let x = c.index-items-i.result in
    let at : x ≡ get_or xs i x = c.index-items-i.is ∙ ap (λ (ys : List Value). get_or ys i x) c.items-items.ensures in
    let within : i < length xs = omega arith in
    whole_at (g.K.Look.things c.args.look.now) (g.K.Look.names c.args.look.now) xs i x (slice_get_read xs (length xs) i x refl within at) c.requires.elements

pub returns-in_err-same : goal.returns-in_err-same
returns-in_err-same g c =
    let test = λ (x : Datum). same (g.K.Look.store c.args.look.now) x (datum c.args.v.now) in
    let xs = c.args.a.now.items in
    let i = c.loop-i.i in
    let x = c.index-items-i.result in
    let at : x ≡ get_or xs i x = c.index-items-i.is ∙ ap (λ (ys : List Value). get_or ys i x) c.items-items.ensures in
    let within : i < length xs = omega arith in
    let p = err_from_is_err_and c.from_residual.result c.from_residual.ensures.1 in
    rw (p.1, p.2) (fault_and_then (λ yes. count_from test (c.loop-i.all + (if yes then 1 else 0)) (map datum (drop (i + 1) xs))) (test (datum x)) c.in_err-same.field-0.0 c.in_err-same.ensures
    ∙ ap exact (sym (count_at test c.loop-i.all xs i x within at)) ∙ ap exact c.loop-i.invariant.1)

pub loop-i-preserved : goal.loop-i-preserved
loop-i-preserved g c =
    let test = λ (x : Datum). same (g.K.Look.store c.args.look.now) x (datum c.args.v.now) in
    let xs = c.args.a.now.items in
    let i = c.loop-i.i in
    let x = c.index-items-i.result in
    let at : x ≡ get_or xs i x = c.index-items-i.is ∙ ap (λ (ys : List Value). get_or ys i x) c.items-items.ensures in
    let within : i < length xs = omega arith in
    let one = c.from.ensures ∙ byte c.in_ok-same.field-0 in
    let few : c.from.result ≤ 1 = at_most_one c.in_ok-same.field-0 c.from.result one in
    (omega arith, count_next test c.loop-i.all xs i x c.in_ok-same.field-0 c.from.result within at c.in_ok-same.ensures one ∙ c.loop-i.invariant.1)
