use Rattle.std.proofs.Common.{◌≡◌, Ok, ap, sym, ◌∙◌}
use Rattle.gd_model.specs.Meant.{datum}
use Rattle.value_semantics.specs.Operators.{applied}
use Rattle.gd_answers.specs.Answers.{made}
use Rattle.constant_store.specs.Things.{store_of, no_names}
use Rattle.constant_store.proofs.Operate.{value_held, array_inside, dict_inside, array_kept, dict_kept}
use Rattle.constant_store.proofs.store.ConstantStore.operator.Goals as goal

pub keep-requires : goal.keep-requires
keep-requires c =
    array_inside c.args.self.now c.allocator-alloc.ensures.closed c.args.op (datum c.args.a.now) (datum c.args.b.now) c.in-Array.array c.fix.new.self
    (c.in_ok-v.ensures ∙ ap (λ x. Ok (made x)) c.in-Array.is) c.fix.ensures

pub keep-requires-in-Dict : goal.keep-requires-in-Dict
keep-requires-in-Dict c =
    dict_inside c.args.self.now c.allocator-alloc.ensures.closed c.args.op (datum c.args.a.now) (datum c.args.b.now) c.in-Dict.dict c.fix-in-Dict.new.self
    (c.in_ok-v.ensures ∙ ap (λ x. Ok (made x)) c.in-Dict.is) c.fix-in-Dict.ensures

pub returns-in-Value-clause-held : goal.returns-in-Value-clause-held
returns-in-Value-clause-held c =
    value_held c.args.self.now c.allocator-alloc.ensures.closed c.args.op (datum c.args.a.now) (datum c.args.b.now) c.in-Value.v (c.in_ok-v.ensures ∙ ap (λ x. Ok (made x)) c.in-Value.is)

pub returns-in_ok-keep-in-Array-clause-value : goal.returns-in_ok-keep-in-Array-clause-value
returns-in_ok-keep-in-Array-clause-value c =
    array_kept c.args.self.now c.allocator-alloc.ensures.closed c.args.op (datum c.args.a.now) (datum c.args.b.now) c.in-Array.array c.fix.new.self c.keep.new.self c.in_ok-keep-in-Array.field-0
    (c.in_ok-v.ensures ∙ ap (λ x. Ok (made x)) c.in-Array.is) c.fix.ensures c.in_ok-keep-in-Array.ensures.kept.0 c.in_ok-keep-in-Array.ensures.kept.1

pub returns-in_ok-keep-in-Dict-clause-value : goal.returns-in_ok-keep-in-Dict-clause-value
returns-in_ok-keep-in-Dict-clause-value c =
    dict_kept c.args.self.now c.allocator-alloc.ensures.closed c.args.op (datum c.args.a.now) (datum c.args.b.now) c.in-Dict.dict c.fix-in-Dict.new.self c.keep-in-Dict.new.self c.in_ok-keep-in-Dict.field-0
    (c.in_ok-v.ensures ∙ ap (λ x. Ok (made x)) c.in-Dict.is) c.fix-in-Dict.ensures c.in_ok-keep-in-Dict.ensures.kept.0 c.in_ok-keep-in-Dict.ensures.kept.1
