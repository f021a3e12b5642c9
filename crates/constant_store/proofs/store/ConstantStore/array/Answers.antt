use Rattle.std.proofs.Common.{◌≡◌, ◌≤◌, List, Ok, None, not, length, map, ap, sym, ◌∙◌, arith}
use Rattle.std.specs.List.{position_from}
use Rattle.gd_model.specs.declared.value.Value.{Value}
use Rattle.gd_model.specs.Datum.{Datum}
use Rattle.gd_model.specs.Meant.{datum, array_thing}
use Rattle.gd_model.specs.Store as thing
use Rattle.gd_model.specs.View.{ArrayView}
use Rattle.constant_store.specs.declared.thing.ConstantThing.TheVariants as t
use Rattle.constant_store.specs.Literals.{fits}
use Rattle.constant_store.proofs.Literal.{array_done}
use Rattle.constant_store.proofs.store.ConstantStore.array.Goals as goal

pub returns-clause-made : goal.returns-clause-made
returns-clause-made c =
    let test = λ (d : Datum). not (fits c.args.self.now c.args.element d) in
    let none : None ≡ position_from test 0 (map datum c.args.items.items) = sym c.in-None.is ∙ c.first_misfit.ensures ∙ ap (λ (xs : List Value). position_from test 0 (map datum xs)) c.as_slice.ensures.value in
    let within : length c.args.items.items ≤ 16777216 = omega (arith, c.len.ensures, c.args.items.ok.0, c.if-len-gt-MAX_ITEMS.false) in
    let done = array_done c.args.self.now c.args.element c.args.items.items none within in
    (t.Array c.in_ok-array.array, done ∙ ap (λ (a : ArrayView). Ok (thing.array (array_thing a))) (sym c.in_ok-array.ensures), c.in_ok-keep.ensures.kept.0, c.in_ok-keep.ensures.kept.1)
