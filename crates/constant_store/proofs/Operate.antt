-- What becomes of the answers of operators and of readings.
use Rattle.std.proofs.Common.{◌≡◌, suc, true, List, [], ◌∷◌, ◌++◌, length, map, Result, Ok, Err, IfOk, refl, ap, sym, ◌∙◌, subst}
use Rattle.gd_syntax.specs.declared.operator.Operator.{Operator}
use Rattle.gd_model.specs.declared.fault.RunFault.{RunFault}
use Rattle.gd_model.specs.declared.value.Value.{Value}
use Rattle.gd_model.specs.Datum.{Datum}
use Rattle.gd_model.specs.Meant.{datum, array_thing, dict_thing, pair_datum}
use Rattle.gd_model.specs.Store as thing
use Rattle.gd_model.specs.View.{ArrayView, DictView}
use Rattle.gd_answers.specs.Answers.{AnswersAs}
use Rattle.gd_containers.specs.declared.fault.ThingFault.{ThingFault}
use Rattle.value_semantics.specs.Made.{Made, value, array, dict}
use Rattle.value_semantics.specs.Operators.{applied}
use Rattle.constant_store.specs.declared.thing.ConstantThing.{ConstantThing}
use Rattle.constant_store.specs.declared.thing.ConstantThing.TheVariants as t
use Rattle.constant_store.specs.Operations.{Keeps}
use Rattle.constant_store.specs.Things.{store_of, no_names, is_held, is_closed, all_data_held, data_in, meant, pair_data, thing_datum}
use Rattle.constant_store.proofs.Kept.{plain_held}
use Rattle.constant_store.proofs.Sound.{SoundOk, HeldOk, applied_sound}

pub answer_held : (things : List ConstantThing) (want : Result Datum RunFault) (r : Result Value ThingFault) → HeldOk things want → AnswersAs datum want r → IfOk r (λ v. is_held things (datum v) ≡ true)
answer_held things want (Ok v) h e = subst (HeldOk things) e h
answer_held things want (Err f) h e = tt

module _ (things : List ConstantThing) (closed : is_closed things ≡ true) (op : Operator) (a b : Datum) where
  pub value_kept : (v : Value) → applied (store_of things) no_names op a b ≡ Ok (value (datum v)) → Keeps things things (applied (store_of things) no_names op a b) (Ok v)
  value_kept v e = (value (datum v), e, (refl, refl))

  pub value_held : (v : Value) → applied (store_of things) no_names op a b ≡ Ok (value (datum v)) → is_held things (datum v) ≡ true
  value_held v e = plain_held things (datum v) (subst (SoundOk things) e (applied_sound things closed op a b))

  pub array_inside : (x y : ArrayView) → applied (store_of things) no_names op a b ≡ Ok (array (array_thing x)) → y ≡ record x { fixed = true } → all_data_held things (data_in (meant (t.Array y))) ≡ true
  array_inside x y e fixed =
      let held : all_data_held things (map datum x.items) ≡ true = subst (SoundOk things) e (applied_sound things closed op a b) in
      subst (λ (z : ArrayView). all_data_held things (map datum z.items) ≡ true) (sym fixed) held

  pub dict_inside : (x y : DictView) → applied (store_of things) no_names op a b ≡ Ok (dict (dict_thing x)) → y ≡ record x { fixed = true } → all_data_held things (data_in (meant (t.Dict y))) ≡ true
  dict_inside x y e fixed =
      let held : all_data_held things (pair_data (map pair_datum x.pairs)) ≡ true = subst (SoundOk things) e (applied_sound things closed op a b) in
      subst (λ (z : DictView). all_data_held things (pair_data (map pair_datum z.pairs)) ≡ true) (sym fixed) held

  pub array_kept : (x y : ArrayView) (new : List ConstantThing) (v : Value) → applied (store_of things) no_names op a b ≡ Ok (array (array_thing x)) → y ≡ record x { fixed = true } → new ≡ things ++ t.Array y ∷ [] → datum v ≡ thing_datum (meant (t.Array y)) (suc (length things)) → Keeps things new (applied (store_of things) no_names op a b) (Ok v)
  array_kept x y new v e fixed grown named = (array (array_thing x), e, (t.Array y, ap (λ (z : ArrayView). thing.array (array_thing z)) fixed, grown, named))

  pub dict_kept : (x y : DictView) (new : List ConstantThing) (v : Value) → applied (store_of things) no_names op a b ≡ Ok (dict (dict_thing x)) → y ≡ record x { fixed = true } → new ≡ things ++ t.Dict y ∷ [] → datum v ≡ thing_datum (meant (t.Dict y)) (suc (length things)) → Keeps things new (applied (store_of things) no_names op a b) (Ok v)
  dict_kept x y new v e fixed grown named = (dict (dict_thing x), e, (t.Dict y, ap (λ (z : DictView). thing.dict (dict_thing z)) fixed, grown, named))
