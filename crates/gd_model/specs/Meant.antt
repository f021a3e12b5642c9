-- Which values of the language the values of the code are: the index of a slot is left out.
use Rattle.std.specs.Prelude.{ℕ, List, map, option_map}
use Rattle.gd_model.specs.declared.key.Key.{Key}
use Rattle.gd_model.specs.declared.value.Target.{Target}
use Rattle.gd_model.specs.declared.value.Value.{Value}
use Rattle.gd_model.specs.declared.value.Value.TheVariants as v
use Rattle.gd_model.specs.Datum.{Callee, Datum, null, bool, int, text, object, array, dictionary, callable, signal}
use Rattle.gd_model.specs.KeyDatum.{key_datum}
use Rattle.gd_model.specs.Store.{ArrayThing, DictThing, Thing}
use Rattle.gd_model.specs.Store as thing
use Rattle.gd_model.specs.View.{ArrayView, DictView, ThingView}
use Rattle.gd_model.specs.View as view

abbrev pub callee : Target → Callee
callee t = record { object = option_map (λ h. h.serial) t.object; class = t.class; name = t.name }

abbrev pub datum : Value → Datum
datum v.Nil = null
datum (v.Bool b) = bool b
datum (v.Int n) = int n
datum (v.Str t) = text t
datum (v.Object h) = object h.serial
datum (v.Array h) = array h.serial
datum (v.Dict h) = dictionary h.serial
datum (v.Callable t) = callable (callee t)
datum (v.Signal s) = signal s.emitter.serial s.name

abbrev pub pair_datum : Key × Value → Datum × Datum
pair_datum p = (key_datum p.0, datum p.1)

abbrev pub array_thing : ArrayView → ArrayThing
array_thing a = record { element = a.element; fixed = a.fixed; items = map datum a.items }

abbrev pub dict_thing : DictView → DictThing
dict_thing d = record { key_type = d.key_type; value_type = d.value_type; fixed = d.fixed; pairs = map pair_datum d.pairs }

abbrev pub thing_of : ThingView → Thing
thing_of (view.object class values) = thing.object class (map datum values)
thing_of (view.array a) = thing.array (array_thing a)
thing_of (view.dict d) = thing.dict (dict_thing d)
