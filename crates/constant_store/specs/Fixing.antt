-- Values of constants as the analysis keeps them.
use Rattle.std.specs.Prelude.{ℕ, suc, ◌-◌, ◌&&◌, List, map, Option, Some, option_map, if◌then◌else◌}
use Rattle.std.specs.List.{slice_get}
use Rattle.gd_model.specs.declared.key.Key.{Key}
use Rattle.gd_model.specs.declared.ty.Fixed.{Fixed}
use Rattle.gd_model.specs.declared.ty.Fixed.TheVariants as f
use Rattle.gd_model.specs.declared.ty.FixedThing.{FixedThing}
use Rattle.gd_model.specs.declared.ty.FixedThing.TheVariants.{Items, Pairs}
use Rattle.gd_model.specs.declared.ty.Ty.{Ty}
use Rattle.gd_model.specs.declared.ty.Ty.TheVariants as ty
use Rattle.gd_model.specs.declared.value.Value.{Value}
use Rattle.gd_model.specs.Datum.{Datum, null, bool, int, text, array, dictionary}
use Rattle.gd_model.specs.KeyDatum.{key_datum}
use Rattle.gd_model.specs.Meant.{datum}
use Rattle.assignability.specs.Assign.{is_variant}
use Rattle.constant_store.specs.declared.thing.ConstantThing.{ConstantThing}
use Rattle.constant_store.specs.declared.thing.ConstantThing.TheVariants as t
use Rattle.constant_store.specs.Things.{meant, thing_datum}

-- a thing stands by its place, which is one less than its serial number; the other kinds are no constants
abbrev pub fixed : Datum → Fixed
fixed (bool b) = f.Bool b
fixed (int n) = f.Int n
fixed (text s) = f.Str s
fixed (array s) = f.Thing (s - 1)
fixed (dictionary s) = f.Thing (s - 1)
fixed d = f.Nil

abbrev pub fixed_pair : Key × Value → Fixed × Fixed
fixed_pair p = (fixed (key_datum p.0), fixed (datum p.1))

-- a dictionary of any keys and values has no types of its own
abbrev pub dictionary_type : Ty → Ty → Ty
dictionary_type key value = if is_variant key && is_variant value then ty.Dict else ty.DictOf key value

abbrev pub fixed_thing : ConstantThing → FixedThing
fixed_thing (t.Array a) = Items a.element (map (λ v. fixed (datum v)) a.items)
fixed_thing (t.Dict d) = Pairs (dictionary_type d.key_type d.value_type) (map fixed_pair d.pairs)

-- the value that names the thing at a place
abbrev pub thing_at : List ConstantThing → ℕ → Option Datum
thing_at things place = option_map (λ t. thing_datum (meant t) (suc place)) (slice_get things place)

-- the value that is kept so
abbrev pub value_of : List ConstantThing → Fixed → Option Datum
value_of things f.Nil = Some null
value_of things (f.Bool b) = Some (bool b)
value_of things (f.Int n) = Some (int n)
value_of things (f.Str s) = Some (text s)
value_of things (f.Thing place) = thing_at things place
