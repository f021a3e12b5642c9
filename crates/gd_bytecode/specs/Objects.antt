-- The values of objects and of static variables.
use Rattle.std.specs.Prelude.{ℕ, Bool, ◌&&◌, nat_eq, List, [], ◌∷◌, map, slice_get, slice_set, unwrap_or, Option, Some, Result, Ok, if◌then◌else◌}
use Rattle.std.specs.Str.{bytes_eq}
use Rattle.gd_model.specs.declared.fault.RunFault.{RunFault}
use Rattle.gd_model.specs.declared.ty.Ty.{Ty}
use Rattle.gd_model.specs.Datum.{Datum, null}
use Rattle.gd_model.specs.Store.{Store, Thing, class_behind}
use Rattle.gd_model.specs.Store as thing
use Rattle.value_semantics.specs.Answer.{and_then, in_form}
use Rattle.store_semantics.specs.Starts.{start}
use Rattle.store_semantics.specs.World.{World, Static, store_of, write}

-- the class of an object, and the values of its variables
abbrev pub class_of : World → ℕ → ℕ
class_of w s = unwrap_or (class_behind (store_of w s)) 0

abbrev pub values_behind : Option Thing → List Datum
values_behind (Some (thing.object k values)) = values
values_behind t = []

abbrev pub values_of : World → ℕ → List Datum
values_of w s = values_behind (store_of w s)

abbrev pub field_value : World → ℕ → ℕ → Datum
field_value w s i = unwrap_or (slice_get (values_of w s) i) null

abbrev pub with_field : World → ℕ → ℕ → Datum → World
with_field w s i v = write w s (thing.object (class_of w s) (slice_set (values_of w s) i v))

-- the static variable of a class with this name
abbrev pub is_static_of : ℕ → List ℕ → Static → Bool
is_static_of k name s = nat_eq s.class k && bytes_eq s.name name

abbrev pub static_in : ℕ → List ℕ → List Static → Datum
static_in k name [] = null
static_in k name (s ∷ ss) = if is_static_of k name s then s.value else static_in k name ss

abbrev pub static_value : World → ℕ → List ℕ → Datum
static_value w k name = static_in k name w.statics

abbrev pub with_static : World → ℕ → List ℕ → Datum → World
with_static w k name v = record w { statics = map (λ s. if is_static_of k name s then record s { value = v } else s) w.statics }

-- start values of several types, made in order
abbrev pub with_start : Datum → Result (List Datum × World) RunFault → Result (List Datum × World) RunFault
with_start v r = in_form (λ p. (v ∷ p.0, p.1)) r

abbrev pub starts : World → List Ty → Result (List Datum × World) RunFault
starts w [] = Ok ([], w)
starts w (t ∷ ts) = and_then (start w t) (λ p. with_start p.0 (starts p.1 ts))
