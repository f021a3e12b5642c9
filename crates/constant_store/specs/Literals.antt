-- What array and dictionary literals make.
use Rattle.std.specs.Prelude.{◌≡◌, ℕ, ℤ, ◌+◌, suc, Bool, true, not, ◌&&◌, nat_le, List, [], ◌∷◌, ◌++◌, length, Option, None, Some, is_none, Result, Ok, Err, if◌then◌else◌}
use Rattle.std.specs.List.{position_from}
use Rattle.gd_model.specs.declared.ty.Ty.{Ty}
use Rattle.gd_model.specs.declared.value.Value.{Value}
use Rattle.gd_model.specs.Datum.{Datum, text, int}
use Rattle.gd_model.specs.Meant.{datum}
use Rattle.gd_model.specs.Same.{is_key}
use Rattle.gd_model.specs.Store.{Thing, array, dict, value_at, with_pair}
use Rattle.gd_containers.specs.declared.fault.ThingFault.{ThingFault}
use Rattle.gd_containers.specs.declared.fault.ThingFault.TheVariants.{Run, NoMemory as Lack}
use Rattle.assignability.specs.Fits as fitting
use Rattle.constant_store.specs.declared.literals.LiteralFault.{LiteralFault}
use Rattle.constant_store.specs.declared.literals.LiteralFault.TheVariants.{Element, BadKey, Key, Value as OfValue, TooLong, NoMemory}
use Rattle.constant_store.specs.declared.thing.ConstantThing.{ConstantThing}
use Rattle.constant_store.specs.Things.{meant, store_of, thing_datum}

-- the value fits the type; no constant is an object, so the bases of classes count for nothing
abbrev pub fits : List ConstantThing → Ty → Datum → Bool
fits things t d = fitting.fits (λ class. []) (store_of things) t d

abbrev pub is_too_long : {X : Type 0} → List X → Bool
is_too_long xs = not (nat_le (length xs) 16777216)

-- the array, or the first element that does not fit
abbrev pub or_misfit : Option ℕ → Ty → List Datum → Result Thing LiteralFault
or_misfit (Some place) element items = Err (Element place)
or_misfit None element items = if is_too_long items then Err TooLong else Ok (array (record { element = element; fixed = true; items = items }))

abbrev pub array_made : List ConstantThing → Ty → List Datum → Result Thing LiteralFault
array_made things element items = or_misfit (position_from (λ d. not (fits things element d)) 0 items) element items

-- the first fault whose condition holds, or else what is given
abbrev pub unless : {A : Type 0} → List (Bool × LiteralFault) → A → Result A LiteralFault
unless [] given = Ok given
unless (c ∷ rest) given = if c.0 then Err c.1 else unless rest given

-- the first operation, and then the other on what it gave
abbrev pub and_then : {A B : Type 0} → Result A LiteralFault → (A → Result B LiteralFault) → Result B LiteralFault
and_then (Ok x) more = more x
and_then (Err f) more = Err f

-- the key of the pair that stands at this place of a literal, if the pair has no fault
abbrev pub tested : List ConstantThing → Ty → Ty → ℕ → Datum × Datum → Result Datum LiteralFault
tested things key value place p = unless ((not (is_key p.0), BadKey place) ∷ (not (fits things key p.0), Key place) ∷ (not (fits things value p.1), OfValue place) ∷ []) p.0

-- whether there is no room for a new key
abbrev pub is_full : List (Datum × Datum) → Datum → Bool
is_full old k = nat_le 16777216 (length old) && is_none (value_at old k)

abbrev pub placed : List (Datum × Datum) → Datum → Datum → Result (List (Datum × Datum)) LiteralFault
placed old k v = unless ((is_full old k, TooLong) ∷ []) (with_pair old k v)

-- the pairs with one more
abbrev pub with_more : List ConstantThing → Ty → Ty → ℕ → List (Datum × Datum) → Datum × Datum → Result (List (Datum × Datum)) LiteralFault
with_more things key value place old p = and_then (tested things key value place p) (λ k. placed old k p.1)

-- why a value is no key, and why a pair is not put where it fits
abbrev pub key_refusal : ℕ → ThingFault → LiteralFault
key_refusal place (Run f) = BadKey place
key_refusal place Lack = NoMemory

abbrev pub put_refusal : ThingFault → LiteralFault
put_refusal (Run f) = TooLong
put_refusal Lack = NoMemory

-- the pairs with those of a literal, pair by pair, of which the first stands at `place`
abbrev pub with_all : List ConstantThing → Ty → Ty → ℕ → List (Datum × Datum) → List (Datum × Datum) → Result (List (Datum × Datum)) LiteralFault
with_all things key value place [] old = Ok old
with_all things key value place (p ∷ ps) old = and_then (with_more things key value place old p) (with_all things key value (place + 1) ps)

abbrev pub dict_made : Ty → Ty → List (Datum × Datum) → Thing
dict_made key value pairs = dict (record { key_type = key; value_type = value; fixed = true; pairs = pairs })

abbrev pub dictionary_made : List ConstantThing → Ty → Ty → List (Datum × Datum) → Result Thing LiteralFault
dictionary_made things key value pairs = and_then (with_all things key value 0 pairs []) (λ all. Ok (dict_made key value all))

-- the value of an enum by its name
abbrev pub enum_pair : List ℕ × ℤ → Datum × Datum
enum_pair p = (text p.0, int p.1)

-- a call answers what is meant, `form` being what its answer means, or that memory lacks
abbrev pub AnswersLiteral : {A B : Type 0} → (B → A) → Result A LiteralFault → Result B LiteralFault → Type 0
AnswersLiteral form want (Ok x) = want ≡ Ok (form x)
AnswersLiteral form want (Err NoMemory) = Unit {0}
AnswersLiteral form want (Err f) = want ≡ Err f

-- the literal's thing is put behind the others, and named; a refusal changes nothing
abbrev pub Makes : List ConstantThing → List ConstantThing → Result Thing LiteralFault → Result Value LiteralFault → Type 0
Makes old new want (Ok v) = (t : ConstantThing) × (want ≡ Ok (meant t)) × (new ≡ old ++ t ∷ []) × (datum v ≡ thing_datum (meant t) (suc (length old)))
Makes old new want (Err NoMemory) = new ≡ old
Makes old new want (Err f) = (want ≡ Err f) × (new ≡ old)
