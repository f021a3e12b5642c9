-- What a change does to a dictionary: its pairs then, what the method answers, and what leaves it.
use Rattle.std.specs.Prelude.{◌≡◌, ⊤, ℕ, ◌<◌, ◌≤◌, Bool, List, [], ◌∷◌, ◌++◌, length, fold, filter, map, cond, ◌+◌, ◌&&◌, ◌||◌, is_none, is_some, Option, None, Some, Result, Ok, Err}
use Rattle.std.specs.Option.{option_to_list}
use Rattle.gd_model.specs.declared.key.Key.{Key}
use Rattle.gd_model.specs.declared.value.Value.{Value}
use Rattle.gd_model.specs.declared.value.Value.TheVariants as v
use Rattle.gd_model.specs.Datum.{Datum}
use Rattle.gd_model.specs.KeyDatum.{key_datum}
use Rattle.gd_model.specs.Meant.{datum, dict_thing}
use Rattle.gd_model.specs.Store.{Store, DictThing}
use Rattle.gd_model.specs.View.{DictView, value_at, pair_at, with_pair, without_key}
use Rattle.gd_containers.specs.declared.fault.ThingFault.{ThingFault}
use Rattle.gd_containers.specs.declared.fault.ThingFault.TheVariants.{NoMemory}
use Rattle.assignability.specs.Fits.{fits}
use Rattle.value_semantics.specs.declared.builtin.Builtin.{Builtin}
use Rattle.store_semantics.specs.Writes.{Written, dict_gives}
use Rattle.container_methods.specs.declared.dict_change.DictChange.{DictChange}
use Rattle.container_methods.specs.declared.dict_change.DictChange.TheVariants.{Keep, Add, Erase, Clear, Merge}
use Rattle.container_methods.specs.declared.dict_change.GonePairs.{GonePairs}
use Rattle.container_methods.specs.declared.dict_change.GonePairs.TheVariants.{Nothing, One, All}

-- the pairs once others are put in turn
abbrev pub put_all : List (Key × Value) → List (Key × Value) → List (Key × Value)
put_all ps new = fold (λ qs p. with_pair qs p.0 p.1) ps new

-- each key that was there already when its pair was put, with the value that it had
abbrev pub replaced_by : Key → Option Value → List (Key × Value)
replaced_by k None = []
replaced_by k (Some old) = (k, old) ∷ []

abbrev pub replaced : List (Key × Value) → List (Key × Value) → List (Key × Value)
replaced ps [] = []
replaced ps (p ∷ new) = replaced_by p.0 (value_at ps p.0) ++ replaced (with_pair ps p.0 p.1) new

-- whether a pair fits the types of the dictionary
abbrev pub both_fit : (Datum → Bool) → (Datum → Bool) → Key × Value → Bool
both_fit key_fits value_fits p = key_fits (key_datum p.0) && value_fits (datum p.1)

-- the pairs of another dictionary that a merge puts: those of new keys, and with `over` all
abbrev pub written : Bool → List (Key × Value) → List (Key × Value) → List (Key × Value)
written over ps others = filter (λ p. over || is_none (value_at ps p.0)) others

-- how many keys of the other dictionary are new
abbrev pub fresh_count : List (Key × Value) → List (Key × Value) → ℕ
fresh_count ps [] = 0
fresh_count ps (p ∷ others) = cond (is_none (value_at ps p.0)) 1 0 + fresh_count ps others

abbrev pub pairs_after : DictChange → List (Key × Value) → List (Key × Value)
pairs_after (Keep w) ps = ps
pairs_after (Add k x w) ps = with_pair ps k x
pairs_after (Erase k) ps = without_key ps k
pairs_after Clear ps = []
pairs_after (Merge new) ps = put_all ps new.items

abbrev pub after : DictChange → DictView → DictView
after change d = record d { pairs = pairs_after change d.pairs }

abbrev pub answer : DictChange → List (Key × Value) → Value
answer (Keep w) ps = w
answer (Add k x w) ps = w
answer (Erase k) ps = v.Bool (is_some (value_at ps k))
answer change ps = v.Nil

-- what leaves the dictionary, and the keys that a merge brings once more
abbrev pub gone : DictChange → List (Key × Value) → List (Key × Value)
gone (Erase k) ps = option_to_list (pair_at ps k)
gone Clear ps = ps
gone (Merge new) ps = replaced ps new.items
gone change ps = []

abbrev pub pairs_of : GonePairs → List (Key × Value)
pairs_of Nothing = []
pairs_of (One k x) = (k, x) ∷ []
pairs_of (All ps) = ps.items

-- there is room for what a change brings
abbrev pub HasRoom : DictChange → List (Key × Value) → Type 0
HasRoom (Add k x w) ps = length ps < 16777216
HasRoom (Merge new) ps = length (put_all ps new.items) ≤ 16777216
HasRoom change ps = ⊤

-- the change was made; where it does not come to that, memory lacked
abbrev pub Makes : DictChange → DictView → DictView → Result (Value × GonePairs) ThingFault → Type 0
Makes change old new (Ok r) = (new ≡ after change old) × (r.0 ≡ answer change old.pairs) × (pairs_of r.1 ≡ gone change old.pairs)
Makes change old new (Err f) = f ≡ NoMemory

-- a change that was decided, as the dictionary and the answer that are meant
abbrev pub made : DictView → DictChange → DictThing × Datum
made d change = (dict_thing (after change d), datum (answer change d.pairs))

-- what a method gives on the dictionary with these arguments, once the call is open
abbrev pub gives : (ℕ → List ℕ) → Store → Builtin → DictView → List Value → Written DictThing
gives bases store method d args = dict_gives (fits bases store d.key_type) (fits bases store d.value_type) store method (dict_thing d) (map datum args)
