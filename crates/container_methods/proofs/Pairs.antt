-- The pairs of a dictionary, as the language means them.
use Rattle.std.proofs.Common.{◌≡◌, Bool, true, false, not, cond, ◌&&◌, List, [], ◌∷◌, map, Option, None, Some, option_map, is_some, Ok, Err, refl, ap, sym, ◌∙◌, if◌then◌else◌}
use Rattle.gd_model.specs.declared.fault.RunFault.{RunFault}
use Rattle.gd_model.specs.declared.fault.RunFault.TheVariants.{BadKey, TooLong, ValueOfAnotherType}
use Rattle.gd_model.specs.declared.key.Key.{Key}
use Rattle.gd_model.specs.declared.value.Value.{Value}
use Rattle.gd_model.specs.declared.value.Value.TheVariants as v
use Rattle.gd_model.specs.Datum.{Datum}
use Rattle.gd_model.specs.Datum as d
use Rattle.gd_model.specs.Key.{one_key}
use Rattle.gd_model.specs.KeyDatum.{key_datum}
use Rattle.gd_model.specs.Meant.{datum, pair_datum, dict_thing}
use Rattle.gd_model.specs.Same.{is_key}
use Rattle.gd_model.specs.Store as store
use Rattle.gd_model.specs.Store.{Store, DictThing}
use Rattle.gd_model.specs.View as view
use Rattle.gd_model.specs.View.{DictView}
use Rattle.gd_containers.specs.declared.fault.ThingFault.{ThingFault}
use Rattle.gd_containers.specs.declared.fault.ThingFault.TheVariants.{Run, NoMemory}
use Rattle.gd_containers.specs.Keys.{key_fault}
use Rattle.gd_containers.proofs.Meanings.{value_at-meant}
use Rattle.gd_answers.specs.Answers.{AnswersAs, exact}
use Rattle.gd_answers.proofs.Answer.{given, refused_so}
use Rattle.store_semantics.specs.Subscripts.{unless}
use Rattle.value_semantics.specs.declared.builtin.Builtin.TheVariants as b
use Rattle.store_semantics.specs.Writes.{Written, dict_gives, is_full, get_or_add, got_or_added, erase}
use Rattle.container_methods.specs.declared.dict_change.DictChange.TheVariants.{Keep, Add, Erase}
use Rattle.container_methods.specs.Dicts.{made}
use Rattle.container_methods.proofs.Decided.{unless_given, unless_refused}

put_by : (b : Bool) (p : Key × Value) (x : Value) (ps qs : List (Key × Value)) (zs : List (Datum × Datum)) → zs ≡ map pair_datum qs → (if b then (key_datum p.0, datum x) ∷ map pair_datum ps else pair_datum p ∷ zs) ≡ map pair_datum (if b then (p.0, x) ∷ ps else p ∷ qs)
put_by true p x ps qs zs e = refl
put_by false p x ps qs zs e = ap (λ ws. pair_datum p ∷ ws) e

-- the pairs once one is put, and without that of a key
pub with_pair-meant : (ps : List (Key × Value)) (k : Key) (x : Value) → store.with_pair (map pair_datum ps) (key_datum k) (datum x) ≡ map pair_datum (view.with_pair ps k x)
with_pair-meant [] k x = refl
with_pair-meant (p ∷ ps) k x = put_by (one_key k p.0) p x ps (view.with_pair ps k x) _ (with_pair-meant ps k x)

left_by : (b : Bool) (p : Key × Value) (ps qs : List (Key × Value)) (zs : List (Datum × Datum)) → zs ≡ map pair_datum qs → cond b (map pair_datum ps) (pair_datum p ∷ zs) ≡ map pair_datum (cond b ps (p ∷ qs))
left_by true p ps qs zs e = refl
left_by false p ps qs zs e = ap (λ ws. pair_datum p ∷ ws) e

pub without_key-meant : (ps : List (Key × Value)) (k : Key) → store.without_key (map pair_datum ps) (key_datum k) ≡ map pair_datum (view.without_key ps k)
without_key-meant [] k = refl
without_key-meant (p ∷ ps) k = left_by (one_key k p.0) p ps (view.without_key ps k) _ (without_key-meant ps k)

key_taken : (k : Value) → key_fault k ≡ None → is_key (datum k) ≡ true
key_taken (v.Array h) e = cc
key_taken (v.Dict h) e = cc
key_taken (v.Callable t) e = cc
key_taken (v.Signal s) e = cc
key_taken v.Nil e = refl
key_taken (v.Bool b) e = refl
key_taken (v.Int n) e = refl
key_taken (v.Str t) e = refl
key_taken (v.Object h) e = refl

there : (o : Option Value) → is_some (option_map datum o) ≡ is_some o
there None = refl
there (Some w) = refl

with_key : (k : Value) → key_fault k ≡ None → (given : Written DictThing) → (if is_key (datum k) then given else Err BadKey) ≡ given
with_key k none given = ap (λ b. if b then given else Err BadKey) (key_taken k none)

module _ (m : DictView) (k : Value) (key : Key) (none : key_fault k ≡ None) (meant : key_datum key ≡ datum k) where
  abbrev pairs : List (Datum × Datum)
  pairs = map pair_datum m.pairs

  at_key : store.value_at pairs (datum k) ≡ option_map datum (view.value_at m.pairs key)
  at_key = ap (store.value_at pairs) (sym meant) ∙ value_at-meant m.pairs key

  -- the pair of the key goes
  pub erase_given : erase (dict_thing m) (datum k) ≡ Ok (made m (Erase key))
  erase_given =
      with_key k none (Ok (record (dict_thing m) { pairs = store.without_key pairs (datum k) }, d.bool (is_some (store.value_at pairs (datum k)))))
      ∙ (λ i. Ok (record (dict_thing m) { pairs = store.without_key pairs (sym meant i) }, d.bool (is_some (at_key i))))
      ∙ (λ i. Ok (record (dict_thing m) { pairs = without_key-meant m.pairs key i }, d.bool (there (view.value_at m.pairs key) i)))

  pub erase_called : (key_fits value_fits : Datum → Bool) (things : Store) (args : List Value) → args ≡ k ∷ [] → dict_gives key_fits value_fits things b.DictionaryErase (dict_thing m) (map datum args) ≡ Ok (made m (Erase key))
  erase_called key_fits value_fits things args one = ap (λ (xs : List Value). dict_gives key_fits value_fits things b.DictionaryErase (dict_thing m) (map datum xs)) one ∙ erase_given

  module _ (key_fits value_fits : Datum → Bool) (other : Value) where
    abbrev add : Option Datum → Written DictThing
    add found = got_or_added key_fits value_fits (dict_thing m) (datum k) (datum other) found

    -- a key is sought
    pub get_or_add_is : get_or_add key_fits value_fits (dict_thing m) (datum k) (datum other) ≡ add (store.value_at pairs (datum k))
    get_or_add_is = with_key k none (add (store.value_at pairs (datum k)))

module _ (m : DictView) (k : Value) (key : Key) (meant : key_datum key ≡ datum k) (key_fits value_fits : Datum → Bool) (other : Value) where
  abbrev all : List (Datum × Datum)
  all = map pair_datum m.pairs

  abbrev put_or : Option Datum → Written DictThing
  put_or found = got_or_added key_fits value_fits (dict_thing m) (datum k) (datum other) found

  -- what is found at the key
  pub found_as : (found : Option Value) → found ≡ view.value_at m.pairs key → put_or (store.value_at all (datum k)) ≡ put_or (option_map datum found)
  found_as found e = ap put_or (ap (store.value_at all) (sym meant) ∙ value_at-meant m.pairs key ∙ ap (option_map datum) (sym e))

  pub kept_given : (x w : Value) → Some x ≡ view.value_at m.pairs key → w ≡ x → put_or (store.value_at all (datum k)) ≡ Ok (made m (Keep w))
  kept_given x w e f = found_as (Some x) e ∙ ap (λ y. Ok (dict_thing m, datum y)) (sym f)

  abbrev asked : List (Bool × RunFault)
  asked = (not (key_fits (datum k) && value_fits (datum other)), ValueOfAnotherType) ∷ (is_full all, TooLong) ∷ []

  abbrev with_it : DictThing × Datum
  with_it = (record (dict_thing m) { pairs = store.with_pair all (datum k) (datum other) }, datum other)

  pub added_given : (x w : Value) → Ok (tt {0}) ≡ exact (unless asked (tt {0})) → x ≡ other → w ≡ other → put_or None ≡ Ok (made m (Add key x w))
  added_given x w e ex ew =
      unless_given asked (tt {0}) (tt {0}) with_it (given (unless asked (tt {0})) (tt {0}) e)
      ∙ (λ i. Ok (record (dict_thing m) { pairs = store.with_pair all (sym meant i) (datum (sym ex i)) }, datum (sym ew i)))
      ∙ (λ i. Ok (record (dict_thing m) { pairs = with_pair-meant m.pairs key x i }, datum w))

  pub added_refused : (f : ThingFault) → Err f ≡ exact (unless asked (tt {0})) → AnswersAs (made m) (put_or None) (Err f)
  added_refused (Run f) e = unless_refused asked (tt {0}) with_it f (refused_so (unless asked (tt {0})) f e)
  added_refused NoMemory e = tt

-- a value and a pair are found at the same keys
alike_by : (b : Bool) (x : Value) (p : Key × Value) (o : Option Value) (q : Option (Key × Value)) → is_some o ≡ is_some q → is_some (cond b (Some x) o) ≡ is_some (cond b (Some p) q)
alike_by true x p o q e = refl
alike_by false x p o q e = e

pub found_alike : (ps : List (Key × Value)) (k : Key) → is_some (view.value_at ps k) ≡ is_some (view.pair_at ps k)
found_alike [] k = refl
found_alike (p ∷ ps) k = alike_by (one_key k p.0) p.1 p (view.value_at ps k) (view.pair_at ps k) (found_alike ps k)

-- the answer where a key is taken out
pub erased_so : (ps : List (Key × Value)) (k : Key) (found : Option (Key × Value)) → found ≡ view.pair_at ps k → v.Bool (is_some found) ≡ v.Bool (is_some (view.value_at ps k))
erased_so ps k found e = ap (λ b. v.Bool b) (ap is_some e ∙ sym (found_alike ps k))

-- `merge` with one argument does not write over
pub merge_alone : (key_fits value_fits : Datum → Bool) (things : Store) (m : DictThing) (x : Value) → dict_gives key_fits value_fits things b.DictionaryMerge m (datum x ∷ d.bool false ∷ []) ≡ dict_gives key_fits value_fits things b.DictionaryMerge m (datum x ∷ [])
merge_alone key_fits value_fits things m v.Nil = refl
merge_alone key_fits value_fits things m (v.Bool c) = refl
merge_alone key_fits value_fits things m (v.Int n) = refl
merge_alone key_fits value_fits things m (v.Str t) = refl
merge_alone key_fits value_fits things m (v.Object h) = refl
merge_alone key_fits value_fits things m (v.Array h) = refl
merge_alone key_fits value_fits things m (v.Dict h) = refl
merge_alone key_fits value_fits things m (v.Callable t) = refl
merge_alone key_fits value_fits things m (v.Signal s) = refl
