-- What is read in lists at a place, and in a dictionary at a key.
use Rattle.std.proofs.Common.{◌≡◌, ℕ, ◌+◌, ◌<◌, ◌≤◌, Bool, true, false, cond, List, [], ◌∷◌, ◌++◌, length, map, drop, take, get_or, slice_get, Option, None, Some, option_map, Result, Ok, Err, if◌then◌else◌, refl, ap, sym, ◌∙◌, subst, add-one, arith, ℤ, option_and_then, to_z, of_z, w64, SFits}
use Rattle.std.specs.List.{position_from}
use Rattle.std.proofs.Math.ListN.{get_or-map}
use Rattle.std.proofs.Math.Seq.{drop-cons, take-suc}
use Rattle.std.proofs.lemmas.List.{length-map, drop_all, map-append}
use Rattle.std.proofs.lemmas.Option.{slice_get_read, slice_get-map}
use Rattle.gd_model.specs.declared.fault.RunFault.{RunFault}
use Rattle.gd_model.specs.declared.fault.RunFault.TheVariants.{BadKey, NoSuchKey}
use Rattle.gd_model.specs.declared.key.Key.{Key}
use Rattle.gd_model.specs.declared.key.Key.TheVariants as k
use Rattle.gd_model.specs.declared.value.Value.{Value}
use Rattle.gd_model.specs.declared.value.Value.TheVariants as v
use Rattle.gd_model.specs.Datum.{Datum, text}
use Rattle.gd_model.specs.Place.{place, element_at}
use Rattle.std.proofs.lemmas.Int.{to_z-of_z}
use Rattle.gd_model.specs.KeyDatum.{key_datum}
use Rattle.gd_model.specs.Meant.{datum, dict_thing}
use Rattle.gd_model.specs.Same.{is_key}
use Rattle.gd_model.specs.Store.{DictThing, value_at}
use Rattle.gd_model.specs.View as view
use Rattle.gd_model.specs.View.{DictView}
use Rattle.gd_answers.specs.Answers.{AnswersAs}
use Rattle.gd_containers.specs.Answers.{RefusedBy}
use Rattle.gd_containers.specs.declared.fault.ThingFault.{ThingFault}
use Rattle.gd_containers.specs.declared.fault.ThingFault.TheVariants.{Run, NoMemory}
use Rattle.gd_containers.specs.Keys.{key_fault}
use Rattle.gd_containers.proofs.Meanings.{value_at-meant}
use Rattle.store_semantics.specs.Subscripts.{entry, or_fault, one_character}
use Rattle.constant_store.specs.declared.thing.ConstantThing.{ConstantThing}
use Rattle.constant_store.specs.Things.{all_held, is_held}
use Rattle.constant_store.proofs.Kept.{all_at}

key_is_key : (key : Key) → is_key (key_datum key) ≡ true
key_is_key k.Nil = refl
key_is_key (k.Bool b) = refl
key_is_key (k.Int n) = refl
key_is_key (k.Str s) = refl
key_is_key (k.Object h) = refl

asked : (d : DictThing) (key : Datum) → is_key key ≡ true → entry d key ≡ or_fault NoSuchKey (value_at d.pairs key)
asked d key e = ap (λ b. let r : Result Datum RunFault = if b then or_fault NoSuchKey (value_at d.pairs key) else Err BadKey in r) e

entry_is : (d : DictView) (key : Key) (found : Option Value) → found ≡ view.value_at d.pairs key → entry (dict_thing d) (key_datum key) ≡ or_fault NoSuchKey (option_map datum found)
entry_is d key found e = asked (dict_thing d) (key_datum key) (key_is_key key) ∙ ap (or_fault NoSuchKey) (value_at-meant d.pairs key ∙ ap (option_map datum) (sym e))

pub entry_found : (d : DictView) (key : Key) (x : Value) → Some x ≡ view.value_at d.pairs key → entry (dict_thing d) (key_datum key) ≡ Ok (datum x)
entry_found d key x e = entry_is d key (Some x) e

pub entry_missing : (d : DictView) (key : Key) → None ≡ view.value_at d.pairs key → entry (dict_thing d) (key_datum key) ≡ Err NoSuchKey
entry_missing d key e = entry_is d key None e

no_entry : (d : DictThing) (x : Value) (f : RunFault) → key_fault x ≡ Some f → entry d (datum x) ≡ Err f
no_entry d (v.Array h) f e = let same : BadKey ≡ f = cc in ap (λ g. Err g) same
no_entry d (v.Dict h) f e = let same : BadKey ≡ f = cc in ap (λ g. Err g) same
no_entry d (v.Callable c) f e = let same : BadKey ≡ f = cc in ap (λ g. Err g) same
no_entry d (v.Signal s) f e = let same : BadKey ≡ f = cc in ap (λ g. Err g) same
no_entry d v.Nil f e = cc
no_entry d (v.Bool b) f e = cc
no_entry d (v.Int n) f e = cc
no_entry d (v.Str s) f e = cc
no_entry d (v.Object h) f e = cc

pub entry_refused : (d : DictThing) (x : Value) (fault : ThingFault) → RefusedBy {T = Key} (key_fault x) (Err fault) → AnswersAs {B = Value} datum (entry d (datum x)) (Err fault)
entry_refused d x (Run f) e = no_entry d x f e
entry_refused d x NoMemory e = tt

module _ {X Y : Type 0} (f : X → Y) (xs : List X) where
  pub read_map : (i : ℕ) (x : X) → i < length xs → x ≡ get_or xs i x → slice_get (map f xs) i ≡ Some (f x)
  read_map i x within e = slice_get-map f xs i ∙ ap (option_map f) (slice_get_read xs (length xs) i x refl within e)

  -- the elements in another form from place i on, where x is the element at i
  pub cut_map : (i : ℕ) (x : X) → i < length xs → x ≡ get_or xs i x → drop i (map f xs) ≡ f x ∷ drop (i + 1) (map f xs)
  cut_map i x h e =
      let within : i < length (map f xs) = omega (arith, length-map xs f) in
      let at : get_or (map f xs) i (f x) ≡ f x = get_or-map f xs i x ∙ ap f (sym e) in
      drop-cons (map f xs) i (f x) within ∙ (λ j. at j ∷ drop (sym (add-one i) j) (map f xs))

  pub past_map : (i : ℕ) → length xs ≤ i → drop i (map f xs) ≡ []
  past_map i h = drop_all i (map f xs) (omega (arith, length-map xs f))

  -- one more element
  pub map_more : (i : ℕ) (x : X) → i < length xs → x ≡ get_or xs i x → map f (take (i + 1) xs) ≡ map f (take i xs) ++ f x ∷ []
  map_more i x within e =
      ap (map f) (ap (λ n. take n xs) (add-one i) ∙ take-suc xs i x within ∙ ap (λ y. take i xs ++ y ∷ []) (sym e))
      ∙ map-append f (take i xs) (x ∷ [])

pub item_held_at : (things : List ConstantThing) (xs : List Value) (i : ℕ) (x : Value) → i < length xs → x ≡ get_or xs i x → all_held things xs ≡ true → is_held things (datum x) ≡ true
item_held_at things xs i x within e h = all_at (is_held things) (map datum xs) i (datum x) (read_map datum xs i x within e) h

module _ (test : Datum → Bool) (xs : List Value) where
  here : (i : ℕ) (x : Value) (b : Bool) → i < length xs → x ≡ get_or xs i x → test (datum x) ≡ b → position_from test i (drop i (map datum xs)) ≡ cond b (Some i) (position_from test (i + 1) (drop (i + 1) (map datum xs)))
  here i x b within e said = ap (position_from test i) (cut_map datum xs i x within e) ∙ ap (λ y. cond y (Some i) (position_from test (i + 1) (drop (i + 1) (map datum xs)))) said

  pub place_here : (i : ℕ) (x : Value) → i < length xs → x ≡ get_or xs i x → test (datum x) ≡ true → position_from test i (drop i (map datum xs)) ≡ Some i
  place_here i x within e said = here i x true within e said

  pub place_past : (i : ℕ) (x : Value) → i < length xs → x ≡ get_or xs i x → test (datum x) ≡ false → position_from test i (drop i (map datum xs)) ≡ position_from test (i + 1) (drop (i + 1) (map datum xs))
  place_past i x within e said = here i x false within e said

  pub place_nowhere : (i : ℕ) → length xs ≤ i → position_from test i (drop i (map datum xs)) ≡ None
  place_nowhere i h = ap (position_from test i) (past_map datum xs i h)

-- the character at the place that a number names
pub char_read : (cs ds : List ℕ) (at : ℤ) (i c : ℕ) (s : List ℕ) → SFits w64 at → cs ≡ ds → Some i ≡ place (to_z w64 (of_z w64 at)) (length cs) → i < length cs → c ≡ get_or cs i c → s ≡ c ∷ [] → one_character (element_at ds at) ≡ Ok (text s)
char_read cs ds at i c s fits same passed within read made =
    let found : Some i ≡ place at (length cs) = subst (λ (z : ℤ). Some i ≡ place z (length cs)) (to_z-of_z w64 at fits) passed in
    let e : element_at cs at ≡ Some c = ap (option_and_then (λ j. slice_get cs j)) (sym found) ∙ slice_get_read cs (length cs) i c refl within read in
    ap one_character (ap (λ xs. element_at xs at) (sym same) ∙ e) ∙ ap (λ x. Ok (text x)) (sym made)
