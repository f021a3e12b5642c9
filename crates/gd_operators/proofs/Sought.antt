-- How a value is sought in a container.
use Rattle.std.proofs.Common.{◌≡◌, ℕ, ◌+◌, ◌<◌, ◌≤◌, Bool, true, false, is_some, List, ◌∷◌, length, map, drop, get_or, Option, None, Some, option_map, Result, Ok, Err, if◌then◌else◌, refl, ap, sym, ◌∙◌, add-one, arith, Bor}
use Rattle.std.specs.Option.{option_copied}
use Rattle.std.proofs.Math.ListN.{get_or-map}
use Rattle.std.proofs.Math.Seq.{drop-cons}
use Rattle.std.proofs.lemmas.List.{length-map, drop_all}
use Rattle.gd_model.specs.declared.fault.RunFault.{RunFault}
use Rattle.gd_model.specs.declared.fault.RunFault.TheVariants.{BadKey}
use Rattle.gd_model.specs.declared.key.Key.{Key}
use Rattle.gd_model.specs.declared.value.Value.{Value}
use Rattle.gd_model.specs.declared.value.Value.TheVariants as v
use Rattle.gd_model.specs.Datum.{Datum}
use Rattle.gd_model.specs.KeyDatum.{key_datum}
use Rattle.gd_model.specs.Meant.{datum, dict_thing}
use Rattle.gd_model.specs.Same.{is_key}
use Rattle.gd_model.specs.Store.{DictThing, value_at}
use Rattle.gd_model.specs.View as view
use Rattle.gd_model.specs.View.{DictView}
use Rattle.gd_containers.specs.declared.fault.ThingFault.{ThingFault}
use Rattle.gd_containers.specs.declared.fault.ThingFault.TheVariants.{Run, NoMemory}
use Rattle.gd_containers.specs.Answers.{RefusedBy}
use Rattle.gd_containers.specs.Keys.{key_fault}
use Rattle.gd_containers.proofs.Meanings.{value_at-meant}
use Rattle.gd_answers.specs.Answers.{exact, Answers}
use Rattle.gd_answers.proofs.Answer.{fault_and_then}
use Rattle.value_semantics.specs.Answer.{and_then}
use Rattle.value_semantics.specs.Operators.{first_place, has_key}

-- a test that says yes or no
said_no : {A : Type 0} → (v : Result Bool RunFault) (x y : Result A RunFault) → exact v ≡ Ok false → and_then v (λ yes. if yes then x else y) ≡ y
said_no (Err f) x y e = cc
said_no (Ok true) x y e = cc
said_no (Ok false) x y e = refl

said_yes : {A : Type 0} → (v : Result Bool RunFault) (x y : Result A RunFault) → exact v ≡ Ok true → and_then v (λ yes. if yes then x else y) ≡ x
said_yes (Err f) x y e = cc
said_yes (Ok true) x y e = refl
said_yes (Ok false) x y e = cc

module _ (test : Datum → Result Bool RunFault) (xs : List Value) where
  -- the search from place i on, where x is the element at i
  places_here : (i : ℕ) (x : Value) → i < length xs → x ≡ get_or xs i x → first_place test i (drop i (map datum xs)) ≡ and_then (test (datum x)) (λ yes. if yes then Ok (Some i) else first_place test (i + 1) (drop (i + 1) (map datum xs)))
  places_here i x h e =
      let within : i < length (map datum xs) = omega (arith, length-map xs datum) in
      let at : get_or (map datum xs) i (datum x) ≡ datum x = get_or-map datum xs i x ∙ ap datum (sym e) in
      ap (first_place test i) (drop-cons (map datum xs) i (datum x) within ∙ (λ j. at j ∷ drop (sym (add-one i) j) (map datum xs)))

  pub places_no : (i : ℕ) (x : Value) → i < length xs → x ≡ get_or xs i x → exact (test (datum x)) ≡ Ok false → first_place test i (drop i (map datum xs)) ≡ first_place test (i + 1) (drop (i + 1) (map datum xs))
  places_no i x h e said = places_here i x h e ∙ said_no _ _ _ said

  pub places_yes : (i : ℕ) (x : Value) → i < length xs → x ≡ get_or xs i x → exact (test (datum x)) ≡ Ok true → first_place test i (drop i (map datum xs)) ≡ Ok (Some i)
  places_yes i x h e said = places_here i x h e ∙ said_yes _ _ _ said

  pub places_fault : (i : ℕ) (x : Value) (f : ThingFault) → i < length xs → x ≡ get_or xs i x → Err f ≡ exact (test (datum x)) → Err f ≡ exact (first_place test i (drop i (map datum xs)))
  places_fault i x f h e fault = fault_and_then (λ yes. if yes then Ok (Some i) else first_place test (i + 1) (drop (i + 1) (map datum xs))) (test (datum x)) f fault ∙ ap exact (sym (places_here i x h e))

  -- nothing is left behind the last element
  pub places_end : (i : ℕ) → length xs ≤ i → first_place test i (drop i (map datum xs)) ≡ Ok None
  places_end i h =
      let past : length (map datum xs) ≤ i = omega (arith, length-map xs datum) in
      ap (first_place test i) (drop_all i (map datum xs) past)

not_refused : (x : Value) → key_fault x ≡ None → is_key (datum x) ≡ true
not_refused (v.Array h) e = cc
not_refused (v.Dict h) e = cc
not_refused (v.Callable t) e = cc
not_refused (v.Signal s) e = cc
not_refused v.Nil e = refl
not_refused (v.Bool b) e = refl
not_refused (v.Int n) e = refl
not_refused (v.Str t) e = refl
not_refused (v.Object h) e = refl

key_refused : (x : Value) (t : DictThing) (f : RunFault) → key_fault x ≡ Some f → has_key (datum x) t ≡ Err f
key_refused (v.Array h) t f e = let is : BadKey ≡ f = cc in ap (λ g. Err g) is
key_refused (v.Dict h) t f e = let is : BadKey ≡ f = cc in ap (λ g. Err g) is
key_refused (v.Callable s) t f e = let is : BadKey ≡ f = cc in ap (λ g. Err g) is
key_refused (v.Signal s) t f e = let is : BadKey ≡ f = cc in ap (λ g. Err g) is
key_refused v.Nil t f e = cc
key_refused (v.Bool b) t f e = cc
key_refused (v.Int n) t f e = cc
key_refused (v.Str s) t f e = cc
key_refused (v.Object h) t f e = cc

-- a value that is refused as a key
pub no_key : (x : Value) (t : DictThing) (f : ThingFault) → RefusedBy {T = Key} (key_fault x) (Err f) → Answers (has_key (datum x) t) (Err f)
no_key x t (Run f) h = key_refused x t f h
no_key x t NoMemory h = tt

is_some-map : (o : Option Value) → is_some (option_map datum o) ≡ is_some o
is_some-map None = refl
is_some-map (Some x) = refl

-- a key in the dictionary of the code is one in the dictionary that is meant
pub key_there : (x : Value) (k : Key) (d : DictView) (t : DictThing) → key_fault x ≡ None → key_datum k ≡ datum x → t ≡ dict_thing d → has_key (datum x) t ≡ Ok (is_some (view.value_at d.pairs k))
key_there x k d t e ek et =
    ap (λ b. if b then Ok (is_some (value_at t.pairs (datum x))) else Err BadKey) (not_refused x e)
    ∙ (λ j. Ok (is_some (value_at (et j).pairs (sym ek j))))
    ∙ ap (λ o. Ok (is_some o)) (value_at-meant d.pairs k)
    ∙ ap (λ b. Ok b) (is_some-map (view.value_at d.pairs k))

pub is_some-copied : {X : Type 0} → (o : Option (Bor X)) → is_some (option_copied o) ≡ is_some o
is_some-copied None = refl
is_some-copied (Some x) = refl
