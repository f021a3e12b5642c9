-- What a list of things holds is held when more come, and leads to things that are there.
use Rattle.std.proofs.Common.{◌≡◌, ℕ, zero, suc, Bool, true, false, List, [], ◌∷◌, ◌++◌, length, map, Option, None, Some, option_map, is_some, refl, ap, sym, ◌∙◌, subst, true≢false}
use Rattle.std.specs.List.{AllByRecursion, list_all, slice_get}
use Rattle.std.proofs.lemmas.Bool.{and_from, and_parts}
use Rattle.std.proofs.lemmas.List.Folds.{list_all-append}
use Rattle.gd_model.specs.declared.key.Key.{Key}
use Rattle.gd_model.specs.declared.key.Key.TheVariants as k
use Rattle.gd_model.specs.declared.value.Value.{Value}
use Rattle.gd_model.specs.declared.value.Value.TheVariants as v
use Rattle.gd_model.specs.Datum.{Datum, null, bool, int, text, object, array, dictionary, callable, signal}
use Rattle.gd_model.specs.KeyDatum.{key_datum}
use Rattle.gd_model.specs.Meant.{datum, pair_datum}
use Rattle.gd_model.specs.Store.{Thing, array_behind, dict_behind}
use Rattle.gd_model.specs.View.{array_in, dict_in}
use Rattle.gd_model.specs.Whole.{WholeFor, Whole, lying_in, pair_values, key_value}
use Rattle.constant_store.specs.declared.thing.ConstantThing.{ConstantThing}
use Rattle.constant_store.specs.declared.thing.ConstantThing.TheVariants as t
use Rattle.constant_store.specs.Things.{thing_view, meant, numbered, seen, no_names, is_plain, is_held, all_data_held, pair_data, data_in, is_closed, thing_datum}

get_more : {X : Type 0} → (xs ys : List X) (i : ℕ) (x : X) → slice_get xs i ≡ Some x → slice_get (xs ++ ys) i ≡ Some x
get_more [] ys i x e = cc
get_more (y ∷ xs) ys zero x e = e
get_more (y ∷ xs) ys (suc i) x e = get_more xs ys i x e

get_last : {X : Type 0} → (xs : List X) (x : X) → slice_get (xs ++ x ∷ []) (length xs) ≡ Some x
get_last [] x = refl
get_last (y ∷ xs) x = get_last xs x

pub all_at : {X : Type 0} → (p : X → Bool) (xs : List X) (i : ℕ) (x : X) → slice_get xs i ≡ Some x → list_all p xs ≡ true → p x ≡ true
all_at p [] i x e h = cc
all_at p (y ∷ ys) zero x e h = let same : y ≡ x = cc in subst (λ z. p z ≡ true) same (and_parts (p y) (list_all p ys) h).0
all_at p (y ∷ ys) (suc i) x e h = all_at p ys i x e (and_parts (p y) (list_all p ys) h).1

numbered_more : (things more : List ConstantThing) (s : ℕ) (x : ConstantThing) → numbered things s ≡ Some x → numbered (things ++ more) s ≡ Some x
numbered_more things more zero x e = cc
numbered_more things more (suc i) x e = get_more things more i x e

-- what a test says of a thing that is there, it says of it later
said_later : (f : Option Thing → Bool) (o p : Option ConstantThing) → f None ≡ false → ((x : ConstantThing) → o ≡ Some x → p ≡ Some x) → f (option_map meant o) ≡ true → f (option_map meant p) ≡ true
said_later f None p none later e = absurd (true≢false (sym e ∙ none))
said_later f (Some x) p none later e = ap (λ q. f (option_map meant q)) (later x refl) ∙ e

-- a value stays held
pub held_more : (things more : List ConstantThing) (d : Datum) → is_held things d ≡ true → is_held (things ++ more) d ≡ true
held_more things more (array s) h = said_later (λ o. is_some (array_behind o)) (numbered things s) (numbered (things ++ more) s) refl (numbered_more things more s) h
held_more things more (dictionary s) h = said_later (λ o. is_some (dict_behind o)) (numbered things s) (numbered (things ++ more) s) refl (numbered_more things more s) h
held_more things more null h = h
held_more things more (bool b) h = h
held_more things more (int n) h = h
held_more things more (text x) h = h
held_more things more (object s) h = h
held_more things more (callable c) h = h
held_more things more (signal s n) h = h

pub all_held_more : (things more : List ConstantThing) (ds : List Datum) → all_data_held things ds ≡ true → all_data_held (things ++ more) ds ≡ true
all_held_more things more [] h = refl
all_held_more things more (d ∷ ds) h =
    let both = and_parts (is_held things d) (all_data_held things ds) h in
    and_from (is_held (things ++ more) d) (all_data_held (things ++ more) ds) (held_more things more d both.0) (all_held_more things more ds both.1)

closed_more : (all more things : List ConstantThing) → list_all (λ x. all_data_held all (data_in (meant x))) things ≡ true → list_all (λ x. all_data_held (all ++ more) (data_in (meant x))) things ≡ true
closed_more all more [] h = refl
closed_more all more (x ∷ xs) h =
    let both = and_parts (all_data_held all (data_in (meant x))) (list_all (λ x. all_data_held all (data_in (meant x))) xs) h in
    and_from (all_data_held (all ++ more) (data_in (meant x))) (list_all (λ x. all_data_held (all ++ more) (data_in (meant x))) xs) (all_held_more all more (data_in (meant x)) both.0) (closed_more all more xs both.1)

-- one more thing in which held values lie
pub closed_push : (things : List ConstantThing) (x : ConstantThing) → is_closed things ≡ true → all_data_held things (data_in (meant x)) ≡ true → is_closed (things ++ x ∷ []) ≡ true
closed_push things x closed inside =
    let test = λ (y : ConstantThing). all_data_held (things ++ x ∷ []) (data_in (meant y)) in
    list_all-append test things (x ∷ [])
    ∙ and_from (list_all test things) (list_all test (x ∷ [])) (closed_more things (x ∷ []) things closed) (and_from (test x) true (all_held_more things (x ∷ []) (data_in (meant x)) inside) refl)

-- the value that names the last thing is held
pub held_last : (things : List ConstantThing) (x : ConstantThing) → is_held (things ++ x ∷ []) (thing_datum (meant x) (suc (length things))) ≡ true
held_last things (t.Array a) = ap (λ o. is_some (array_behind (option_map meant o))) (get_last things (t.Array a))
held_last things (t.Dict d) = ap (λ o. is_some (dict_behind (option_map meant o))) (get_last things (t.Dict d))

pub plain_held : (things : List ConstantThing) (d : Datum) → is_plain d ≡ true → is_held things d ≡ true
plain_held things null h = h
plain_held things (bool b) h = h
plain_held things (int n) h = h
plain_held things (text x) h = h
plain_held things (object s) h = h
plain_held things (callable c) h = h
plain_held things (signal s n) h = h
plain_held things (array s) h = absurd (true≢false (sym h))
plain_held things (dictionary s) h = absurd (true≢false (sym h))

pub key_means : (key : Key) → key_datum key ≡ datum (key_value key)
key_means k.Nil = refl
key_means (k.Bool b) = refl
key_means (k.Int n) = refl
key_means (k.Str x) = refl
key_means (k.Object h) = refl

array_there : (o : Option ConstantThing) → is_some (array_behind (option_map meant o)) ≡ true → is_some (array_in (option_map thing_view o)) ≡ true
array_there None e = e
array_there (Some (t.Array a)) e = e
array_there (Some (t.Dict d)) e = e

dict_there : (o : Option ConstantThing) → is_some (dict_behind (option_map meant o)) ≡ true → is_some (dict_in (option_map thing_view o)) ≡ true
dict_there None e = e
dict_there (Some (t.Array a)) e = e
dict_there (Some (t.Dict d)) e = e

module _ (things : List ConstantThing) where
  all_values : (P : Value → Type 0) → ((x : Value) → is_held things (datum x) ≡ true → P x) → (xs : List Value) → all_data_held things (map datum xs) ≡ true → AllByRecursion P xs
  all_values P each [] h = tt
  all_values P each (x ∷ xs) h =
      let both = and_parts (is_held things (datum x)) (all_data_held things (map datum xs)) h in
      (each x both.0, all_values P each xs both.1)

  all_pairs : (P : Value → Type 0) → ((x : Value) → is_held things (datum x) ≡ true → P x) → (ps : List (Key × Value)) → all_data_held things (pair_data (map pair_datum ps)) ≡ true → AllByRecursion P (pair_values ps)
  all_pairs P each [] h = tt
  all_pairs P each (p ∷ ps) h =
      let key = and_parts (is_held things (key_datum p.0)) (all_data_held things (datum p.1 ∷ pair_data (map pair_datum ps))) h in
      let more = and_parts (is_held things (datum p.1)) (all_data_held things (pair_data (map pair_datum ps))) key.1 in
      (each (key_value p.0) (subst (λ d. is_held things d ≡ true) (key_means p.0) key.0), (each p.1 more.0, all_pairs P each ps more.1))

  module _ (closed : is_closed things ≡ true) where
    -- what lies in a thing is held
    pub inside_held : (s : ℕ) (x : ConstantThing) → numbered things s ≡ Some x → all_data_held things (data_in (meant x)) ≡ true
    inside_held zero x e = cc
    inside_held (suc i) x e = all_at (λ y. all_data_held things (data_in (meant y))) things i x e closed

    pub thing_inside : (i : ℕ) (x : ConstantThing) → slice_get things i ≡ Some x → all_data_held things (data_in (meant x)) ≡ true
    thing_inside i x e = all_at (λ y. all_data_held things (data_in (meant y))) things i x e closed

    lying : (P : Value → Type 0) → ((x : Value) → is_held things (datum x) ≡ true → P x) → (o : Option ConstantThing) → ((x : ConstantThing) → o ≡ Some x → all_data_held things (data_in (meant x)) ≡ true) → AllByRecursion P (lying_in (option_map thing_view o))
    lying P each None inside = tt
    lying P each (Some (t.Array a)) inside = all_values P each a.items (inside (t.Array a) refl)
    lying P each (Some (t.Dict d)) inside = all_pairs P each d.pairs (inside (t.Dict d) refl)

    whole_for : (n : ℕ) (x : Value) → is_held things (datum x) ≡ true → WholeFor (seen things) no_names n x
    whole_for zero x h = tt
    whole_for (suc n) v.Nil h = (refl, tt)
    whole_for (suc n) (v.Bool b) h = (refl, tt)
    whole_for (suc n) (v.Int i) h = (refl, tt)
    whole_for (suc n) (v.Str x) h = (refl, tt)
    whole_for (suc n) (v.Object i) h = absurd (true≢false (sym h))
    whole_for (suc n) (v.Array i) h = (array_there (numbered things i.serial) h, lying (WholeFor (seen things) no_names n) (whole_for n) (numbered things i.serial) (inside_held i.serial))
    whole_for (suc n) (v.Dict i) h = (dict_there (numbered things i.serial) h, lying (WholeFor (seen things) no_names n) (whole_for n) (numbered things i.serial) (inside_held i.serial))
    whole_for (suc n) (v.Callable x) h = (refl, tt)
    whole_for (suc n) (v.Signal x) h = (refl, tt)

    -- all things are there to which a held value leads
    pub whole : (x : Value) → is_held things (datum x) ≡ true → Whole (seen things) no_names x
    whole x h n = whole_for n x h
