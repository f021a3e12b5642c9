-- The changes at places, as the methods of arrays mean them.
use Rattle.std.proofs.Common.{◌≡◌, ℕ, suc, ◌+◌, ◌<◌, Bool, true, false, List, [], ◌∷◌, ◌++◌, length, map, get_or, insert, remove, slice_get, Option, None, Some, option_map, option_and_then, unwrap_or, Result, Ok, Err, ℤ, w64, SFits, to_z, of_z, refl, ap, sym, ◌∙◌, subst, arith, if◌then◌else◌}
use Rattle.std.proofs.lemmas.Int.{to_z-of_z}
use Rattle.std.proofs.lemmas.List.{length-map}
use Rattle.std.proofs.lemmas.Option.{slice_get-map}
use Rattle.gd_model.specs.declared.fault.RunFault.{RunFault}
use Rattle.gd_model.specs.declared.value.Value.{Value}
use Rattle.gd_model.specs.declared.value.Value.TheVariants.{Nil}
use Rattle.gd_model.specs.Datum.{Datum}
use Rattle.gd_model.specs.Datum as d
use Rattle.gd_model.specs.Meant.{datum, array_thing}
use Rattle.gd_model.specs.Place.{place}
use Rattle.gd_model.specs.Store.{Store, ArrayThing}
use Rattle.gd_model.specs.View.{ArrayView}
use Rattle.gd_containers.specs.declared.fault.ThingFault.{ThingFault}
use Rattle.gd_answers.specs.Answers.{AnswersAs, exact}
use Rattle.gd_answers.proofs.Answer.{given}
use Rattle.value_semantics.specs.declared.builtin.Builtin.TheVariants as b
use Rattle.value_semantics.specs.Answer.{and_then}
use Rattle.value_semantics.specs.Equality as equality
use Rattle.value_semantics.specs.Operators.{first_place}
use Rattle.store_semantics.specs.Subscripts.{unless}
use Rattle.store_semantics.specs.Writes.{Written, array_gives, taken, removed, inserted, without_value}
use Rattle.container_methods.specs.declared.array_change.ArrayChange.{ArrayChange}
use Rattle.container_methods.specs.declared.array_change.ArrayChange.TheVariants.{Insert, Remove, Take, Reverse}
use Rattle.container_methods.specs.Arrays.{HasPlace, made, without_found}
use Rattle.container_methods.proofs.Decided.{asked, passed, value_given, value_refused}
use Rattle.container_methods.proofs.Elements.{insert-map, remove-map, reverse-map}

-- the place that the code found, as that among the elements that are meant
pub meant_place : (find : ℤ → ℕ → Option ℕ) (at : ℤ) (n : ℕ) (found : Option ℕ) (xs : List Value) → SFits w64 at → found ≡ find (to_z w64 (of_z w64 at)) n → n ≡ length xs → find at (length (map datum xs)) ≡ found
meant_place find at n found xs fits e size =
    ap (find at) (length-map xs datum ∙ sym size) ∙ sym (subst (λ (z : ℤ). found ≡ find z n) (to_z-of_z w64 at fits) e)

unwrapped : (o : Option Value) → unwrap_or (option_map datum o) d.null ≡ datum (unwrap_or o Nil)
unwrapped None = refl
unwrapped (Some w) = refl

-- the only argument
pub one_arg : (xs : List Value) (x : Value) → x ≡ get_or xs 0 x → length xs ≡ 1 → xs ≡ x ∷ []
one_arg [] x e h = absurd (omega arith)
one_arg (y ∷ []) x e h = ap (λ z. z ∷ []) (sym e)
one_arg (y ∷ z ∷ zs) x e h = absurd (omega arith)

module _ (a : ArrayView) where
  abbrev items : List Datum
  items = map datum a.items

  took : Option ℕ → Written ArrayThing
  took at = Ok (record (array_thing a) { items = unwrap_or (option_map (λ i. remove items i) at) items }, unwrap_or (option_and_then (λ i. slice_get items i) at) d.null)

  pub taken_given : (at : ℤ) (i : ℕ) → place at (length items) ≡ Some i → taken (array_thing a) at ≡ Ok (made a (Take i))
  unfolding took
  taken_given at i e =
      let answer : unwrap_or (slice_get items i) d.null ≡ datum (unwrap_or (slice_get a.items i) Nil) = ap (λ o. unwrap_or o d.null) (slice_get-map datum a.items i) ∙ unwrapped (slice_get a.items i) in
      ap took e ∙ (λ j. Ok (record (array_thing a) { items = remove-map datum a.items i j }, answer j))

  pub removed_given : (found : Option ℕ) (i : ℕ) → found ≡ Some i → removed (array_thing a) found ≡ Ok (made a (Remove i))
  removed_given found i e = ap (removed (array_thing a)) e ∙ (λ j. Ok (record (array_thing a) { items = remove-map datum a.items i j }, d.null))

  module _ (fits : Datum → Bool) (x : Value) (found : Option ℕ) (i : ℕ) (at : found ≡ Some i) where
    pub inserted_given : (w : Value) → unless (asked fits items (datum x)) (datum x) ≡ Ok (datum w) → w ≡ x → inserted fits (array_thing a) found (datum x) ≡ Ok (made a (Insert i w))
    inserted_given w e same =
        ap (λ o. inserted fits (array_thing a) o (datum x)) at
        ∙ value_given fits a (λ xs. insert xs i (datum x)) (datum x) (Insert i w) (datum w) e (ap (λ y. insert items i (datum y)) (sym same) ∙ insert-map datum a.items i w) refl

    pub inserted_refused : (fault : ThingFault) → AnswersAs datum (unless (asked fits items (datum x)) (datum x)) (Err fault) → AnswersAs (made a) (inserted fits (array_thing a) found (datum x)) (Err fault)
    inserted_refused fault h =
        passed datum (made a) (unless (asked fits items (datum x)) (datum x)) (inserted fits (array_thing a) found (datum x))
        (λ f e. ap (λ o. inserted fits (array_thing a) o (datum x)) at ∙ value_refused fits a (λ xs. insert xs i (datum x)) (datum x) f e) fault h

  module _ (fits : Datum → Bool) (store : Store) (args : List Value) (x : Value) (one : args ≡ x ∷ []) (fault : ThingFault) where
    pub append_refused : AnswersAs datum (unless (asked fits items (datum x)) (datum x)) (Err fault) → AnswersAs (made a) (array_gives fits store b.ArrayAppend (array_thing a) (map datum args)) (Err fault)
    append_refused h =
        passed datum (made a) (unless (asked fits items (datum x)) (datum x)) (array_gives fits store b.ArrayAppend (array_thing a) (map datum args))
        (λ f e. ap (λ (xs : List Value). array_gives fits store b.ArrayAppend (array_thing a) (map datum xs)) one ∙ value_refused fits a (λ xs. xs ++ datum x ∷ []) (datum x) f e) fault h

    pub push_front_refused : AnswersAs datum (unless (asked fits items (datum x)) (datum x)) (Err fault) → AnswersAs (made a) (array_gives fits store b.ArrayPushFront (array_thing a) (map datum args)) (Err fault)
    push_front_refused h =
        passed datum (made a) (unless (asked fits items (datum x)) (datum x)) (array_gives fits store b.ArrayPushFront (array_thing a) (map datum args))
        (λ f e. ap (λ (xs : List Value). array_gives fits store b.ArrayPushFront (array_thing a) (map datum xs)) one ∙ value_refused fits a (λ xs. datum x ∷ xs) (datum x) f e) fault h

  pub reverse_given : (fits : Datum → Bool) (store : Store) (args : List Value) → length args ≡ 0 → array_gives fits store b.ArrayReverse (array_thing a) (map datum args) ≡ Ok (made a Reverse)
  reverse_given fits store [] h = λ j. Ok (record (array_thing a) { items = reverse-map datum a.items j }, d.null)
  reverse_given fits store (x ∷ xs) h = absurd (omega arith)

  erased_as : Option ℕ → Written ArrayThing
  erased_as at = Ok (record (array_thing a) { items = unwrap_or (option_map (λ i. remove items i) at) items }, d.null)

  erased_by : (found : Option ℕ) → erased_as found ≡ Ok (made a (without_found found))
  unfolding erased_as
  erased_by None = refl
  erased_by (Some i) = λ j. Ok (record (array_thing a) { items = remove-map datum a.items i j }, d.null)

  pub erased_given : (store : Store) (x : Datum) (found : Option ℕ) (change : ArrayChange) → Ok found ≡ exact (first_place (λ y. equality.same store y x) 0 items) → change ≡ without_found found → without_value store (array_thing a) x ≡ Ok (made a change)
  unfolding erased_as
  erased_given store x found change e f =
      ap (λ w. and_then w erased_as) (given (first_place (λ y. equality.same store y x) 0 items) found e)
      ∙ erased_by found ∙ ap (λ c. Ok (made a c)) (sym f)

within_by : (r : Result Bool RunFault) (test : Datum → Result Bool RunFault) (k : ℕ) (xs : List Datum) (i : ℕ) → and_then r (λ yes. if yes then Ok (Some k) else first_place test (k + 1) xs) ≡ Ok (Some i) → (first_place test (k + 1) xs ≡ Ok (Some i) → i < (k + 1) + length xs) → i < k + suc (length xs)
within_by (Err f) test k xs i e more = cc
within_by (Ok true) test k xs i e more = let same : k ≡ i = cc in omega arith
within_by (Ok false) test k xs i e more = let far = more e in omega arith

-- a place that was found is that of an element
pub found_within : (test : Datum → Result Bool RunFault) (k : ℕ) (xs : List Datum) (i : ℕ) → first_place test k xs ≡ Ok (Some i) → i < k + length xs
found_within test k [] i e = cc
found_within test k (x ∷ xs) i e = within_by (test x) test k xs i e (found_within test (k + 1) xs i)

pub place_within : (test : Datum → Result Bool RunFault) (xs : List Value) (i : ℕ) → Ok (Some i) ≡ exact (first_place test 0 (map datum xs)) → i < length xs
place_within test xs i e = let far = found_within test 0 (map datum xs) i (given (first_place test 0 (map datum xs)) (Some i) e) in omega (arith, length-map xs datum)

place_by : (test : Datum → Result Bool RunFault) (xs : List Value) (found : Option ℕ) → Ok found ≡ exact (first_place test 0 (map datum xs)) → HasPlace (without_found found) (length xs)
place_by test xs None e = tt
place_by test xs (Some i) e = place_within test xs i e

pub erased_place : (test : Datum → Result Bool RunFault) (xs : List Value) (found : Option ℕ) (change : ArrayChange) → Ok found ≡ exact (first_place test 0 (map datum xs)) → change ≡ without_found found → HasPlace change (length xs)
erased_place test xs found change e f = subst (λ c. HasPlace c (length xs)) (sym f) (place_by test xs found e)

-- two arguments
pub two_args : (xs : List Value) (x y : Value) → x ≡ get_or xs 0 x → y ≡ get_or xs 1 y → length xs ≡ 2 → xs ≡ x ∷ y ∷ []
two_args [] x y e f h = absurd (omega arith)
two_args (u ∷ []) x y e f h = absurd (omega arith)
two_args (u ∷ w ∷ []) x y e f h = λ i. sym e i ∷ (sym f i ∷ [])
two_args (u ∷ w ∷ z ∷ zs) x y e f h = absurd (omega arith)
