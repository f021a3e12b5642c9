-- What is decided where the conditions of a method hold, and how faults are passed on.
use Rattle.std.proofs.Common.{◌≡◌, Bool, true, false, not, List, [], ◌∷◌, map, Result, Ok, Err, refl, ap, sym, subst, ◌∙◌}
use Rattle.gd_model.specs.declared.fault.RunFault.{RunFault}
use Rattle.gd_model.specs.declared.fault.RunFault.TheVariants.{ValueOfAnotherType, TooLong}
use Rattle.gd_model.specs.declared.value.Value.TheVariants.{Nil}
use Rattle.gd_model.specs.Datum.{Datum}
use Rattle.gd_model.specs.Meant.{datum, array_thing}
use Rattle.gd_model.specs.Store.{ArrayThing}
use Rattle.gd_model.specs.View.{ArrayView}
use Rattle.gd_containers.specs.declared.fault.ThingFault.{ThingFault}
use Rattle.gd_containers.specs.declared.fault.ThingFault.TheVariants.{Run, NoMemory}
use Rattle.gd_answers.specs.Answers.{AnswersAs}
use Rattle.store_semantics.specs.Subscripts.{unless}
use Rattle.store_semantics.specs.Writes.{is_full, silent, with_value}
use Rattle.container_methods.specs.declared.array_change.ArrayChange.{ArrayChange}
use Rattle.container_methods.specs.Arrays.{items_after, answer, made}

-- where no condition holds, anything is given
pub unless_given : {A B : Type 0} → (conditions : List (Bool × RunFault)) (x y : A) (z : B) → unless conditions x ≡ Ok y → unless conditions z ≡ Ok z
unless_given [] x y z e = refl
unless_given ((true, f) ∷ rest) x y z e = cc
unless_given ((false, f) ∷ rest) x y z e = unless_given rest x y z e

-- the fault of the first condition that holds
pub unless_refused : {A B : Type 0} → (conditions : List (Bool × RunFault)) (x : A) (z : B) (f : RunFault) → unless conditions x ≡ Err f → unless conditions z ≡ Err f
unless_refused [] x z f e = cc
unless_refused ((true, g) ∷ rest) x z f e = let same : g ≡ f = cc in ap (λ h. Err h) same
unless_refused ((false, g) ∷ rest) x z f e = unless_refused rest x z f e

-- a fault that is passed on
pub passed : {A B C D : Type 0} → (form : B → A) (other_form : D → C) (want : Result A RunFault) (other : Result C RunFault) → ((f : RunFault) → want ≡ Err f → other ≡ Err f) → (f : ThingFault) → AnswersAs form want (Err f) → AnswersAs other_form other (Err f)
passed form other_form want other more (Run f) e = more f e
passed form other_form want other more NoMemory e = tt

-- a call that refuses with the fault that is meant
pub refused_as : {A B : Type 0} → (form : B → A) (want : Result A RunFault) (f : RunFault) (r : Result B ThingFault) → r ≡ Err (Run f) → want ≡ Err f → AnswersAs form want r
refused_as form want f r e h = subst (AnswersAs form want) (sym e) h

-- what a value is asked that goes into an array
abbrev pub asked : (Datum → Bool) → List Datum → Datum → List (Bool × RunFault)
asked fits items v = (not (fits v), ValueOfAnotherType) ∷ (is_full items, TooLong) ∷ []

module _ (fits : Datum → Bool) (a : ArrayView) (place_it : List Datum → List Datum) (v : Datum) where
  abbrev with_it : ArrayThing
  with_it = record (array_thing a) { items = place_it (map datum a.items) }

  pub value_given : (change : ArrayChange) (y : Datum) → unless (asked fits (map datum a.items) v) v ≡ Ok y → place_it (map datum a.items) ≡ map datum (items_after change a.items) → answer change a.items ≡ Nil → with_value fits (array_thing a) place_it v ≡ Ok (made a change)
  value_given change y e placed quiet =
      ap silent (unless_given (asked fits (map datum a.items) v) v y with_it e)
      ∙ (λ i. Ok (record (array_thing a) { items = placed i }, datum (sym quiet i)))

  pub value_refused : (f : RunFault) → unless (asked fits (map datum a.items) v) v ≡ Err f → with_value fits (array_thing a) place_it v ≡ Err f
  value_refused f e = ap silent (unless_refused (asked fits (map datum a.items) v) v with_it f e)
