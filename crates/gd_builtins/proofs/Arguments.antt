-- The arguments of a call.
use Rattle.std.proofs.Common.{◌≡◌, ℕ, ◌+◌, ◌<◌, ◌≤◌, List, [], ◌∷◌, length, map, get_or, Option, Err, refl, sym, subst, arith}
use Rattle.std.specs.List.{AllByRecursion}
use Rattle.slot_arena.specs.declared.handle.Handle.{Handle}
use Rattle.gd_model.specs.declared.fault.RunFault.TheVariants.{WrongNumberOfArguments}
use Rattle.gd_model.specs.declared.value.Value.{Value}
use Rattle.gd_model.specs.declared.value.Value.TheVariants as v
use Rattle.gd_model.specs.Meant.{datum}
use Rattle.gd_model.specs.Store.{Names}
use Rattle.gd_model.specs.View.{ThingView}
use Rattle.gd_model.specs.Whole.{WholeFor, Whole, AllWhole}
use Rattle.value_semantics.specs.Functions.{three_ints}

first_of_all : {X : Type 0} → (P : X → Type 0) (xs : List X) (x : X) → x ≡ get_or xs 0 x → 0 < length xs → AllByRecursion P xs → P x
first_of_all P [] x e h all = absurd (omega arith)
first_of_all P (y ∷ ys) x e h all = subst P (sym e) all.0

-- the first of arguments that are whole
pub whole_first : (things : Handle → Option ThingView) (names : Names) (xs : List Value) (x : Value) → x ≡ get_or xs 0 x → 0 < length xs → AllWhole things names xs → Whole things names x
whole_first things names xs x e h all = λ n. first_of_all (WholeFor things names n) xs x e h (all n)

-- fewer than three arguments, and more
pub too_few : (xs : List Value) → length xs < 3 → three_ints (map datum xs) ≡ Err WrongNumberOfArguments
too_few [] h = refl
too_few (v.Int x ∷ []) h = refl
too_few (x ∷ []) h = refl
too_few (v.Int x ∷ v.Int y ∷ []) h = refl
too_few (v.Int x ∷ y ∷ []) h = refl
too_few (x ∷ y ∷ []) h = refl
too_few (x ∷ y ∷ z ∷ xs) h = absurd (omega arith)

pub too_many : (xs : List Value) → 4 ≤ length xs → three_ints (map datum xs) ≡ Err WrongNumberOfArguments
too_many [] h = absurd (omega arith)
too_many (x ∷ []) h = absurd (omega arith)
too_many (x ∷ y ∷ []) h = absurd (omega arith)
too_many (x ∷ y ∷ z ∷ []) h = absurd (omega arith)
too_many (v.Int x ∷ v.Int y ∷ v.Int z ∷ u ∷ xs) h = refl
too_many (v.Int x ∷ v.Int y ∷ z ∷ u ∷ xs) h = refl
too_many (v.Int x ∷ y ∷ z ∷ u ∷ xs) h = refl
too_many (x ∷ y ∷ z ∷ u ∷ xs) h = refl
