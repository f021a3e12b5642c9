-- Iterations.
use Rattle.std.specs.Prelude.{ℕ, zero, suc, ℤ, pos, ◌+ℤ◌, List, [], ◌∷◌, map, slice_get, Option, None, Some, Result, Ok, Err, if◌then◌else◌}
use Rattle.std.specs.Option.{option_map}
use Rattle.std.specs.Ordering.{int_eq}
use Rattle.gd_model.specs.declared.fault.RunFault.{RunFault}
use Rattle.gd_model.specs.declared.fault.RunFault.TheVariants.{NotIterable, ValueOfAnotherType, ZeroDivisorOrStep}
use Rattle.gd_model.specs.Datum as d
use Rattle.gd_model.specs.Datum.{Datum}
use Rattle.gd_model.specs.Store.{Store, array_at, dict_at}
use Rattle.value_semantics.specs.Ranges.{range_size}
use Rattle.gd_bytecode.specs.State.{Iteration, ints, elements, characters, keys}

-- the ints from the first on by steps, before the end
abbrev pub range : ℤ → ℤ → ℤ → Result Iteration RunFault
range first end step = if int_eq step (pos 0) then Err ZeroDivisorOrStep else Ok (ints first step (range_size first end step))

-- one to three ints as `range` takes them
abbrev pub range_of : List Datum → Result Iteration RunFault
range_of (d.int end ∷ []) = range (pos 0) end (pos 1)
range_of (d.int first ∷ d.int end ∷ []) = range first end (pos 1)
range_of (d.int first ∷ d.int end ∷ d.int step ∷ []) = range first end step
range_of args = Err ValueOfAnotherType

-- over an int from 0 on, the elements of an array, the keys of a dictionary and the characters of a String
abbrev pub iteration : Store → Datum → Result Iteration RunFault
iteration store (d.int n) = range (pos 0) n (pos 1)
iteration store (d.array s) = Ok (elements s 0)
iteration store (d.dictionary s) = let all : List Datum = map (λ q. q.0) (dict_at store s).pairs in Ok (keys s all all)
iteration store (d.text t) = Ok (characters t 0)
iteration store v = Err NotIterable

-- its next value with what is left of it, or none: an array is asked for its size each time
abbrev pub next_int : ℤ → ℤ → ℕ → Option (Datum × Iteration)
next_int n step zero = None
next_int n step (suc left) = Some (d.int n, ints (n +ℤ step) step left)

abbrev pub next_key : ℕ → List Datum → List Datum → Option (Datum × Iteration)
next_key s all [] = None
next_key s all (k ∷ ks) = Some (k, keys s all ks)

abbrev pub next : Store → Iteration → Option (Datum × Iteration)
next store (ints n step left) = next_int n step left
next store (elements s i) = option_map (λ v. (v, elements s (suc i))) (slice_get (array_at store s).items i)
next store (characters t i) = option_map (λ c. (d.text (c ∷ []), characters t (suc i))) (slice_get t i)
next store (keys s all left) = next_key s all left
