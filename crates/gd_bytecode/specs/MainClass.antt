-- Which class may be the main class.
use Rattle.std.specs.Prelude.{ℕ, zero, suc, Bool, false, List, [], ◌∷◌, length, slice_get, codes, option_and_then, Option, None, Some, if◌then◌else◌}
use Rattle.std.specs.Option.{option_or, option_map_or}
use Rattle.std.specs.Str.{bytes_eq}
use Rattle.gd_bytecode.specs.declared.field.Field.{Field}
use Rattle.gd_bytecode.specs.declared.field.Field.TheVariants.{Main}
use Rattle.gd_bytecode.specs.declared.program.ClassCode.{ClassCode}
use Rattle.gd_bytecode.specs.declared.program.Function.{Function}
use Rattle.gd_bytecode.specs.declared.program.Method.{Method}
use Rattle.gd_bytecode.specs.declared.program.Program.{Program}
use Rattle.gd_bytecode.specs.ClassFields.{takes}
use Rattle.gd_bytecode.specs.First.{unless}

abbrev pub is_test : Program → ℕ → Bool
is_test p name = option_map_or (λ t. bytes_eq t (codes "test")) (slice_get p.texts name) false

-- the function of the first method `test`
abbrev pub first_test : Program → List Method → Option ℕ
first_test p [] = None
first_test p (m ∷ ms) = if is_test p m.name then Some m.function else first_test p ms

abbrev pub own_test : Program → ClassCode → Option ℕ
own_test p c = first_test p c.methods

abbrev pub class_at : Program → Option ℕ → Option ClassCode
class_at p at = option_and_then (λ c. slice_get p.classes c) at

-- the class's own, or else what its base gives
abbrev pub test_from : Program → (Option ℕ → Option ℕ) → Option ClassCode → Option ℕ
test_from p above None = None
test_from p above (Some c) = option_or (own_test p c) (above c.base)

-- the nearest from a class on along so many bases
abbrev pub nearest_test : ℕ → Program → Option ℕ → Option ℕ
nearest_test zero p at = None
nearest_test (suc n) p at = test_from p (nearest_test n p) (class_at p at)

abbrev pub test_of : Program → Option ℕ
test_of p = nearest_test (length p.classes) p (Some p.main)

abbrev pub can_run : Program → ℕ → Bool
can_run p n = option_map_or (λ (f : Function). takes f 0) (slice_get p.functions n) false

-- it has along its bases a method `test` that can be called with no argument
abbrev pub runs_fault : Program → Option ℕ → Option Field
runs_fault p None = Some Main
runs_fault p (Some n) = unless (can_run p n) Main

abbrev pub main_fault : Program → Option Field
main_fault p = runs_fault p (test_of p)
