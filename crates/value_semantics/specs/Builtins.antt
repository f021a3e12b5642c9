-- What the builtins give on their arguments: the functions, and the methods that do not write.
use Rattle.std.specs.Prelude.{ℕ, nat_lt, nat_le, ◌&&◌, ◌||◌, codes, List, [], ◌∷◌, option_map, Option, None, Some, Result, Ok, Err, ℤ, pos, negsuc, if◌then◌else◌}
use Rattle.gd_model.specs.declared.fault.RunFault.{RunFault}
use Rattle.gd_model.specs.Datum as d
use Rattle.gd_model.specs.Datum.{Datum}
use Rattle.gd_model.specs.Store.{Store, Names}
use Rattle.value_semantics.specs.declared.builtin.Builtin.{Builtin}
use Rattle.value_semantics.specs.declared.builtin.Builtin.TheVariants as b
use Rattle.value_semantics.specs.Answer.{and_then, in_form}
use Rattle.value_semantics.specs.Functions.{one_int, ints_call, values_call}
use Rattle.value_semantics.specs.Made.{Made, int_made, text_made, text_in_range}
use Rattle.value_semantics.specs.Methods.{misfit, method_gives}
use Rattle.value_semantics.specs.Printed.{all_printed}
use Rattle.value_semantics.specs.Ranges.{range_gives}

-- the character with this code, where there is one
abbrev pub char_of : ℤ → Option ℕ
char_of (pos n) = if nat_lt n 0xD800 || (nat_le 0xE000 n && nat_le n 0x10_FFFF) then Some n else None
char_of (negsuc k) = None

abbrev pub char_call : ℤ → Result Made RunFault
char_call n = text_in_range (option_map (λ c. c ∷ []) (char_of n))

-- the first int, the end and the step
abbrev pub range_args : List Datum → Result (ℤ × ℤ × ℤ) RunFault
range_args (d.int end ∷ []) = Ok (pos 0, end, pos 1)
range_args (d.int first ∷ d.int end ∷ []) = Ok (first, end, pos 1)
range_args (d.int first ∷ d.int end ∷ d.int step ∷ []) = Ok (first, end, step)
range_args args = misfit 1 3 args

-- what a builtin gives, the receiver of a method being the first argument; the printing functions give the text of their line
abbrev pub called : Store → Names → Builtin → List Datum → Result Made RunFault
called store names b.Print args = text_made (all_printed store names [] args)
called store names b.Str args = text_made (all_printed store names [] args)
called store names b.Prints args = text_made (all_printed store names (codes " ") args)
called store names b.Printt args = text_made (all_printed store names (9 ∷ []) args)
called store names b.Range args = and_then (range_args args) (λ p. range_gives p.0 p.1 p.2)
called store names b.Char args = and_then (one_int args) char_call
called store names b.Len args = values_call store b.Len args
called store names b.Typeof args = values_call store b.Typeof args
called store names b.IsSame args = values_call store b.IsSame args
called store names b.Int args = values_call store b.Int args
called store names b.Bool args = values_call store b.Bool args
called store names b.Abs args = in_form int_made (ints_call b.Abs args)
called store names b.Absi args = in_form int_made (ints_call b.Absi args)
called store names b.Min args = in_form int_made (ints_call b.Min args)
called store names b.Max args = in_form int_made (ints_call b.Max args)
called store names b.Mini args = in_form int_made (ints_call b.Mini args)
called store names b.Maxi args = in_form int_made (ints_call b.Maxi args)
called store names b.Clamp args = in_form int_made (ints_call b.Clamp args)
called store names b.Clampi args = in_form int_made (ints_call b.Clampi args)
called store names b.Sign args = in_form int_made (ints_call b.Sign args)
called store names b.Signi args = in_form int_made (ints_call b.Signi args)
called store names b.Posmod args = in_form int_made (ints_call b.Posmod args)
called store names method args = method_gives store names method args
