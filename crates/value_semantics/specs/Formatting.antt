-- What `%` gives with a String on the left.
use Rattle.std.specs.Prelude.{ℕ, List, [], ◌∷◌, map, Option, None, Some, Result, Ok, Err}
use Rattle.gd_model.specs.declared.fault.RunFault.{RunFault}
use Rattle.gd_model.specs.declared.fault.RunFault.TheVariants.{BadFormat}
use Rattle.gd_model.specs.Datum.{Datum, int, text, array}
use Rattle.gd_model.specs.Store.{Store, Names, array_at}
use Rattle.gd_text.specs.declared.formatting.Arg.{Arg}
use Rattle.gd_text.specs.declared.formatting.Arg.TheVariants as arg
use Rattle.gd_text.specs.Format.{formatted}
use Rattle.value_semantics.specs.Made.{Made, text_made}
use Rattle.value_semantics.specs.Printed.{printed}

-- the argument that a value is: an int and a String are themselves, and any other value is its printed form
abbrev pub argument : Store → Names → Datum → Arg
argument store names (int n) = arg.Num n
argument store names (text t) = arg.Str t
argument store names v = arg.Other (printed store names v)

-- the arguments that the right operand gives: the elements of an Array, and any other value as the one argument
abbrev pub arguments : Store → Names → Datum → List Arg
arguments store names (array s) = map (argument store names) (array_at store s).items
arguments store names v = argument store names v ∷ []

-- a bad format where there is no text, and then too long where it passes the limit
abbrev pub format_made : Option (List ℕ) → Result Made RunFault
format_made None = Err BadFormat
format_made (Some t) = text_made t

abbrev pub format_gives : List ℕ → List Arg → Result Made RunFault
format_gives pattern args = format_made (formatted pattern args)
