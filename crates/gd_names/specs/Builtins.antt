-- The names of builtins, each with the number that look-ups find.
use Rattle.std.specs.Prelude.{ℕ, ◌+◌, List, [], ◌∷◌, if◌then◌else◌, Option, None, Some, bytes_eq, codes}
use Rattle.gd_names.specs.Trees.{Text}

-- the functions have the numbers 0 to 21, which are theirs in images too
abbrev pub functions : List Text
functions = codes "print" ∷ codes "prints" ∷ codes "printt" ∷ codes "str" ∷ codes "len" ∷ codes "range" ∷ codes "typeof"
    ∷ codes "abs" ∷ codes "absi" ∷ codes "min" ∷ codes "max" ∷ codes "mini" ∷ codes "maxi" ∷ codes "clamp" ∷ codes "clampi"
    ∷ codes "sign" ∷ codes "signi" ∷ codes "posmod" ∷ codes "char" ∷ codes "is_same" ∷ codes "int" ∷ codes "bool" ∷ []

-- methods have the numbers up to 81 and no bare names; the constants come behind them
abbrev pub constants : List Text
constants = codes "TYPE_NIL" ∷ codes "TYPE_BOOL" ∷ codes "TYPE_INT" ∷ codes "TYPE_STRING" ∷ codes "TYPE_OBJECT" ∷ codes "TYPE_CALLABLE"
    ∷ codes "TYPE_SIGNAL" ∷ codes "TYPE_DICTIONARY" ∷ codes "TYPE_ARRAY" ∷ codes "CONNECT_ONE_SHOT" ∷ []

-- the names of types that are no functions
abbrev pub types : List Text
types = codes "Variant" ∷ codes "String" ∷ codes "Callable" ∷ codes "Signal" ∷ codes "Dictionary" ∷ codes "Array" ∷ []

abbrev pub number_in : ℕ → List Text → Text → Option ℕ
number_in number [] name = None
number_in number (x ∷ xs) name = if bytes_eq x name then Some number else number_in (number + 1) xs name

abbrev pub first_number : Option ℕ → Option ℕ → Option ℕ
first_number (Some n) other = Some n
first_number None other = other

-- constants from 1,000 on, types from 1,100 on
abbrev pub builtin_number : Text → Option ℕ
builtin_number name = first_number (number_in 0 functions name) (first_number (number_in 1000 constants name) (number_in 1100 types name))
