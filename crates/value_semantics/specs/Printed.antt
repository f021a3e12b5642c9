-- The printed forms of values. `store` has the things, and `names` the names of the classes.
use Rattle.std.specs.Prelude.{ℕ, zero, suc, ◌==◌, ◌||◌, codes, List, [], ◌∷◌, ◌++◌, map, Option, None, Some, if◌then◌else◌}
use Rattle.std.specs.Fmt.{decimal, signed_decimal}
use Rattle.gd_model.specs.Datum.{Datum, Callee, null, bool, int, text, object, array, dictionary, callable, signal}
use Rattle.gd_model.specs.Store.{Store, Names, ArrayThing, DictThing, array_at, dict_at, class_name_at}

-- the letter that stands behind a backslash for a character of a String: for the quotes and the backslash they
-- themselves, for the characters 7 to 13 the letters a, b, t, n, v, f and r
abbrev pub escape_letter : ℕ → Option ℕ
escape_letter c =
    if (c == 34) || (c == 39) || (c == 92) then Some c
    else (if c == 7 then Some 97
    else (if c == 8 then Some 98
    else (if c == 9 then Some 116
    else (if c == 10 then Some 110
    else (if c == 11 then Some 118
    else (if c == 12 then Some 102
    else (if c == 13 then Some 114 else None)))))))

abbrev pub behind_backslash : ℕ → Option ℕ → List ℕ
behind_backslash c None = c ∷ []
behind_backslash c (Some letter) = 92 ∷ letter ∷ []

abbrev pub escaped : List ℕ → List ℕ
escaped [] = []
escaped (c ∷ cs) = behind_backslash c (escape_letter c) ++ escaped cs

-- a String inside of a container
abbrev pub quoted : List ℕ → List ℕ
quoted t = (34 ∷ []) ++ (escaped t ++ (34 ∷ []))

-- a word, a name and `>`
abbrev pub named : List ℕ → List ℕ → List ℕ
named word name = word ++ (name ++ codes ">")

-- an object by the name of its class and its serial number
abbrev pub object_form : ℕ → List ℕ → List ℕ
object_form serial name = codes "<" ++ (name ++ (codes "#" ++ (decimal serial ++ codes ">")))

-- forms behind the first, each behind the text `between`
abbrev pub more_forms : List ℕ → List (List ℕ) → List ℕ
more_forms between [] = []
more_forms between (form ∷ forms) = between ++ (form ++ more_forms between forms)

-- forms with the text `between` them
abbrev pub all_forms : List ℕ → List (List ℕ) → List ℕ
all_forms between [] = []
all_forms between (form ∷ forms) = form ++ more_forms between forms

-- an array; where it is too deep, dots stand for what lies in it
abbrev pub array_form : Option (Datum → List ℕ) → ArrayThing → List ℕ
array_form None a = codes "[...]"
array_form (Some form) a = codes "[" ++ (all_forms (codes ", ") (map form a.items) ++ codes "]")

abbrev pub pair_form : (Datum → List ℕ) → Datum × Datum → List ℕ
pair_form form p = form p.0 ++ (codes ": " ++ form p.1)

-- the pairs of a dictionary
abbrev pub pairs_form : (Datum → List ℕ) → List (Datum × Datum) → List ℕ
pairs_form form [] = codes "{  }"
pairs_form form (p ∷ ps) = codes "{ " ++ (all_forms (codes ", ") (map (pair_form form) (p ∷ ps)) ++ codes " }")

abbrev pub dict_form : Option (Datum → List ℕ) → DictThing → List ℕ
dict_form None d = codes "{...}"
dict_form (Some form) d = pairs_form form d.pairs

-- a value inside of a container, `inside` being the form of what lies in it in its turn
abbrev pub form_by : Store → Names → Option (Datum → List ℕ) → Datum → List ℕ
form_by store names inside null = codes "<null>"
form_by store names inside (bool b) = if b then codes "true" else codes "false"
form_by store names inside (int n) = signed_decimal n
form_by store names inside (text t) = quoted t
form_by store names inside (object s) = object_form s (class_name_at store names s)
form_by store names inside (array s) = array_form inside (array_at store s)
form_by store names inside (dictionary s) = dict_form inside (dict_at store s)
form_by store names inside (callable c) = named (codes "<callable ") c.name
form_by store names inside (signal s name) = named (codes "<signal ") name

-- the form of what lies in a container, where containers may lie `room` deep in it
unfoldable pub inside : Store → Names → ℕ → Option (Datum → List ℕ)
inside store names zero = None
inside store names (suc room) = Some (form_by store names (inside store names room))

-- the printed form: a String is itself, and containers are printed 16 deep
abbrev pub printed : Store → Names → Datum → List ℕ
printed store names (text t) = t
printed store names v = form_by store names (inside store names 16) v

-- the printed forms of values with the text `between` them
abbrev pub all_printed : Store → Names → List ℕ → List Datum → List ℕ
all_printed store names between values = all_forms between (map (printed store names) values)
