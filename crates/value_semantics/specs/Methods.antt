-- What the methods give that do not write. Another number of arguments is refused first, and then values of other kinds.
use Rattle.std.specs.Prelude.{ℕ, ◌+◌, Bool, true, false, ◌||◌, ◌==◌, nat_eq, nat_lt, List, [], ◌∷◌, length, map, drop, slice_get, slice_range, is_some, unwrap_or, Option, None, Some, Result, Ok, Err, ℤ, pos, negsuc, if◌then◌else◌}
use Rattle.std.specs.List.{starts_with, ends_with}
use Rattle.gd_model.specs.declared.fault.RunFault.{RunFault}
use Rattle.gd_model.specs.declared.fault.RunFault.TheVariants.{BadKey, NoSuchMethod, NullReceiver, OutOfRange, WrongNumberOfArguments, ValueOfAnotherType}
use Rattle.gd_model.specs.declared.ty.Ty.TheVariants as ty
use Rattle.gd_model.specs.Datum as d
use Rattle.gd_model.specs.Datum.{Datum}
use Rattle.gd_model.specs.Place as place
use Rattle.gd_model.specs.Place.{element_at}
use Rattle.gd_model.specs.Same.{is_key}
use Rattle.gd_model.specs.Store.{Store, Names, ArrayThing, DictThing, array_at, dict_at, value_at}
use Rattle.gd_text.specs.Number.{is_valid_int, to_int}
use Rattle.gd_text.specs.Search.{find, replaced, split}
use Rattle.gd_text.specs.Text.{left, right, repeated, substr, stripped}
use Rattle.value_semantics.specs.declared.builtin.Builtin.{Builtin}
use Rattle.value_semantics.specs.declared.builtin.Builtin.TheVariants as b
use Rattle.value_semantics.specs.Answer.{and_then, in_form}
use Rattle.value_semantics.specs.Equality.{same}
use Rattle.value_semantics.specs.Functions.{one_int}
use Rattle.value_semantics.specs.Made.{Made, value, array, dict, int_made, bool_made, place_made, text_made, text_in_range, array_made}
use Rattle.value_semantics.specs.Operators.{first_place}
use Rattle.value_semantics.specs.Printed.{all_printed}

-- arguments that fit no form of a call: their number, or else the kind of one
abbrev pub misfit : {A : Type 0} → ℕ → ℕ → List Datum → Result A RunFault
misfit least most args = Err (if nat_lt (length args) least || nat_lt most (length args) then WrongNumberOfArguments else ValueOfAnotherType)

-- a call without arguments
abbrev pub alone : Result Made RunFault → List Datum → Result Made RunFault
alone gives [] = gives
alone gives args = Err WrongNumberOfArguments

-- the arguments of a call, with what stands for one that is left out
abbrev pub int_and_maybe : ℤ → List Datum → Result (ℤ × ℤ) RunFault
int_and_maybe other (d.int x ∷ []) = Ok (x, other)
int_and_maybe other (d.int x ∷ d.int y ∷ []) = Ok (x, y)
int_and_maybe other args = misfit 1 2 args

abbrev pub one_text : List Datum → Result (List ℕ) RunFault
one_text (d.text t ∷ []) = Ok t
one_text args = misfit 1 1 args

abbrev pub text_and_maybe : List Datum → Result (List ℕ × ℤ) RunFault
text_and_maybe (d.text t ∷ []) = Ok (t, pos 0)
text_and_maybe (d.text t ∷ d.int from ∷ []) = Ok (t, from)
text_and_maybe args = misfit 1 2 args

abbrev pub two_texts : List Datum → Result (List ℕ × List ℕ) RunFault
two_texts (d.text t ∷ d.text u ∷ []) = Ok (t, u)
two_texts args = misfit 2 2 args

abbrev pub split_args : List Datum → Result (List ℕ × Bool) RunFault
split_args [] = Ok ([], true)
split_args (d.text by ∷ []) = Ok (by, true)
split_args (d.text by ∷ d.bool empty ∷ []) = Ok (by, empty)
split_args args = misfit 0 2 args

-- the methods of a String without arguments
abbrev pub text_alone : Builtin → List ℕ → Result Made RunFault
text_alone b.StringLength a = Ok (int_made (pos (length a)))
text_alone b.StringIsEmpty a = Ok (bool_made (length a == 0))
text_alone b.StringIsValidInt a = Ok (bool_made (is_valid_int a))
text_alone b.StringToInt a = Ok (int_made (to_int a))
text_alone b.StringStripEdges a = text_made (stripped a)
text_alone method a = Err NoSuchMethod

-- the code point at a place
abbrev pub code_made : Option ℕ → Result Made RunFault
code_made None = Err OutOfRange
code_made (Some c) = Ok (int_made (pos c))

abbrev pub unicode_at : List ℕ → ℤ → Result Made RunFault
unicode_at a (pos i) = code_made (slice_get a i)
unicode_at a (negsuc k) = Err OutOfRange

-- the methods of a String with an int
abbrev pub text_with_int : Builtin → List ℕ → ℤ → Result Made RunFault
text_with_int b.StringLeft a n = text_made (left a n)
text_with_int b.StringRight a n = text_made (right a n)
text_with_int b.StringRepeat a n = text_in_range (repeated a n)
text_with_int b.StringUnicodeAt a n = unicode_at a n
text_with_int method a n = Err NoSuchMethod

-- the methods of a String that test it with another
abbrev pub text_test : Builtin → List ℕ → List ℕ → Bool
text_test b.StringContains a w = is_some (find a w (pos 0))
text_test b.StringBeginsWith a w = starts_with nat_eq a w
text_test method a w = ends_with nat_eq a w

-- the parts of a String as an array of Strings
abbrev pub array_of_texts : List (List ℕ) → ArrayThing
array_of_texts ts = record { element = ty.Str; fixed = false; items = map (λ t. d.text t) ts }

abbrev pub parts_array : List ℕ → List ℕ → Bool → ArrayThing
parts_array a by empty = array_of_texts (split a by empty)

-- the methods of a String but `join`
abbrev pub texts_call : Builtin → List ℕ → List Datum → Result Made RunFault
texts_call b.StringLength a args = alone (text_alone b.StringLength a) args
texts_call b.StringIsEmpty a args = alone (text_alone b.StringIsEmpty a) args
texts_call b.StringIsValidInt a args = alone (text_alone b.StringIsValidInt a) args
texts_call b.StringToInt a args = alone (text_alone b.StringToInt a) args
texts_call b.StringStripEdges a args = alone (text_alone b.StringStripEdges a) args
texts_call b.StringLeft a args = and_then (one_int args) (text_with_int b.StringLeft a)
texts_call b.StringRight a args = and_then (one_int args) (text_with_int b.StringRight a)
texts_call b.StringRepeat a args = and_then (one_int args) (text_with_int b.StringRepeat a)
texts_call b.StringUnicodeAt a args = and_then (one_int args) (text_with_int b.StringUnicodeAt a)
texts_call b.StringSubstr a args = and_then (int_and_maybe (negsuc 0) args) (λ p. text_in_range (substr a p.0 p.1))
texts_call b.StringContains a args = in_form (λ w. bool_made (text_test b.StringContains a w)) (one_text args)
texts_call b.StringBeginsWith a args = in_form (λ w. bool_made (text_test b.StringBeginsWith a w)) (one_text args)
texts_call b.StringEndsWith a args = in_form (λ w. bool_made (text_test b.StringEndsWith a w)) (one_text args)
texts_call b.StringFind a args = in_form (λ p. place_made (find a p.0 p.1)) (text_and_maybe args)
texts_call b.StringReplace a args = and_then (two_texts args) (λ p. text_made (replaced a p.0 p.1))
texts_call b.StringSplit a args = and_then (split_args args) (λ p. array_made (parts_array a p.0 p.1))
texts_call method a args = Err NoSuchMethod

-- the printed elements with the text between them
abbrev pub join_gives : Store → Names → List ℕ → List Datum → Result Made RunFault
join_gives store names a (d.array s ∷ []) = text_made (all_printed store names a (array_at store s).items)
join_gives store names a args = misfit 1 1 args

abbrev pub text_call : Store → Names → Builtin → List ℕ → List Datum → Result Made RunFault
text_call store names b.StringJoin a args = join_gives store names a args
text_call store names method a args = texts_call method a args

-- the value at a place, or null
abbrev pub item_or_null : Option Datum → Made
item_or_null None = value d.null
item_or_null (Some v) = value v

-- a writable array of the same type with the elements from one place on and before another
abbrev pub sliced : ArrayThing → ℤ × ℤ → ArrayThing
sliced a p = record { element = a.element; fixed = false; items = slice_range a.items (place.clamped p.0 (length a.items)) (place.clamped p.1 (length a.items)) }

-- how many elements the test says yes for, and n more
abbrev pub count_from : (Datum → Result Bool RunFault) → ℕ → List Datum → Result ℕ RunFault
count_from test n [] = Ok n
count_from test n (x ∷ xs) = and_then (test x) (λ yes. count_from test (n + (if yes then 1 else 0)) xs)

abbrev pub one_value : List Datum → Result Datum RunFault
one_value (a ∷ []) = Ok a
one_value args = Err WrongNumberOfArguments

abbrev pub value_and_maybe : List Datum → Result (Datum × ℤ) RunFault
value_and_maybe (a ∷ []) = Ok (a, pos 0)
value_and_maybe (a ∷ d.int from ∷ []) = Ok (a, from)
value_and_maybe args = misfit 1 2 args

-- the first place from `from` on of an element that equals the value
abbrev pub place_of : Store → ArrayThing → Datum × ℤ → Result (Option ℕ) RunFault
place_of store a (v, pos from) = first_place (λ x. same store x v) from (drop from a.items)
place_of store a (v, negsuc k) = Ok None

abbrev pub has_gives : Store → ArrayThing → Datum → Result Made RunFault
has_gives store a v = in_form (λ at. bool_made (is_some at)) (first_place (λ x. same store x v) 0 a.items)

abbrev pub count_gives : Store → ArrayThing → Datum → Result Made RunFault
count_gives store a v = in_form (λ n. int_made (pos n)) (count_from (λ x. same store x v) 0 a.items)

abbrev pub place_gives : Store → ArrayThing → Datum × ℤ → Result Made RunFault
place_gives store a p = in_form place_made (place_of store a p)

-- the methods of an Array without arguments
abbrev pub array_alone : Builtin → ArrayThing → Result Made RunFault
array_alone b.ArraySize a = Ok (int_made (pos (length a.items)))
array_alone b.ArrayIsEmpty a = Ok (bool_made (length a.items == 0))
array_alone b.ArrayIsReadOnly a = Ok (bool_made a.fixed)
array_alone b.ArrayFront a = Ok (item_or_null (element_at a.items (pos 0)))
array_alone b.ArrayBack a = Ok (item_or_null (element_at a.items (negsuc 0)))
array_alone b.ArrayDuplicate a = Ok (array (record a { fixed = false }))
array_alone method a = Err NoSuchMethod

-- the methods of an Array
abbrev pub arrays_call : Store → Builtin → ArrayThing → List Datum → Result Made RunFault
arrays_call store b.ArraySize a args = alone (array_alone b.ArraySize a) args
arrays_call store b.ArrayIsEmpty a args = alone (array_alone b.ArrayIsEmpty a) args
arrays_call store b.ArrayIsReadOnly a args = alone (array_alone b.ArrayIsReadOnly a) args
arrays_call store b.ArrayFront a args = alone (array_alone b.ArrayFront a) args
arrays_call store b.ArrayBack a args = alone (array_alone b.ArrayBack a) args
arrays_call store b.ArrayDuplicate a args = alone (array_alone b.ArrayDuplicate a) args
arrays_call store b.ArraySlice a args = in_form (λ p. array (sliced a p)) (int_and_maybe (pos 2147483647) args)
arrays_call store b.ArrayHas a args = and_then (one_value args) (has_gives store a)
arrays_call store b.ArrayCount a args = and_then (one_value args) (count_gives store a)
arrays_call store b.ArrayFind a args = and_then (value_and_maybe args) (place_gives store a)
arrays_call store method a args = Err NoSuchMethod

-- the keys and the values of a dictionary as arrays
abbrev pub keys_array : List (Datum × Datum) → ArrayThing
keys_array ps = record { element = ty.Variant; fixed = false; items = map (λ p. p.0) ps }

abbrev pub values_array : List (Datum × Datum) → ArrayThing
values_array ps = record { element = ty.Variant; fixed = false; items = map (λ p. p.1) ps }

-- a writable dictionary of the same types with the same pairs
abbrev pub dict_copy : DictThing → DictThing
dict_copy m = record m { fixed = false }

-- the methods of a Dictionary without arguments
abbrev pub dict_alone : Builtin → DictThing → Result Made RunFault
dict_alone b.DictionarySize m = Ok (int_made (pos (length m.pairs)))
dict_alone b.DictionaryIsEmpty m = Ok (bool_made (length m.pairs == 0))
dict_alone b.DictionaryIsReadOnly m = Ok (bool_made m.fixed)
dict_alone b.DictionaryKeys m = Ok (array (keys_array m.pairs))
dict_alone b.DictionaryValues m = Ok (array (values_array m.pairs))
dict_alone b.DictionaryDuplicate m = Ok (dict (dict_copy m))
dict_alone method m = Err NoSuchMethod

-- a key among arguments; what is no key is refused
abbrev pub with_key : {A : Type 0} → Datum → A → Result A RunFault
with_key k given = if is_key k then Ok given else Err BadKey

-- the value at a key, or the other one
abbrev pub value_or : DictThing → Datum × Datum → Result Made RunFault
value_or m p = with_key p.0 (value (unwrap_or (value_at m.pairs p.0) p.1))

abbrev pub key_and_maybe : List Datum → Result (Datum × Datum) RunFault
key_and_maybe (k ∷ []) = Ok (k, d.null)
key_and_maybe (k ∷ other ∷ []) = Ok (k, other)
key_and_maybe args = Err WrongNumberOfArguments

-- the key of the first pair whose value the test says yes for, or null
abbrev pub first_key : (Datum → Result Bool RunFault) → List (Datum × Datum) → Result Datum RunFault
first_key test [] = Ok d.null
first_key test (p ∷ ps) = and_then (test p.1) (λ yes. if yes then Ok p.0 else first_key test ps)

abbrev pub has_key_gives : DictThing → Datum → Result Made RunFault
has_key_gives m k = with_key k (bool_made (is_some (value_at m.pairs k)))

abbrev pub find_key_gives : Store → DictThing → Datum → Result Made RunFault
find_key_gives store m v = in_form value (first_key (λ x. same store x v) m.pairs)

-- the methods of a Dictionary
abbrev pub dicts_call : Store → Builtin → DictThing → List Datum → Result Made RunFault
dicts_call store b.DictionarySize m args = alone (dict_alone b.DictionarySize m) args
dicts_call store b.DictionaryIsEmpty m args = alone (dict_alone b.DictionaryIsEmpty m) args
dicts_call store b.DictionaryIsReadOnly m args = alone (dict_alone b.DictionaryIsReadOnly m) args
dicts_call store b.DictionaryKeys m args = alone (dict_alone b.DictionaryKeys m) args
dicts_call store b.DictionaryValues m args = alone (dict_alone b.DictionaryValues m) args
dicts_call store b.DictionaryDuplicate m args = alone (dict_alone b.DictionaryDuplicate m) args
dicts_call store b.DictionaryHas m args = and_then (one_value args) (has_key_gives m)
dicts_call store b.DictionaryGet m args = and_then (key_and_maybe args) (value_or m)
dicts_call store b.DictionaryFindKey m args = and_then (one_value args) (find_key_gives store m)
dicts_call store method m args = Err NoSuchMethod

-- a method by its receiver
abbrev pub receiver_gives : Store → Names → Builtin → Datum → List Datum → Result Made RunFault
receiver_gives store names method (d.text a) args = text_call store names method a args
receiver_gives store names method (d.array s) args = arrays_call store method (array_at store s) args
receiver_gives store names method (d.dictionary s) args = dicts_call store method (dict_at store s) args
receiver_gives store names method d.null args = Err NullReceiver
receiver_gives store names method other args = Err NoSuchMethod

-- a method that does not write, its receiver being the first argument
abbrev pub method_gives : Store → Names → Builtin → List Datum → Result Made RunFault
method_gives store names method [] = Err WrongNumberOfArguments
method_gives store names method (receiver ∷ args) = receiver_gives store names method receiver args
