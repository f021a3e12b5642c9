-- The builtins refuse the calls that their rows do not take, and no others as such.
use Rattle.std.proofs.Common.{◌≡◌, ◌<◌, ℕ, Bool, true, false, not, ◌&&◌, ◌||◌, List, [], ◌∷◌, length, nat_le, nat_lt, Option, None, Some, Result, Ok, Err, ℤ, pos, negsuc, refl, ap, sym, subst, ◌∙◌, slice_get, drop, option_map, unwrap_or, is_some, if◌then◌else◌, int_lt, int_rem, codes, arith}
use Rattle.std.specs.Ordering.{int_eq}
use Rattle.std.specs.Int.{int_min, int_max, w64, int_wrapping_add}
use Rattle.std.proofs.lemmas.Bool.{lt-ltb}
use Rattle.gd_model.specs.declared.fault.RunFault.{RunFault}
use Rattle.gd_model.specs.declared.fault.RunFault.TheVariants.{TooLong, TooDeepToCompare, ZeroDivisorOrStep, NoSuchMethod, NullReceiver, WrongNumberOfArguments, ValueOfAnotherType, BadKey}
use Rattle.gd_model.specs.Datum as d
use Rattle.gd_model.specs.Datum.{Datum}
use Rattle.gd_model.specs.Same.{is_key}
use Rattle.gd_model.specs.Store.{Store, Names, ArrayThing, DictThing, array_at, dict_at, value_at}
use Rattle.value_semantics.specs.declared.builtin.Builtin.{Builtin}
use Rattle.value_semantics.specs.declared.builtin.Builtin.TheVariants as b
use Rattle.value_semantics.specs.declared.builtin_rows.Param.TheVariants as p
use Rattle.value_semantics.specs.declared.kind.Kind.{Kind}
use Rattle.value_semantics.specs.declared.kind.Kind.TheVariants as k
use Rattle.value_semantics.specs.Answer.{and_then, in_form}
use Rattle.value_semantics.specs.BuiltinRows.{row_of}
use Rattle.value_semantics.specs.Builtins.{called, range_args, char_call, char_of}
use Rattle.value_semantics.specs.Equality.{same}
use Rattle.value_semantics.specs.Functions as f
use Rattle.value_semantics.specs.Made.{Made, value, array, int_made, bool_made, place_made, limited, text_made, text_in_range, array_made}
use Rattle.value_semantics.specs.Methods as m
use Rattle.value_semantics.specs.Operators.{first_place}
use Rattle.value_semantics.specs.Parameters.{kinds_fit, arguments_fault, receiver_fault, or_else, method_fault, call_fault, is_of_call}
use Rattle.value_semantics.specs.Printed.{all_printed}
use Rattle.value_semantics.specs.Ranges as ranges
use Rattle.gd_text.specs.Search.{find, replaced}
use Rattle.gd_text.specs.Text.{left, right, repeated, substr, stripped}
use Rattle.gd_ops.proofs.Deep.{deep_only, deep_same, deep_place, deep_count, deep_key}

-- the fault that is meant, where one is
abbrev fault_of : {A : Type 0} → Result A RunFault → Option RunFault
fault_of (Ok x) = None
fault_of (Err f) = Some f

-- whether a meaning is none of the faults that a row gives
abbrev fine : {A : Type 0} → Result A RunFault → Bool
fine (Err f) = not (is_of_call f)
fine (Ok x) = true

-- a meaning refuses as `fault` says, and as such nothing else
abbrev Fits : {A : Type 0} → Result A RunFault → Option RunFault → Type 0
Fits m fault = ((f : RunFault) → fault ≡ Some f → m ≡ Err f) × (fault ≡ None → fine m ≡ true)

fits_itself : {A : Type 0} → (m : Result A RunFault) → Fits m (fault_of m)
fits_itself (Ok x) = (λ f e. cc, λ e. refl)
fits_itself (Err g) = (λ f e. (let same : g ≡ f = cc in ap (λ h. Err h) same), λ e. cc)

fits_as : {A : Type 0} → (m : Result A RunFault) (fault : Option RunFault) → fault_of m ≡ fault → Fits m fault
fits_as m fault e = subst (λ (c : Option RunFault). Fits m c) e (fits_itself m)

fine_then : {A B : Type 0} → (more : A → Result B RunFault) (m : Result A RunFault) → fine m ≡ true → ((x : A) → fine (more x) ≡ true) → fine (and_then m more) ≡ true
fine_then more (Err f) h g = h
fine_then more (Ok x) h g = g x

fine_form : {A B : Type 0} → (form : A → B) (m : Result A RunFault) → fine m ≡ true → fine (in_form form m) ≡ true
fine_form form (Err f) h = h
fine_form form (Ok x) h = refl

fits_then : {A B : Type 0} → (more : A → Result B RunFault) (m : Result A RunFault) (fault : Option RunFault) → Fits m fault → ((x : A) → fine (more x) ≡ true) → Fits (and_then m more) fault
fits_then more m fault h g = (λ f e. ap (λ n. and_then n more) (h.0 f e), λ e. fine_then more m (h.1 e) g)

fits_form : {A B : Type 0} → (form : A → B) (m : Result A RunFault) (fault : Option RunFault) → Fits m fault → Fits (in_form form m) fault
fits_form form m fault h = (λ f e. ap (λ n. in_form form n) (h.0 f e), λ e. fine_form form m (h.1 e))

refused : {A : Type 0} → (f : RunFault) → Fits {A = A} (Err f) (Some f)
refused {A} f = fits_itself {A = A} (Err f)

no_method : Fits {A = Made} (Err NoSuchMethod) (Some NoSuchMethod)
no_method = refused NoSuchMethod

-- what refuses only what is too deep is fine
from_deep : {A : Type 0} → (m : Result A RunFault) → deep_only m ≡ true → fine m ≡ true
from_deep (Ok x) h = refl
from_deep (Err TooDeepToCompare) h = refl
from_deep (Err _) h = cc

fine_if : {A : Type 0} → (b : Bool) (m n : Result A RunFault) → fine m ≡ true → fine n ≡ true → fine (if b then m else n) ≡ true
fine_if true m n h g = h
fine_if false m n h g = g

fine_limited : {A : Type 0} → (b : Bool) (x : A) → fine (let r : Result A RunFault = if b then Ok x else Err TooLong in r) ≡ true
fine_limited true x = refl
fine_limited false x = refl

fine_text : (t : List ℕ) → fine (text_made t) ≡ true
fine_text t = fine_form (λ s. value (d.text s)) (limited t) (fine_limited (nat_le (length t) 16777216) t)

fine_text_in_range : (t : Option (List ℕ)) → fine (text_in_range t) ≡ true
fine_text_in_range None = refl
fine_text_in_range (Some t) = fine_text t

fine_array : (a : ArrayThing) → fine (array_made a) ≡ true
fine_array a = fine_limited (nat_le (length a.items) 16777216) (array a)

-- arguments

one_int : (args : List Datum) → fault_of (f.one_int args) ≡ arguments_fault (p.Int ∷ []) [] None args
one_int [] = refl
one_int (d.int x ∷ []) = refl
one_int (d.int x ∷ c ∷ args) = refl
one_int (a ∷ []) = refl
one_int (a ∷ c ∷ args) = refl

two_ints : (args : List Datum) → fault_of (f.two_ints args) ≡ arguments_fault (p.Int ∷ p.Int ∷ []) [] None args
two_ints [] = refl
two_ints (d.int x ∷ []) = refl
two_ints (d.int x ∷ d.int y ∷ []) = refl
two_ints (d.int x ∷ d.int y ∷ z ∷ args) = refl
two_ints (d.int x ∷ c ∷ []) = refl
two_ints (d.int x ∷ c ∷ z ∷ args) = refl
two_ints (a ∷ []) = refl
two_ints (a ∷ c ∷ []) = refl
two_ints (a ∷ c ∷ z ∷ args) = refl

three_ints : (args : List Datum) → fault_of (f.three_ints args) ≡ arguments_fault (p.Int ∷ p.Int ∷ p.Int ∷ []) [] None args
three_ints [] = refl
three_ints (d.int x ∷ []) = refl
three_ints (d.int x ∷ d.int y ∷ []) = refl
three_ints (d.int x ∷ d.int y ∷ d.int z ∷ []) = refl
three_ints (d.int x ∷ d.int y ∷ d.int z ∷ e ∷ args) = refl
three_ints (d.int x ∷ d.int y ∷ z ∷ []) = refl
three_ints (d.int x ∷ d.int y ∷ z ∷ e ∷ args) = refl
three_ints (d.int x ∷ c ∷ []) = refl
three_ints (d.int x ∷ c ∷ z ∷ []) = refl
three_ints (d.int x ∷ c ∷ z ∷ e ∷ args) = refl
three_ints (a ∷ []) = refl
three_ints (a ∷ c ∷ []) = refl
three_ints (a ∷ c ∷ z ∷ []) = refl
three_ints (a ∷ c ∷ z ∷ e ∷ args) = refl

picked : (pick : ℤ → ℤ → ℤ) (n : ℤ) (args : List Datum) → fault_of (f.picked pick n args) ≡ (if kinds_fit [] (Some p.Int) args then None else Some ValueOfAnotherType)
picked pick n [] = refl
picked pick n (d.int m ∷ args) = picked pick (pick n m) args
picked pick n (_ ∷ args) = refl

many_picked : (pick : ℤ → ℤ → ℤ) (args : List Datum) → fault_of (f.many_picked pick args) ≡ arguments_fault (p.Int ∷ p.Int ∷ []) [] (Some p.Int) args
many_picked pick [] = refl
many_picked pick (a ∷ []) = refl
many_picked pick (d.int n ∷ d.int m ∷ []) = refl
many_picked pick (d.int n ∷ d.int m ∷ a ∷ args) = picked pick (pick n m) (a ∷ args)
many_picked pick (d.int n ∷ _ ∷ []) = refl
many_picked pick (d.int n ∷ _ ∷ a ∷ args) = refl
many_picked pick (_ ∷ a ∷ []) = refl
many_picked pick (_ ∷ a ∷ c ∷ args) = refl

right_true : (x y : Bool) → y ≡ true → (x || y) ≡ true
right_true true y e = refl
right_true false y e = e

-- too many arguments are no case of a kind
too_many : (least most n : ℕ) → most < n → Some (if nat_lt n least || nat_lt most n then WrongNumberOfArguments else ValueOfAnotherType) ≡ Some WrongNumberOfArguments
too_many least most n h = ap (λ x. Some (if x then WrongNumberOfArguments else ValueOfAnotherType)) (right_true (nat_lt n least) (nat_lt most n) (lt-ltb most n h))

range_args_fit : (args : List Datum) → fault_of (range_args args) ≡ arguments_fault (p.Int ∷ []) (p.Int ∷ p.Int ∷ []) None args
range_args_fit [] = refl
range_args_fit (d.int x ∷ []) = refl
range_args_fit (d.int x ∷ d.int y ∷ []) = refl
range_args_fit (d.int x ∷ d.int y ∷ d.int z ∷ []) = refl
range_args_fit (d.int x ∷ d.int y ∷ d.int z ∷ e ∷ args) = too_many 1 3 (length (d.int x ∷ d.int y ∷ d.int z ∷ e ∷ args)) (omega arith)
range_args_fit (d.int x ∷ d.int y ∷ z ∷ []) = refl
range_args_fit (d.int x ∷ d.int y ∷ z ∷ e ∷ args) = too_many 1 3 (length (d.int x ∷ d.int y ∷ z ∷ e ∷ args)) (omega arith)
range_args_fit (d.int x ∷ c ∷ []) = refl
range_args_fit (d.int x ∷ c ∷ z ∷ []) = refl
range_args_fit (d.int x ∷ c ∷ z ∷ e ∷ args) = too_many 1 3 (length (d.int x ∷ c ∷ z ∷ e ∷ args)) (omega arith)
range_args_fit (a ∷ []) = refl
range_args_fit (a ∷ c ∷ []) = refl
range_args_fit (a ∷ c ∷ z ∷ []) = refl
range_args_fit (a ∷ c ∷ z ∷ e ∷ args) = too_many 1 3 (length (a ∷ c ∷ z ∷ e ∷ args)) (omega arith)

int_and_maybe : (other : ℤ) (args : List Datum) → fault_of (m.int_and_maybe other args) ≡ arguments_fault (p.Int ∷ []) (p.Int ∷ []) None args
int_and_maybe other [] = refl
int_and_maybe other (d.int x ∷ []) = refl
int_and_maybe other (d.int x ∷ d.int y ∷ []) = refl
int_and_maybe other (d.int x ∷ d.int y ∷ z ∷ args) = too_many 1 2 (length (d.int x ∷ d.int y ∷ z ∷ args)) (omega arith)
int_and_maybe other (d.int x ∷ c ∷ []) = refl
int_and_maybe other (d.int x ∷ c ∷ z ∷ args) = too_many 1 2 (length (d.int x ∷ c ∷ z ∷ args)) (omega arith)
int_and_maybe other (a ∷ []) = refl
int_and_maybe other (a ∷ c ∷ []) = refl
int_and_maybe other (a ∷ c ∷ z ∷ args) = too_many 1 2 (length (a ∷ c ∷ z ∷ args)) (omega arith)

one_text : (args : List Datum) → fault_of (m.one_text args) ≡ arguments_fault (p.Str ∷ []) [] None args
one_text [] = refl
one_text (d.text x ∷ []) = refl
one_text (d.text x ∷ c ∷ args) = too_many 1 1 (length (d.text x ∷ c ∷ args)) (omega arith)
one_text (a ∷ []) = refl
one_text (a ∷ c ∷ args) = too_many 1 1 (length (a ∷ c ∷ args)) (omega arith)

text_and_maybe : (args : List Datum) → fault_of (m.text_and_maybe args) ≡ arguments_fault (p.Str ∷ []) (p.Int ∷ []) None args
text_and_maybe [] = refl
text_and_maybe (d.text x ∷ []) = refl
text_and_maybe (d.text x ∷ d.int y ∷ []) = refl
text_and_maybe (d.text x ∷ d.int y ∷ z ∷ args) = too_many 1 2 (length (d.text x ∷ d.int y ∷ z ∷ args)) (omega arith)
text_and_maybe (d.text x ∷ c ∷ []) = refl
text_and_maybe (d.text x ∷ c ∷ z ∷ args) = too_many 1 2 (length (d.text x ∷ c ∷ z ∷ args)) (omega arith)
text_and_maybe (a ∷ []) = refl
text_and_maybe (a ∷ c ∷ []) = refl
text_and_maybe (a ∷ c ∷ z ∷ args) = too_many 1 2 (length (a ∷ c ∷ z ∷ args)) (omega arith)

two_texts : (args : List Datum) → fault_of (m.two_texts args) ≡ arguments_fault (p.Str ∷ p.Str ∷ []) [] None args
two_texts [] = refl
two_texts (d.text x ∷ []) = refl
two_texts (d.text x ∷ d.text y ∷ []) = refl
two_texts (d.text x ∷ d.text y ∷ z ∷ args) = too_many 2 2 (length (d.text x ∷ d.text y ∷ z ∷ args)) (omega arith)
two_texts (d.text x ∷ c ∷ []) = refl
two_texts (d.text x ∷ c ∷ z ∷ args) = too_many 2 2 (length (d.text x ∷ c ∷ z ∷ args)) (omega arith)
two_texts (a ∷ []) = refl
two_texts (a ∷ c ∷ []) = refl
two_texts (a ∷ c ∷ z ∷ args) = too_many 2 2 (length (a ∷ c ∷ z ∷ args)) (omega arith)

split_args : (args : List Datum) → fault_of (m.split_args args) ≡ arguments_fault [] (p.Str ∷ p.Bool ∷ []) None args
split_args [] = refl
split_args (d.text x ∷ []) = refl
split_args (d.text x ∷ d.bool y ∷ []) = refl
split_args (d.text x ∷ d.bool y ∷ z ∷ args) = too_many 0 2 (length (d.text x ∷ d.bool y ∷ z ∷ args)) (omega arith)
split_args (d.text x ∷ c ∷ []) = refl
split_args (d.text x ∷ c ∷ z ∷ args) = too_many 0 2 (length (d.text x ∷ c ∷ z ∷ args)) (omega arith)
split_args (a ∷ []) = refl
split_args (a ∷ c ∷ []) = refl
split_args (a ∷ c ∷ z ∷ args) = too_many 0 2 (length (a ∷ c ∷ z ∷ args)) (omega arith)

one_value : (args : List Datum) → fault_of (m.one_value args) ≡ arguments_fault (p.Any ∷ []) [] None args
one_value [] = refl
one_value (a ∷ []) = refl
one_value (a ∷ c ∷ args) = refl

one_key : (args : List Datum) → fault_of (m.one_value args) ≡ arguments_fault (p.Key ∷ []) [] None args
one_key [] = refl
one_key (a ∷ []) = refl
one_key (a ∷ c ∷ args) = refl

value_and_maybe : (args : List Datum) → fault_of (m.value_and_maybe args) ≡ arguments_fault (p.Any ∷ []) (p.Int ∷ []) None args
value_and_maybe [] = refl
value_and_maybe (a ∷ []) = refl
value_and_maybe (a ∷ d.int x ∷ []) = refl
value_and_maybe (a ∷ d.int x ∷ z ∷ args) = too_many 1 2 (length (a ∷ d.int x ∷ z ∷ args)) (omega arith)
value_and_maybe (a ∷ c ∷ []) = refl
value_and_maybe (a ∷ c ∷ z ∷ args) = too_many 1 2 (length (a ∷ c ∷ z ∷ args)) (omega arith)

key_and_maybe : (args : List Datum) → fault_of (m.key_and_maybe args) ≡ arguments_fault (p.Key ∷ []) (p.Any ∷ []) None args
key_and_maybe [] = refl
key_and_maybe (a ∷ []) = refl
key_and_maybe (a ∷ c ∷ []) = refl
key_and_maybe (a ∷ c ∷ z ∷ args) = refl

any_kinds : (args : List Datum) → kinds_fit [] (Some p.Any) args ≡ true
any_kinds [] = refl
any_kinds (a ∷ args) = any_kinds args

any_arguments : (args : List Datum) → arguments_fault [] [] (Some p.Any) args ≡ None
any_arguments [] = refl
any_arguments (a ∷ args) = ap (λ x. if x then None else Some ValueOfAnotherType) (any_kinds args)

sized : (store : Store) (a : Datum) → fault_of (f.values_call store b.Len (a ∷ [])) ≡ arguments_fault (p.Sized ∷ []) [] None (a ∷ [])
sized store d.null = refl
sized store (d.bool x) = refl
sized store (d.int n) = refl
sized store (d.text t) = refl
sized store (d.object s) = refl
sized store (d.array s) = refl
sized store (d.dictionary s) = refl
sized store (d.callable c) = refl
sized store (d.signal s n) = refl

len_fits : (store : Store) (args : List Datum) → Fits (f.values_call store b.Len args) (arguments_fault (p.Sized ∷ []) [] None args)
len_fits store [] = fits_itself (f.values_call store b.Len [])
len_fits store (a ∷ []) = fits_as (f.values_call store b.Len (a ∷ [])) (arguments_fault (p.Sized ∷ []) [] None (a ∷ [])) (sized store a)
len_fits store (a ∷ c ∷ args) = fits_itself (f.values_call store b.Len (a ∷ c ∷ args))

typeof_fits : (store : Store) (args : List Datum) → Fits (f.values_call store b.Typeof args) (arguments_fault (p.Any ∷ []) [] None args)
typeof_fits store [] = fits_itself (f.values_call store b.Typeof [])
typeof_fits store (a ∷ []) = fits_itself (f.values_call store b.Typeof (a ∷ []))
typeof_fits store (a ∷ c ∷ args) = fits_itself (f.values_call store b.Typeof (a ∷ c ∷ args))

int_fits : (store : Store) (args : List Datum) → Fits (f.values_call store b.Int args) (arguments_fault (p.ToInt ∷ []) [] None args)
int_fits store [] = fits_itself (f.values_call store b.Int [])
int_fits store (d.null ∷ []) = fits_itself (f.values_call store b.Int (d.null ∷ []))
int_fits store (a ∷ []) = fits_itself (f.values_call store b.Int (a ∷ []))
int_fits store (a ∷ c ∷ args) = fits_itself (f.values_call store b.Int (a ∷ c ∷ args))

bool_fits : (store : Store) (args : List Datum) → Fits (f.values_call store b.Bool args) (arguments_fault (p.ToBool ∷ []) [] None args)
bool_fits store [] = fits_itself (f.values_call store b.Bool [])
bool_fits store (d.null ∷ []) = fits_itself (f.values_call store b.Bool (d.null ∷ []))
bool_fits store (a ∷ []) = fits_itself (f.values_call store b.Bool (a ∷ []))
bool_fits store (a ∷ c ∷ args) = fits_itself (f.values_call store b.Bool (a ∷ c ∷ args))

is_same_fits : (store : Store) (args : List Datum) → Fits (f.values_call store b.IsSame args) (arguments_fault (p.Any ∷ p.Any ∷ []) [] None args)
is_same_fits store [] = fits_itself (f.values_call store b.IsSame [])
is_same_fits store (a ∷ []) = fits_itself (f.values_call store b.IsSame (a ∷ []))
is_same_fits store (a ∷ c ∷ []) = fits_itself (f.values_call store b.IsSame (a ∷ c ∷ []))
is_same_fits store (a ∷ c ∷ z ∷ args) = fits_itself (f.values_call store b.IsSame (a ∷ c ∷ z ∷ args))

alone_fits : (gives : Result Made RunFault) (args : List Datum) → fine gives ≡ true → Fits (m.alone gives args) (arguments_fault [] [] None args)
alone_fits gives [] h = (λ f e. cc, λ e. h)
alone_fits gives (a ∷ args) h = fits_itself (m.alone gives (a ∷ args))

-- what calls do with their arguments

fine_posmod : (x y : ℤ) → fine (f.posmod x y) ≡ true
fine_posmod x y =
    let rest = int_rem x y in
    let inner : Result ℤ RunFault = if (int_lt rest (pos 0) && int_lt (pos 0) y) || (int_lt (pos 0) rest && int_lt y (pos 0)) then Ok (int_wrapping_add w64 rest y) else Ok rest in
    fine_if (int_eq y (pos 0)) (Err ZeroDivisorOrStep) inner refl
    (fine_if ((int_lt rest (pos 0) && int_lt (pos 0) y) || (int_lt (pos 0) rest && int_lt y (pos 0))) (Ok (int_wrapping_add w64 rest y)) (Ok rest) refl refl)

fine_code : (o : Option ℕ) → fine (m.code_made o) ≡ true
fine_code None = refl
fine_code (Some c) = refl

fine_unicode : (a : List ℕ) (n : ℤ) → fine (m.unicode_at a n) ≡ true
fine_unicode a (pos i) = fine_code (slice_get a i)
fine_unicode a (negsuc i) = refl

fine_place : (store : Store) (a : ArrayThing) (x : Datum) (n : ℤ) → fine (m.place_of store a (x, n)) ≡ true
fine_place store a x (pos from) = from_deep (first_place (λ y. same store y x) from (drop from a.items)) (deep_place (λ y. same store y x) (λ y. deep_same store y x) from (drop from a.items))
fine_place store a x (negsuc i) = refl

fine_place_gives : (store : Store) (a : ArrayThing) (q : Datum × ℤ) → fine (m.place_gives store a q) ≡ true
fine_place_gives store a q = fine_form place_made (m.place_of store a q) (fine_place store a q.0 q.1)

fine_has : (store : Store) (a : ArrayThing) (x : Datum) → fine (m.has_gives store a x) ≡ true
fine_has store a x = fine_form (λ at. bool_made (is_some at)) (first_place (λ y. same store y x) 0 a.items) (from_deep (first_place (λ y. same store y x) 0 a.items) (deep_place (λ y. same store y x) (λ y. deep_same store y x) 0 a.items))

fine_count : (store : Store) (a : ArrayThing) (x : Datum) → fine (m.count_gives store a x) ≡ true
fine_count store a x = fine_form (λ n. int_made (pos n)) (m.count_from (λ y. same store y x) 0 a.items) (from_deep (m.count_from (λ y. same store y x) 0 a.items) (deep_count (λ y. same store y x) (λ y. deep_same store y x) 0 a.items))

fine_with_key : {A : Type 0} → (key : Datum) (given : A) → fine (m.with_key key given) ≡ true
fine_with_key key given = fine_if (is_key key) (Ok given) (Err BadKey) refl refl

fine_has_key : (t : DictThing) (x : Datum) → fine (m.has_key_gives t x) ≡ true
fine_has_key t x = fine_with_key x (bool_made (is_some (value_at t.pairs x)))

fine_value_or : (t : DictThing) (q : Datum × Datum) → fine (m.value_or t q) ≡ true
fine_value_or t q = fine_with_key q.0 (value (unwrap_or (value_at t.pairs q.0) q.1))

fine_find_key : (store : Store) (t : DictThing) (x : Datum) → fine (m.find_key_gives store t x) ≡ true
fine_find_key store t x = fine_form value (m.first_key (λ y. same store y x) t.pairs) (from_deep (m.first_key (λ y. same store y x) t.pairs) (deep_key (λ y. same store y x) (λ y. deep_same store y x) t.pairs))

fine_range : (first end step : ℤ) → fine (ranges.range_gives first end step) ≡ true
fine_range first end step =
    let size = ranges.range_size first end step in
    fine_if (int_eq step (pos 0)) (Err ZeroDivisorOrStep) (if nat_le size 16777216 then Ok (array (ranges.range_array first step size)) else Err TooLong) refl
    (fine_limited (nat_le size 16777216) (array (ranges.range_array first step size)))

prints : (t : List ℕ) (args : List Datum) → Fits (text_made t) (arguments_fault [] [] (Some p.Any) args)
prints t args = (λ f e. (let none = any_arguments args in cc), λ e. fine_text t)

join_fits : (store : Store) (names : Names) (a : List ℕ) (args : List Datum) → Fits (m.join_gives store names a args) (arguments_fault (p.Array ∷ []) [] None args)
join_fits store names a [] = refused WrongNumberOfArguments
join_fits store names a (d.array s ∷ []) = (λ f e. cc, λ e. fine_text (all_printed store names a (array_at store s).items))
join_fits store names a (x ∷ []) = refused ValueOfAnotherType
join_fits store names a (d.array s ∷ y ∷ args) = fits_as (m.join_gives store names a (d.array s ∷ y ∷ args)) (Some WrongNumberOfArguments) (too_many 1 1 (length (d.array s ∷ y ∷ args)) (omega arith))
join_fits store names a (x ∷ y ∷ args) = fits_as (m.join_gives store names a (x ∷ y ∷ args)) (Some WrongNumberOfArguments) (too_many 1 1 (length (x ∷ y ∷ args)) (omega arith))

-- a method, by its receiver
method_fits : (store : Store) (names : Names) (method : Builtin) (want : Kind) (more : List Datum → Option RunFault)
    → ((a : List ℕ) (args : List Datum) → Fits (m.text_call store names method a args) (or_else (receiver_fault k.Str want) (more args)))
    → ((a : ArrayThing) (args : List Datum) → Fits (m.arrays_call store method a args) (or_else (receiver_fault k.Array want) (more args)))
    → ((t : DictThing) (args : List Datum) → Fits (m.dicts_call store method t args) (or_else (receiver_fault k.Dict want) (more args)))
    → (args : List Datum) → Fits (m.method_gives store names method args) (method_fault want more args)
method_fits store names method want more texts arrays dicts [] = refused WrongNumberOfArguments
method_fits store names method want more texts arrays dicts (d.text x ∷ args) = texts x args
method_fits store names method want more texts arrays dicts (d.array s ∷ args) = arrays (array_at store s) args
method_fits store names method want more texts arrays dicts (d.dictionary s ∷ args) = dicts (dict_at store s) args
method_fits store names method want more texts arrays dicts (d.null ∷ args) = refused NullReceiver
method_fits store names method want more texts arrays dicts (_ ∷ args) = no_method

-- each builtin refuses as its row says, and as such nothing else
fits : (store : Store) (names : Names) (builtin : Builtin) (args : List Datum) → Fits (called store names builtin args) (call_fault (row_of builtin) args)
fits store names b.Print args = prints (all_printed store names [] args) args
fits store names b.Prints args = prints (all_printed store names (codes " ") args) args
fits store names b.Printt args = prints (all_printed store names (9 ∷ []) args) args
fits store names b.Str args = prints (all_printed store names [] args) args
fits store names b.Len args = len_fits store args
fits store names b.Range args = fits_then (λ q. ranges.range_gives q.0 q.1 q.2) (range_args args) (arguments_fault (p.Int ∷ []) (p.Int ∷ p.Int ∷ []) None args) (fits_as (range_args args) (arguments_fault (p.Int ∷ []) (p.Int ∷ p.Int ∷ []) None args) (range_args_fit args)) (λ q. fine_range q.0 q.1 q.2)
fits store names b.Typeof args = typeof_fits store args
fits store names b.IsSame args = is_same_fits store args
fits store names b.Int args = int_fits store args
fits store names b.Bool args = bool_fits store args
fits store names b.Abs args = fits_form int_made (f.ints_call b.Abs args) (arguments_fault (p.Int ∷ []) [] None args) (fits_form (f.of_int b.Abs) (f.one_int args) (arguments_fault (p.Int ∷ []) [] None args) (fits_as (f.one_int args) (arguments_fault (p.Int ∷ []) [] None args) (one_int args)))
fits store names b.Absi args = fits_form int_made (f.ints_call b.Absi args) (arguments_fault (p.Int ∷ []) [] None args) (fits_form (f.of_int b.Absi) (f.one_int args) (arguments_fault (p.Int ∷ []) [] None args) (fits_as (f.one_int args) (arguments_fault (p.Int ∷ []) [] None args) (one_int args)))
fits store names b.Sign args = fits_form int_made (f.ints_call b.Sign args) (arguments_fault (p.Int ∷ []) [] None args) (fits_form (f.of_int b.Sign) (f.one_int args) (arguments_fault (p.Int ∷ []) [] None args) (fits_as (f.one_int args) (arguments_fault (p.Int ∷ []) [] None args) (one_int args)))
fits store names b.Signi args = fits_form int_made (f.ints_call b.Signi args) (arguments_fault (p.Int ∷ []) [] None args) (fits_form (f.of_int b.Signi) (f.one_int args) (arguments_fault (p.Int ∷ []) [] None args) (fits_as (f.one_int args) (arguments_fault (p.Int ∷ []) [] None args) (one_int args)))
fits store names b.Min args = fits_form int_made (f.ints_call b.Min args) (arguments_fault (p.Int ∷ p.Int ∷ []) [] (Some p.Int) args) (fits_as (f.many_picked int_min args) (arguments_fault (p.Int ∷ p.Int ∷ []) [] (Some p.Int) args) (many_picked int_min args))
fits store names b.Max args = fits_form int_made (f.ints_call b.Max args) (arguments_fault (p.Int ∷ p.Int ∷ []) [] (Some p.Int) args) (fits_as (f.many_picked int_max args) (arguments_fault (p.Int ∷ p.Int ∷ []) [] (Some p.Int) args) (many_picked int_max args))
fits store names b.Mini args = fits_form int_made (f.ints_call b.Mini args) (arguments_fault (p.Int ∷ p.Int ∷ []) [] None args) (fits_then (f.of_pair b.Mini) (f.two_ints args) (arguments_fault (p.Int ∷ p.Int ∷ []) [] None args) (fits_as (f.two_ints args) (arguments_fault (p.Int ∷ p.Int ∷ []) [] None args) (two_ints args)) (λ q. refl))
fits store names b.Maxi args = fits_form int_made (f.ints_call b.Maxi args) (arguments_fault (p.Int ∷ p.Int ∷ []) [] None args) (fits_then (f.of_pair b.Maxi) (f.two_ints args) (arguments_fault (p.Int ∷ p.Int ∷ []) [] None args) (fits_as (f.two_ints args) (arguments_fault (p.Int ∷ p.Int ∷ []) [] None args) (two_ints args)) (λ q. refl))
fits store names b.Posmod args = fits_form int_made (f.ints_call b.Posmod args) (arguments_fault (p.Int ∷ p.Int ∷ []) [] None args) (fits_then (f.of_pair b.Posmod) (f.two_ints args) (arguments_fault (p.Int ∷ p.Int ∷ []) [] None args) (fits_as (f.two_ints args) (arguments_fault (p.Int ∷ p.Int ∷ []) [] None args) (two_ints args)) (λ q. fine_posmod q.0 q.1))
fits store names b.Clamp args = fits_form int_made (f.ints_call b.Clamp args) (arguments_fault (p.Int ∷ p.Int ∷ p.Int ∷ []) [] None args) (fits_form f.clamped (f.three_ints args) (arguments_fault (p.Int ∷ p.Int ∷ p.Int ∷ []) [] None args) (fits_as (f.three_ints args) (arguments_fault (p.Int ∷ p.Int ∷ p.Int ∷ []) [] None args) (three_ints args)))
fits store names b.Clampi args = fits_form int_made (f.ints_call b.Clampi args) (arguments_fault (p.Int ∷ p.Int ∷ p.Int ∷ []) [] None args) (fits_form f.clamped (f.three_ints args) (arguments_fault (p.Int ∷ p.Int ∷ p.Int ∷ []) [] None args) (fits_as (f.three_ints args) (arguments_fault (p.Int ∷ p.Int ∷ p.Int ∷ []) [] None args) (three_ints args)))
fits store names b.Char args = fits_then char_call (f.one_int args) (arguments_fault (p.Int ∷ []) [] None args) (fits_as (f.one_int args) (arguments_fault (p.Int ∷ []) [] None args) (one_int args)) (λ n. fine_text_in_range (option_map (λ c. c ∷ []) (char_of n)))
fits store names b.StringLength args = method_fits store names b.StringLength k.Str (arguments_fault [] [] None) (λ a args. alone_fits (m.text_alone b.StringLength a) args refl) (λ a args. no_method) (λ t args. no_method) args
fits store names b.StringIsEmpty args = method_fits store names b.StringIsEmpty k.Str (arguments_fault [] [] None) (λ a args. alone_fits (m.text_alone b.StringIsEmpty a) args refl) (λ a args. no_method) (λ t args. no_method) args
fits store names b.StringIsValidInt args = method_fits store names b.StringIsValidInt k.Str (arguments_fault [] [] None) (λ a args. alone_fits (m.text_alone b.StringIsValidInt a) args refl) (λ a args. no_method) (λ t args. no_method) args
fits store names b.StringToInt args = method_fits store names b.StringToInt k.Str (arguments_fault [] [] None) (λ a args. alone_fits (m.text_alone b.StringToInt a) args refl) (λ a args. no_method) (λ t args. no_method) args
fits store names b.StringStripEdges args = method_fits store names b.StringStripEdges k.Str (arguments_fault [] [] None) (λ a args. alone_fits (m.text_alone b.StringStripEdges a) args (fine_text (stripped a))) (λ a args. no_method) (λ t args. no_method) args
fits store names b.StringLeft args = method_fits store names b.StringLeft k.Str (arguments_fault (p.Int ∷ []) [] None) (λ a args. fits_then (m.text_with_int b.StringLeft a) (f.one_int args) (arguments_fault (p.Int ∷ []) [] None args) (fits_as (f.one_int args) (arguments_fault (p.Int ∷ []) [] None args) (one_int args)) (λ n. fine_text (left a n))) (λ a args. no_method) (λ t args. no_method) args
fits store names b.StringRight args = method_fits store names b.StringRight k.Str (arguments_fault (p.Int ∷ []) [] None) (λ a args. fits_then (m.text_with_int b.StringRight a) (f.one_int args) (arguments_fault (p.Int ∷ []) [] None args) (fits_as (f.one_int args) (arguments_fault (p.Int ∷ []) [] None args) (one_int args)) (λ n. fine_text (right a n))) (λ a args. no_method) (λ t args. no_method) args
fits store names b.StringRepeat args = method_fits store names b.StringRepeat k.Str (arguments_fault (p.Int ∷ []) [] None) (λ a args. fits_then (m.text_with_int b.StringRepeat a) (f.one_int args) (arguments_fault (p.Int ∷ []) [] None args) (fits_as (f.one_int args) (arguments_fault (p.Int ∷ []) [] None args) (one_int args)) (λ n. fine_text_in_range (repeated a n))) (λ a args. no_method) (λ t args. no_method) args
fits store names b.StringUnicodeAt args = method_fits store names b.StringUnicodeAt k.Str (arguments_fault (p.Int ∷ []) [] None) (λ a args. fits_then (m.text_with_int b.StringUnicodeAt a) (f.one_int args) (arguments_fault (p.Int ∷ []) [] None args) (fits_as (f.one_int args) (arguments_fault (p.Int ∷ []) [] None args) (one_int args)) (λ n. fine_unicode a n)) (λ a args. no_method) (λ t args. no_method) args
fits store names b.StringSubstr args = method_fits store names b.StringSubstr k.Str (arguments_fault (p.Int ∷ []) (p.Int ∷ []) None) (λ a args. fits_then (λ q. text_in_range (substr a q.0 q.1)) (m.int_and_maybe (negsuc 0) args) (arguments_fault (p.Int ∷ []) (p.Int ∷ []) None args) (fits_as (m.int_and_maybe (negsuc 0) args) (arguments_fault (p.Int ∷ []) (p.Int ∷ []) None args) (int_and_maybe (negsuc 0) args)) (λ q. fine_text_in_range (substr a q.0 q.1))) (λ a args. no_method) (λ t args. no_method) args
fits store names b.StringContains args = method_fits store names b.StringContains k.Str (arguments_fault (p.Str ∷ []) [] None) (λ a args. fits_form (λ w. bool_made (m.text_test b.StringContains a w)) (m.one_text args) (arguments_fault (p.Str ∷ []) [] None args) (fits_as (m.one_text args) (arguments_fault (p.Str ∷ []) [] None args) (one_text args))) (λ a args. no_method) (λ t args. no_method) args
fits store names b.StringBeginsWith args = method_fits store names b.StringBeginsWith k.Str (arguments_fault (p.Str ∷ []) [] None) (λ a args. fits_form (λ w. bool_made (m.text_test b.StringBeginsWith a w)) (m.one_text args) (arguments_fault (p.Str ∷ []) [] None args) (fits_as (m.one_text args) (arguments_fault (p.Str ∷ []) [] None args) (one_text args))) (λ a args. no_method) (λ t args. no_method) args
fits store names b.StringEndsWith args = method_fits store names b.StringEndsWith k.Str (arguments_fault (p.Str ∷ []) [] None) (λ a args. fits_form (λ w. bool_made (m.text_test b.StringEndsWith a w)) (m.one_text args) (arguments_fault (p.Str ∷ []) [] None args) (fits_as (m.one_text args) (arguments_fault (p.Str ∷ []) [] None args) (one_text args))) (λ a args. no_method) (λ t args. no_method) args
fits store names b.StringFind args = method_fits store names b.StringFind k.Str (arguments_fault (p.Str ∷ []) (p.Int ∷ []) None) (λ a args. fits_form (λ (q : List ℕ × ℤ). place_made (find a q.0 q.1)) (m.text_and_maybe args) (arguments_fault (p.Str ∷ []) (p.Int ∷ []) None args) (fits_as (m.text_and_maybe args) (arguments_fault (p.Str ∷ []) (p.Int ∷ []) None args) (text_and_maybe args))) (λ a args. no_method) (λ t args. no_method) args
fits store names b.StringReplace args = method_fits store names b.StringReplace k.Str (arguments_fault (p.Str ∷ p.Str ∷ []) [] None) (λ a args. fits_then (λ q. text_made (replaced a q.0 q.1)) (m.two_texts args) (arguments_fault (p.Str ∷ p.Str ∷ []) [] None args) (fits_as (m.two_texts args) (arguments_fault (p.Str ∷ p.Str ∷ []) [] None args) (two_texts args)) (λ q. fine_text (replaced a q.0 q.1))) (λ a args. no_method) (λ t args. no_method) args
fits store names b.StringSplit args = method_fits store names b.StringSplit k.Str (arguments_fault [] (p.Str ∷ p.Bool ∷ []) None) (λ a args. fits_then (λ q. array_made (m.parts_array a q.0 q.1)) (m.split_args args) (arguments_fault [] (p.Str ∷ p.Bool ∷ []) None args) (fits_as (m.split_args args) (arguments_fault [] (p.Str ∷ p.Bool ∷ []) None args) (split_args args)) (λ q. fine_array (m.parts_array a q.0 q.1))) (λ a args. no_method) (λ t args. no_method) args
fits store names b.StringJoin args = method_fits store names b.StringJoin k.Str (arguments_fault (p.Array ∷ []) [] None) (λ a args. join_fits store names a args) (λ a args. no_method) (λ t args. no_method) args
fits store names b.ArraySize args = method_fits store names b.ArraySize k.Array (arguments_fault [] [] None) (λ a args. no_method) (λ a args. alone_fits (m.array_alone b.ArraySize a) args refl) (λ t args. no_method) args
fits store names b.ArrayIsEmpty args = method_fits store names b.ArrayIsEmpty k.Array (arguments_fault [] [] None) (λ a args. no_method) (λ a args. alone_fits (m.array_alone b.ArrayIsEmpty a) args refl) (λ t args. no_method) args
fits store names b.ArrayIsReadOnly args = method_fits store names b.ArrayIsReadOnly k.Array (arguments_fault [] [] None) (λ a args. no_method) (λ a args. alone_fits (m.array_alone b.ArrayIsReadOnly a) args refl) (λ t args. no_method) args
fits store names b.ArrayFront args = method_fits store names b.ArrayFront k.Array (arguments_fault [] [] None) (λ a args. no_method) (λ a args. alone_fits (m.array_alone b.ArrayFront a) args refl) (λ t args. no_method) args
fits store names b.ArrayBack args = method_fits store names b.ArrayBack k.Array (arguments_fault [] [] None) (λ a args. no_method) (λ a args. alone_fits (m.array_alone b.ArrayBack a) args refl) (λ t args. no_method) args
fits store names b.ArrayDuplicate args = method_fits store names b.ArrayDuplicate k.Array (arguments_fault [] [] None) (λ a args. no_method) (λ a args. alone_fits (m.array_alone b.ArrayDuplicate a) args refl) (λ t args. no_method) args
fits store names b.ArraySlice args = method_fits store names b.ArraySlice k.Array (arguments_fault (p.Int ∷ []) (p.Int ∷ []) None) (λ a args. no_method) (λ a args. fits_form (λ q. array (m.sliced a q)) (m.int_and_maybe (pos 2147483647) args) (arguments_fault (p.Int ∷ []) (p.Int ∷ []) None args) (fits_as (m.int_and_maybe (pos 2147483647) args) (arguments_fault (p.Int ∷ []) (p.Int ∷ []) None args) (int_and_maybe (pos 2147483647) args))) (λ t args. no_method) args
fits store names b.ArrayHas args = method_fits store names b.ArrayHas k.Array (arguments_fault (p.Any ∷ []) [] None) (λ a args. no_method) (λ a args. fits_then (m.has_gives store a) (m.one_value args) (arguments_fault (p.Any ∷ []) [] None args) (fits_as (m.one_value args) (arguments_fault (p.Any ∷ []) [] None args) (one_value args)) (λ x. fine_has store a x)) (λ t args. no_method) args
fits store names b.ArrayCount args = method_fits store names b.ArrayCount k.Array (arguments_fault (p.Any ∷ []) [] None) (λ a args. no_method) (λ a args. fits_then (m.count_gives store a) (m.one_value args) (arguments_fault (p.Any ∷ []) [] None args) (fits_as (m.one_value args) (arguments_fault (p.Any ∷ []) [] None args) (one_value args)) (λ x. fine_count store a x)) (λ t args. no_method) args
fits store names b.ArrayFind args = method_fits store names b.ArrayFind k.Array (arguments_fault (p.Any ∷ []) (p.Int ∷ []) None) (λ a args. no_method) (λ a args. fits_then (m.place_gives store a) (m.value_and_maybe args) (arguments_fault (p.Any ∷ []) (p.Int ∷ []) None args) (fits_as (m.value_and_maybe args) (arguments_fault (p.Any ∷ []) (p.Int ∷ []) None args) (value_and_maybe args)) (λ q. fine_place_gives store a q)) (λ t args. no_method) args
fits store names b.DictionarySize args = method_fits store names b.DictionarySize k.Dict (arguments_fault [] [] None) (λ a args. no_method) (λ a args. no_method) (λ t args. alone_fits (m.dict_alone b.DictionarySize t) args refl) args
fits store names b.DictionaryIsEmpty args = method_fits store names b.DictionaryIsEmpty k.Dict (arguments_fault [] [] None) (λ a args. no_method) (λ a args. no_method) (λ t args. alone_fits (m.dict_alone b.DictionaryIsEmpty t) args refl) args
fits store names b.DictionaryIsReadOnly args = method_fits store names b.DictionaryIsReadOnly k.Dict (arguments_fault [] [] None) (λ a args. no_method) (λ a args. no_method) (λ t args. alone_fits (m.dict_alone b.DictionaryIsReadOnly t) args refl) args
fits store names b.DictionaryKeys args = method_fits store names b.DictionaryKeys k.Dict (arguments_fault [] [] None) (λ a args. no_method) (λ a args. no_method) (λ t args. alone_fits (m.dict_alone b.DictionaryKeys t) args refl) args
fits store names b.DictionaryValues args = method_fits store names b.DictionaryValues k.Dict (arguments_fault [] [] None) (λ a args. no_method) (λ a args. no_method) (λ t args. alone_fits (m.dict_alone b.DictionaryValues t) args refl) args
fits store names b.DictionaryDuplicate args = method_fits store names b.DictionaryDuplicate k.Dict (arguments_fault [] [] None) (λ a args. no_method) (λ a args. no_method) (λ t args. alone_fits (m.dict_alone b.DictionaryDuplicate t) args refl) args
fits store names b.DictionaryHas args = method_fits store names b.DictionaryHas k.Dict (arguments_fault (p.Key ∷ []) [] None) (λ a args. no_method) (λ a args. no_method) (λ t args. fits_then (m.has_key_gives t) (m.one_value args) (arguments_fault (p.Key ∷ []) [] None args) (fits_as (m.one_value args) (arguments_fault (p.Key ∷ []) [] None args) (one_key args)) (λ x. fine_has_key t x)) args
fits store names b.DictionaryGet args = method_fits store names b.DictionaryGet k.Dict (arguments_fault (p.Key ∷ []) (p.Any ∷ []) None) (λ a args. no_method) (λ a args. no_method) (λ t args. fits_then (m.value_or t) (m.key_and_maybe args) (arguments_fault (p.Key ∷ []) (p.Any ∷ []) None args) (fits_as (m.key_and_maybe args) (arguments_fault (p.Key ∷ []) (p.Any ∷ []) None args) (key_and_maybe args)) (λ q. fine_value_or t q)) args
fits store names b.DictionaryFindKey args = method_fits store names b.DictionaryFindKey k.Dict (arguments_fault (p.Any ∷ []) [] None) (λ a args. no_method) (λ a args. no_method) (λ t args. fits_then (m.find_key_gives store t) (m.one_value args) (arguments_fault (p.Any ∷ []) [] None args) (fits_as (m.one_value args) (arguments_fault (p.Any ∷ []) [] None args) (one_value args)) (λ x. fine_find_key store t x)) args
fits store names b.ArrayAppend args = method_fits store names b.ArrayAppend k.Array (λ more. Some NoSuchMethod) (λ a args. no_method) (λ a args. no_method) (λ t args. no_method) args
fits store names b.ArrayPushBack args = method_fits store names b.ArrayPushBack k.Array (λ more. Some NoSuchMethod) (λ a args. no_method) (λ a args. no_method) (λ t args. no_method) args
fits store names b.ArrayPushFront args = method_fits store names b.ArrayPushFront k.Array (λ more. Some NoSuchMethod) (λ a args. no_method) (λ a args. no_method) (λ t args. no_method) args
fits store names b.ArrayPopBack args = method_fits store names b.ArrayPopBack k.Array (λ more. Some NoSuchMethod) (λ a args. no_method) (λ a args. no_method) (λ t args. no_method) args
fits store names b.ArrayPopFront args = method_fits store names b.ArrayPopFront k.Array (λ more. Some NoSuchMethod) (λ a args. no_method) (λ a args. no_method) (λ t args. no_method) args
fits store names b.ArrayInsert args = method_fits store names b.ArrayInsert k.Array (λ more. Some NoSuchMethod) (λ a args. no_method) (λ a args. no_method) (λ t args. no_method) args
fits store names b.ArrayRemoveAt args = method_fits store names b.ArrayRemoveAt k.Array (λ more. Some NoSuchMethod) (λ a args. no_method) (λ a args. no_method) (λ t args. no_method) args
fits store names b.ArrayErase args = method_fits store names b.ArrayErase k.Array (λ more. Some NoSuchMethod) (λ a args. no_method) (λ a args. no_method) (λ t args. no_method) args
fits store names b.ArrayClear args = method_fits store names b.ArrayClear k.Array (λ more. Some NoSuchMethod) (λ a args. no_method) (λ a args. no_method) (λ t args. no_method) args
fits store names b.ArrayReverse args = method_fits store names b.ArrayReverse k.Array (λ more. Some NoSuchMethod) (λ a args. no_method) (λ a args. no_method) (λ t args. no_method) args
fits store names b.ArraySort args = method_fits store names b.ArraySort k.Array (λ more. Some NoSuchMethod) (λ a args. no_method) (λ a args. no_method) (λ t args. no_method) args
fits store names b.ArrayAppendArray args = method_fits store names b.ArrayAppendArray k.Array (λ more. Some NoSuchMethod) (λ a args. no_method) (λ a args. no_method) (λ t args. no_method) args
fits store names b.ArrayResize args = method_fits store names b.ArrayResize k.Array (λ more. Some NoSuchMethod) (λ a args. no_method) (λ a args. no_method) (λ t args. no_method) args
fits store names b.ArrayFill args = method_fits store names b.ArrayFill k.Array (λ more. Some NoSuchMethod) (λ a args. no_method) (λ a args. no_method) (λ t args. no_method) args
fits store names b.DictionaryGetOrAdd args = method_fits store names b.DictionaryGetOrAdd k.Dict (λ more. Some NoSuchMethod) (λ a args. no_method) (λ a args. no_method) (λ t args. no_method) args
fits store names b.DictionaryErase args = method_fits store names b.DictionaryErase k.Dict (λ more. Some NoSuchMethod) (λ a args. no_method) (λ a args. no_method) (λ t args. no_method) args
fits store names b.DictionaryClear args = method_fits store names b.DictionaryClear k.Dict (λ more. Some NoSuchMethod) (λ a args. no_method) (λ a args. no_method) (λ t args. no_method) args
fits store names b.DictionaryMerge args = method_fits store names b.DictionaryMerge k.Dict (λ more. Some NoSuchMethod) (λ a args. no_method) (λ a args. no_method) (λ t args. no_method) args
fits store names b.CallableCall args = method_fits store names b.CallableCall k.Callable (arguments_fault [] [] (Some p.Any)) (λ a args. no_method) (λ a args. no_method) (λ t args. no_method) args
fits store names b.CallableIsValid args = method_fits store names b.CallableIsValid k.Callable (arguments_fault [] [] None) (λ a args. no_method) (λ a args. no_method) (λ t args. no_method) args
fits store names b.SignalConnect args = method_fits store names b.SignalConnect k.Signal (arguments_fault (p.Callable ∷ []) (p.Int ∷ []) None) (λ a args. no_method) (λ a args. no_method) (λ t args. no_method) args
fits store names b.SignalDisconnect args = method_fits store names b.SignalDisconnect k.Signal (arguments_fault (p.Callable ∷ []) [] None) (λ a args. no_method) (λ a args. no_method) (λ t args. no_method) args
fits store names b.SignalIsConnected args = method_fits store names b.SignalIsConnected k.Signal (arguments_fault (p.Callable ∷ []) [] None) (λ a args. no_method) (λ a args. no_method) (λ t args. no_method) args
fits store names b.SignalEmit args = method_fits store names b.SignalEmit k.Signal (arguments_fault [] [] (Some p.Any)) (λ a args. no_method) (λ a args. no_method) (λ t args. no_method) args

pub misfits_refused : (store : Store) (names : Names) (builtin : Builtin) (args : List Datum) (f : RunFault) → call_fault (row_of builtin) args ≡ Some f → called store names builtin args ≡ Err f
misfits_refused store names builtin args f e = (fits store names builtin args).0 f e

not_true : (x : Bool) → not x ≡ true → x ≡ false
not_true true e = cc
not_true false e = refl

pub fitting_taken : (store : Store) (names : Names) (builtin : Builtin) (args : List Datum) (f : RunFault) → call_fault (row_of builtin) args ≡ None → called store names builtin args ≡ Err f → is_of_call f ≡ false
fitting_taken store names builtin args f e err = not_true (is_of_call f) (sym (ap (λ (m : Result Made RunFault). fine m) err) ∙ (fits store names builtin args).1 e)
