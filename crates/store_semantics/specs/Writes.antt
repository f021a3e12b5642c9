-- The methods that write. Another number of arguments is refused first, then a read-only container, then arguments of other
-- kinds, and then what the method itself refuses; a method that is refused changes nothing. One that gives nothing gives null.
use Rattle.std.specs.Prelude.{ℕ, ◌+◌, ◌-◌, ◌*◌, zero, suc, ℤ, pos, negsuc, Bool, true, false, not, ◌&&◌, ◌||◌, nat_lt, nat_le, List, [], ◌∷◌, ◌++◌, length, map, fold, filter, reverse, take, drop, remove, insert, replicate, slice_get, is_some, is_none, unwrap_or, option_map, Option, None, Some, Result, Ok, Err, if◌then◌else◌, int_le}
use Rattle.std.specs.List.{list_all}
use Rattle.std.specs.Cmp.Lexicographic.{slice_cmp}
use Rattle.std.specs.Ordering.{nat_cmp, is_gt}
use Rattle.gd_model.specs.declared.fault.RunFault.{RunFault}
use Rattle.gd_model.specs.declared.fault.RunFault.TheVariants.{BadOperands, OutOfRange, BadKey, NoSuchMethod, ReadOnly, WrongNumberOfArguments, ValueOfAnotherType, TooLong}
use Rattle.gd_model.specs.Datum as d
use Rattle.gd_model.specs.Datum.{Datum}
use Rattle.gd_model.specs.Place.{place, gap, element_at}
use Rattle.gd_model.specs.Same.{is_key}
use Rattle.gd_model.specs.Store.{Store, ArrayThing, DictThing, array_at, dict_at, value_at, with_pair, without_key}
use Rattle.value_semantics.specs.declared.builtin.Builtin.{Builtin}
use Rattle.value_semantics.specs.declared.builtin.Builtin.TheVariants as b
use Rattle.value_semantics.specs.Answer.{and_then, in_form}
use Rattle.value_semantics.specs.Equality.{same}
use Rattle.value_semantics.specs.Operators.{first_place}
use Rattle.store_semantics.specs.Subscripts.{unless, or_fault}

-- what a method gives: the container as it is then, and the answer
abbrev pub Written : Type 0 → Type 0
Written T = Result (T × Datum) RunFault

-- the container alone
abbrev pub silent : {T : Type 0} → Result T RunFault → Written T
silent made = in_form (λ t. (t, d.null)) made

abbrev pub is_full : {X : Type 0} → List X → Bool
is_full xs = nat_le 16777216 (length xs)

-- an array whose elements are others, unless they are too many
abbrev pub holding : ArrayThing → List Datum → Result ArrayThing RunFault
holding a items = unless ((nat_lt 16777216 (length items), TooLong) ∷ []) (record a { items = items })

-- a value at the end, or in front
abbrev pub with_value : (Datum → Bool) → ArrayThing → (List Datum → List Datum) → Datum → Written ArrayThing
with_value fits a place_it v = silent (unless ((not (fits v), ValueOfAnotherType) ∷ (is_full a.items, TooLong) ∷ []) (record a { items = place_it a.items }))

abbrev pub inserted : (Datum → Bool) → ArrayThing → Option ℕ → Datum → Written ArrayThing
inserted fits a None v = Err OutOfRange
inserted fits a (Some i) v = with_value fits a (λ items. insert items i v) v

abbrev pub removed : ArrayThing → Option ℕ → Written ArrayThing
removed a None = Err OutOfRange
removed a (Some i) = silent (Ok (record a { items = remove a.items i }))

-- the element at a place goes and is the answer, or null where there is none
abbrev pub taken : ArrayThing → ℤ → Written ArrayThing
taken a at = Ok (record a { items = unwrap_or (option_map (λ i. remove a.items i) (place at (length a.items))) a.items }, unwrap_or (element_at a.items at) d.null)

-- the first element goes that equals the value
abbrev pub without_value : Store → ArrayThing → Datum → Written ArrayThing
without_value store a v =
    and_then (first_place (λ x. same store x v) 0 a.items)
    (λ at. silent (Ok (record a { items = unwrap_or (option_map (λ i. remove a.items i) at) a.items })))

-- sorting: ints by their value, Strings by their code points; other elements are refused
abbrev pub is_int : Datum → Bool
is_int (d.int n) = true
is_int v = false

abbrev pub is_text : Datum → Bool
is_text (d.text t) = true
is_text v = false

abbrev pub comes_first : Datum → Datum → Bool
comes_first (d.int x) (d.int y) = int_le x y
comes_first (d.text x) (d.text y) = not (is_gt (slice_cmp nat_cmp x y))
comes_first _ _ = true

abbrev pub sorted_in : Datum → List Datum → List Datum
sorted_in x [] = x ∷ []
sorted_in x (y ∷ ys) = if comes_first x y then x ∷ y ∷ ys else y ∷ sorted_in x ys

abbrev pub sorted : List Datum → List Datum
sorted [] = []
sorted (x ∷ xs) = sorted_in x (sorted xs)

abbrev pub sort : ArrayThing → Written ArrayThing
sort a = silent (if list_all is_int a.items || list_all is_text a.items then Ok (record a { items = sorted a.items }) else Err BadOperands)

-- the elements of another array at the end
abbrev pub joined : (Datum → Bool) → ArrayThing → ArrayThing → Written ArrayThing
joined fits a other = silent (if list_all fits other.items then holding a (a.items ++ other.items) else Err ValueOfAnotherType)

abbrev pub filled : (Datum → Bool) → ArrayThing → Datum → Written ArrayThing
filled fits a v = silent (unless ((not (fits v), ValueOfAnotherType) ∷ []) (record a { items = map (λ x. v) a.items }))

-- a method of an array that may be written, `fits` being whether a value fits the element type
abbrev pub array_gives : (Datum → Bool) → Store → Builtin → ArrayThing → List Datum → Written ArrayThing
array_gives fits store b.ArrayAppend a (v ∷ []) = with_value fits a (λ items. items ++ v ∷ []) v
array_gives fits store b.ArrayPushBack a (v ∷ []) = with_value fits a (λ items. items ++ v ∷ []) v
array_gives fits store b.ArrayPushFront a (v ∷ []) = with_value fits a (λ items. v ∷ items) v
array_gives fits store b.ArrayPopBack a [] = taken a (negsuc 0)
array_gives fits store b.ArrayPopFront a [] = taken a (pos 0)
array_gives fits store b.ArrayInsert a (d.int at ∷ v ∷ []) = inserted fits a (gap at (length a.items)) v
array_gives fits store b.ArrayRemoveAt a (d.int at ∷ []) = removed a (place at (length a.items))
array_gives fits store b.ArrayErase a (v ∷ []) = without_value store a v
array_gives fits store b.ArrayClear a [] = silent (Ok (record a { items = [] }))
array_gives fits store b.ArrayReverse a [] = silent (Ok (record a { items = reverse a.items }))
array_gives fits store b.ArraySort a [] = sort a
array_gives fits store b.ArrayAppendArray a (d.array s ∷ []) = joined fits a (array_at store s)
array_gives fits store b.ArrayFill a (v ∷ []) = filled fits a v
array_gives fits store method a args = Err ValueOfAnotherType

-- how many values a method that writes takes: at least and at most
abbrev pub takes : Builtin → ℕ × ℕ
takes b.ArrayAppend = (1, 1)
takes b.ArrayPushBack = (1, 1)
takes b.ArrayPushFront = (1, 1)
takes b.ArrayInsert = (2, 2)
takes b.ArrayRemoveAt = (1, 1)
takes b.ArrayErase = (1, 1)
takes b.ArrayAppendArray = (1, 1)
takes b.ArrayResize = (1, 1)
takes b.ArrayFill = (1, 1)
takes b.DictionaryGetOrAdd = (1, 2)
takes b.DictionaryErase = (1, 1)
takes b.DictionaryMerge = (1, 2)
takes method = (0, 0)

-- a call: the number of its arguments, then whether the container is read-only, and then the rest
abbrev pub call : {T : Type 0} → Builtin → Bool → List Datum → Result T RunFault → Result T RunFault
call method fixed args made =
    if nat_lt (length args) (takes method).0 || nat_lt (takes method).1 (length args) then Err WrongNumberOfArguments
    else (if fixed then Err ReadOnly else made)

abbrev pub array_write : (Datum → Bool) → Store → Builtin → ArrayThing → List Datum → Written ArrayThing
array_write fits store method a args = call method a.fixed args (array_gives fits store method a args)

-- `resize`: how many elements stay, and how many start values of the element type follow them
abbrev pub resized_to : ArrayThing → ℤ → Result (ℕ × ℕ) RunFault
resized_to a (negsuc k) = Err OutOfRange
resized_to a (pos n) = unless ((nat_lt 16777216 n, TooLong) ∷ []) (n - (n - length a.items), n - length a.items)

abbrev pub resize_size : ArrayThing → List Datum → Result (ℕ × ℕ) RunFault
resize_size a (d.int n ∷ []) = resized_to a n
resize_size a args = Err ValueOfAnotherType

abbrev pub resize : ArrayThing → List Datum → Result (ℕ × ℕ) RunFault
resize a args = call b.ArrayResize a.fixed args (resize_size a args)

-- the value at a key, which is added where it is not there
abbrev pub got_or_added : (Datum → Bool) → (Datum → Bool) → DictThing → Datum → Datum → Option Datum → Written DictThing
got_or_added key_fits value_fits m k other (Some v) = Ok (m, v)
got_or_added key_fits value_fits m k other None =
    unless ((not (key_fits k && value_fits other), ValueOfAnotherType) ∷ (is_full m.pairs, TooLong) ∷ []) (record m { pairs = with_pair m.pairs k other }, other)

abbrev pub get_or_add : (Datum → Bool) → (Datum → Bool) → DictThing → Datum → Datum → Written DictThing
get_or_add key_fits value_fits m k other = if is_key k then got_or_added key_fits value_fits m k other (value_at m.pairs k) else Err BadKey

abbrev pub erase : DictThing → Datum → Written DictThing
erase m k = if is_key k then Ok (record m { pairs = without_key m.pairs k }, d.bool (is_some (value_at m.pairs k))) else Err BadKey

-- the pairs of another dictionary that are written: those of new keys, and with `over` all
abbrev pub merging : Bool → DictThing → DictThing → List (Datum × Datum)
merging over m other = filter (λ p. over || is_none (value_at m.pairs p.0)) other.pairs

abbrev pub put_all : List (Datum × Datum) → List (Datum × Datum) → List (Datum × Datum)
put_all old ps = fold (λ qs p. with_pair qs p.0 p.1) old ps

abbrev pub merge : (Datum → Bool) → (Datum → Bool) → DictThing → DictThing → Bool → Written DictThing
merge key_fits value_fits m other over =
    let written = merging over m other in
    silent (unless
    ((not (list_all (λ p. key_fits p.0 && value_fits p.1) written), ValueOfAnotherType) ∷ (nat_lt 16777216 (length (put_all m.pairs written)), TooLong) ∷ [])
    (record m { pairs = put_all m.pairs written }))

-- a method of a dictionary that may be written, `key_fits` and `value_fits` being whether a value fits its types
abbrev pub dict_gives : (Datum → Bool) → (Datum → Bool) → Store → Builtin → DictThing → List Datum → Written DictThing
dict_gives key_fits value_fits store b.DictionaryGetOrAdd m (k ∷ []) = get_or_add key_fits value_fits m k d.null
dict_gives key_fits value_fits store b.DictionaryGetOrAdd m (k ∷ other ∷ []) = get_or_add key_fits value_fits m k other
dict_gives key_fits value_fits store b.DictionaryErase m (k ∷ []) = erase m k
dict_gives key_fits value_fits store b.DictionaryClear m [] = silent (Ok (record m { pairs = [] }))
dict_gives key_fits value_fits store b.DictionaryMerge m (d.dictionary s ∷ []) = merge key_fits value_fits m (dict_at store s) false
dict_gives key_fits value_fits store b.DictionaryMerge m (d.dictionary s ∷ d.bool over ∷ []) = merge key_fits value_fits m (dict_at store s) over
dict_gives key_fits value_fits store method m args = Err ValueOfAnotherType

abbrev pub dict_write : (Datum → Bool) → (Datum → Bool) → Store → Builtin → DictThing → List Datum → Written DictThing
dict_write key_fits value_fits store method m args = call method m.fixed args (dict_gives key_fits value_fits store method m args)
