-- What operators, subscripts and attributes give on held values is held.
use Rattle.std.proofs.Common.{◌≡◌, ℕ, zero, suc, ℤ, pos, negsuc, ◌%◌, Bool, true, false, not, cond, List, [], ◌∷◌, ◌++◌, length, nat_le, Option, None, Some, option_map, Result, Ok, Err, if◌then◌else◌, refl, ap, sym, ◌∙◌, subst, true≢false}
use Rattle.std.specs.Prelude.{◌==◌, unwrap_or, option_and_then, int_rem}
use Rattle.std.specs.Int.{w64, int_wrapping_div, int_wrapping_pow}
use Rattle.std.specs.List.{slice_get}
use Rattle.std.specs.Map.{lookup}
use Rattle.std.specs.Ordering.{int_eq}
use Rattle.std.proofs.lemmas.Bool.{and_from, and_parts}
use Rattle.std.proofs.lemmas.List.Folds.{list_all-append}
use Rattle.gd_syntax.specs.declared.operator.Operator.{Operator}
use Rattle.gd_syntax.specs.declared.operator.Operator.TheVariants.{Power, Multiply, Divide, Remainder, Add, Subtract, ShiftLeft, ShiftRight, BitAnd, BitXor, BitOr, Equal, NotEqual, Less, LessEqual, Greater, GreaterEqual, In, NotIn, Negate, Plus, Complement, Not}
use Rattle.gd_model.specs.declared.fault.RunFault.{RunFault}
use Rattle.gd_model.specs.declared.fault.RunFault.TheVariants.{ZeroDivisorOrStep, BadKey, TooLong, OutOfRange, NoSuchKey}
use Rattle.gd_model.specs.declared.ty.Ty.TheVariants.{Variant}
use Rattle.gd_model.specs.Datum.{Datum, null, bool, int, text, object, array, dictionary, callable, signal}
use Rattle.gd_model.specs.Place.{place, element_at}
use Rattle.gd_model.specs.Same.{is_key, same_key}
use Rattle.gd_model.specs.Store.{ArrayThing, DictThing, Thing, array_behind, dict_behind, array_at, dict_at, value_at}
use Rattle.gd_text.specs.declared.formatting.Arg.{Arg}
use Rattle.gd_text.specs.Format.{formatted}
use Rattle.store_semantics.specs.Subscripts.{or_fault, item, one_character, character, entry, subscript}
use Rattle.value_semantics.specs.Answer.{in_form}
use Rattle.value_semantics.specs.Formatting.{format_made, format_gives, arguments}
use Rattle.value_semantics.specs.Ints.{quotient, rest, shifted_left, shifted_right, power, ints_give, int_gives}
use Rattle.value_semantics.specs.Made.{Made, value, bool_made, text_made, array_made}
use Rattle.value_semantics.specs.Made as made
use Rattle.value_semantics.specs.Operators.{equal, is_inside, one_int, tests_give, joined, sum_gives, rest_gives, others_give, applied}
use Rattle.value_semantics.specs.Texts.{texts_give}
use Rattle.constant_store.specs.declared.thing.ConstantThing.{ConstantThing}
use Rattle.constant_store.specs.declared.thing.ConstantThing.TheVariants as t
use Rattle.constant_store.specs.Reading.{attribute}
use Rattle.constant_store.specs.Things.{meant, numbered, store_of, no_names, is_plain, is_held, all_data_held, pair_data, data_in, is_closed}
use Rattle.constant_store.proofs.Kept.{all_at, plain_held, inside_held}

-- a value that leads to no thing, where one is given
abbrev pub PlainOk : Result Datum RunFault → Type 0
PlainOk (Err f) = Unit {0}
PlainOk (Ok d) = is_plain d ≡ true

plain_if : (b : Bool) (r s : Result Datum RunFault) → PlainOk r → PlainOk s → PlainOk (if b then r else s)
plain_if true r s h k = h
plain_if false r s h k = k

quotient_plain : (x y : ℤ) → PlainOk (quotient x y)
quotient_plain x y = plain_if (int_eq y (pos 0)) (Err ZeroDivisorOrStep) (Ok (int (int_wrapping_div w64 x y))) tt refl

rest_plain : (x y : ℤ) → PlainOk (rest x y)
rest_plain x y = plain_if (int_eq y (pos 0)) (Err ZeroDivisorOrStep) (Ok (int (int_rem x y))) tt refl

left_plain : (x y : ℤ) → PlainOk (shifted_left x y)
left_plain x (pos k) = refl
left_plain x (negsuc k) = tt

right_plain : (x y : ℤ) → PlainOk (shifted_right x y)
right_plain x (pos k) = refl
right_plain x (negsuc k) = tt

power_plain : (x y : ℤ) → PlainOk (power x y)
power_plain x (pos k) = refl
power_plain x (negsuc k) =
    let odd : Result Datum RunFault = Ok (int (if suc k % 2 == 0 then pos 1 else negsuc 0)) in
    let whole : Result Datum RunFault = if int_eq x (negsuc 0) then odd else Ok (int (pos 0)) in
    let one : Result Datum RunFault = if int_eq x (pos 1) then Ok (int (pos 1)) else whole in
    plain_if (int_eq x (pos 0)) (Err ZeroDivisorOrStep) one tt
    (plain_if (int_eq x (pos 1)) (Ok (int (pos 1))) whole refl (plain_if (int_eq x (negsuc 0)) odd (Ok (int (pos 0))) refl refl))

ints_plain : (op : Operator) (x y : ℤ) → PlainOk (ints_give op x y)
ints_plain Power x y = power_plain x y
ints_plain Multiply x y = refl
ints_plain Divide x y = quotient_plain x y
ints_plain Remainder x y = rest_plain x y
ints_plain Add x y = refl
ints_plain Subtract x y = refl
ints_plain ShiftLeft x y = left_plain x y
ints_plain ShiftRight x y = right_plain x y
ints_plain BitAnd x y = refl
ints_plain BitXor x y = refl
ints_plain BitOr x y = refl
ints_plain Equal x y = refl
ints_plain NotEqual x y = refl
ints_plain Less x y = refl
ints_plain LessEqual x y = refl
ints_plain Greater x y = refl
ints_plain GreaterEqual x y = refl
ints_plain _ x y = tt

int_plain : (op : Operator) (x : ℤ) → PlainOk (int_gives op x)
int_plain Negate x = refl
int_plain Plus x = refl
int_plain Complement x = refl
int_plain _ x = tt

items_in : (things : List ConstantThing) (o : Option ConstantThing) → ((x : ConstantThing) → o ≡ Some x → all_data_held things (data_in (meant x)) ≡ true) → all_data_held things (unwrap_or (array_behind (option_map meant o)) (record { element = Variant; fixed = false; items = [] })).items ≡ true
items_in things None inside = refl
items_in things (Some (t.Array a)) inside = inside (t.Array a) refl
items_in things (Some (t.Dict d)) inside = refl

pairs_in : (things : List ConstantThing) (o : Option ConstantThing) → ((x : ConstantThing) → o ≡ Some x → all_data_held things (data_in (meant x)) ≡ true) → all_data_held things (pair_data (unwrap_or (dict_behind (option_map meant o)) (record { key_type = Variant; value_type = Variant; fixed = false; pairs = [] })).pairs) ≡ true
pairs_in things None inside = refl
pairs_in things (Some (t.Array a)) inside = refl
pairs_in things (Some (t.Dict d)) inside = inside (t.Dict d) refl

-- a value that leads to no thing, or a thing in which held values lie
abbrev pub Sound : List ConstantThing → Made → Type 0
Sound things (value d) = is_plain d ≡ true
Sound things (made.array a) = all_data_held things a.items ≡ true
Sound things (made.dict d) = all_data_held things (pair_data d.pairs) ≡ true

abbrev pub SoundOk : List ConstantThing → Result Made RunFault → Type 0
SoundOk things (Err f) = Unit {0}
SoundOk things (Ok m) = Sound things m

abbrev pub HeldOk : List ConstantThing → Result Datum RunFault → Type 0
HeldOk things (Err f) = Unit {0}
HeldOk things (Ok d) = is_held things d ≡ true

module _ (things : List ConstantThing) where
  value_sound : (r : Result Datum RunFault) → PlainOk r → SoundOk things (in_form value r)
  value_sound (Err f) h = tt
  value_sound (Ok d) h = h

  text_sound : (s : List ℕ) → SoundOk things (text_made s)
  text_sound s = elim (nat_le (length s) 16777216) as (λ b. let r : Result (List ℕ) RunFault = if b then Ok s else Err TooLong in SoundOk things (in_form (λ x. value (text x)) r)) [ true ↦ refl | false ↦ tt ]

  format_sound : (pattern : List ℕ) (args : List Arg) → SoundOk things (format_gives pattern args)
  format_sound pattern args = elim (formatted pattern args) as (λ o. SoundOk things (format_made o)) [ None ↦ tt | Some s ↦ text_sound s ]

  texts_sound : (op : Operator) (x y : List ℕ) → SoundOk things (texts_give op x y)
  texts_sound Add x y = text_sound (x ++ y)
  texts_sound Remainder x y = format_sound x _
  texts_sound Equal x y = refl
  texts_sound NotEqual x y = refl
  texts_sound Less x y = refl
  texts_sound LessEqual x y = refl
  texts_sound Greater x y = refl
  texts_sound GreaterEqual x y = refl
  texts_sound In x y = refl
  texts_sound NotIn x y = refl
  texts_sound _ x y = tt

  test_sound : (r : Result Bool RunFault) → SoundOk things (in_form bool_made r)
  test_sound (Err f) = tt
  test_sound (Ok b) = refl

  no_test_sound : (r : Result Bool RunFault) → SoundOk things (in_form (λ yes. bool_made (not yes)) r)
  no_test_sound (Err f) = tt
  no_test_sound (Ok b) = refl

  one_sound : (op : Operator) (a : Datum) → SoundOk things (one_int op a)
  one_sound op (int x) = value_sound (int_gives op x) (int_plain op x)
  one_sound op _ = tt

  tests_sound : (op : Operator) (a b : Datum) → SoundOk things (tests_give (store_of things) op a b)
  tests_sound Equal a b = test_sound (equal (store_of things) a b)
  tests_sound NotEqual a b = no_test_sound (equal (store_of things) a b)
  tests_sound Not a b = refl
  tests_sound In a b = test_sound (is_inside (store_of things) a b)
  tests_sound NotIn a b = no_test_sound (is_inside (store_of things) a b)
  tests_sound Negate a b = one_sound Negate a
  tests_sound Plus a b = one_sound Plus a
  tests_sound Complement a b = one_sound Complement a
  tests_sound _ a b = tt

  format_rest_sound : (a b : Datum) → SoundOk things (rest_gives (store_of things) no_names a b)
  format_rest_sound (text pattern) b = format_sound pattern (arguments (store_of things) no_names b)
  format_rest_sound _ b = tt

  array_sound : (a : ArrayThing) → all_data_held things a.items ≡ true → SoundOk things (array_made a)
  array_sound a h = elim (nat_le (length a.items) 16777216) as (λ b. let r : Result Made RunFault = if b then Ok (made.array a) else Err TooLong in SoundOk things r) [ true ↦ h | false ↦ tt ]

  -- an element, or the value at a key
  found_held : (f : RunFault) (o : Option Datum) → ((d : Datum) → o ≡ Some d → is_held things d ≡ true) → HeldOk things (or_fault f o)
  found_held f None h = tt
  found_held f (Some d) h = h d refl

  at_place : (items : List Datum) → all_data_held things items ≡ true → (o : Option ℕ) (d : Datum) → option_and_then (λ i. slice_get items i) o ≡ Some d → is_held things d ≡ true
  at_place items h None d e = cc
  at_place items h (Some i) d e = all_at (is_held things) items i d e h

  item_held : (a : ArrayThing) (i : Datum) → all_data_held things a.items ≡ true → HeldOk things (item a i)
  item_held a (int i) h = found_held OutOfRange (element_at a.items i) (at_place a.items h (place i (length a.items)))
  item_held a _ h = tt

  one_character_held : (o : Option ℕ) → HeldOk things (one_character o)
  one_character_held None = tt
  one_character_held (Some c) = refl

  character_held : (s : List ℕ) (i : Datum) → HeldOk things (character s i)
  character_held s (int i) = one_character_held (element_at s i)
  character_held s _ = tt

  value_held : (test : Datum → Bool) (f : RunFault) (ps : List (Datum × Datum)) → all_data_held things (pair_data ps) ≡ true → HeldOk things (or_fault f (lookup test ps))
  value_held test f [] h = tt
  value_held test f (p ∷ ps) h =
      let key = and_parts (is_held things p.0) (all_data_held things (p.1 ∷ pair_data ps)) h in
      let more = and_parts (is_held things p.1) (all_data_held things (pair_data ps)) key.1 in
      elim (test p.0) as (λ b. HeldOk things (or_fault f (cond b (Some p.1) (lookup test ps)))) [ true ↦ more.0 | false ↦ value_held test f ps more.1 ]

  pub entry_held : (d : DictThing) (key : Datum) → all_data_held things (pair_data d.pairs) ≡ true → HeldOk things (entry d key)
  entry_held d key h = elim (is_key key) as (λ b. let r : Result Datum RunFault = if b then or_fault NoSuchKey (value_at d.pairs key) else Err BadKey in HeldOk things r) [ true ↦ value_held (same_key key) NoSuchKey d.pairs h | false ↦ tt ]

  module _ (closed : is_closed things ≡ true) where
    items_held : (s : ℕ) → all_data_held things (array_at (store_of things) s).items ≡ true
    items_held s = items_in things (numbered things s) (inside_held things closed s)

    pairs_held : (s : ℕ) → all_data_held things (pair_data (dict_at (store_of things) s).pairs) ≡ true
    pairs_held s = pairs_in things (numbered things s) (inside_held things closed s)

    sum_sound : (a b : Datum) → SoundOk things (sum_gives (store_of things) a b)
    sum_sound (array s) (array r) =
        let x = array_at (store_of things) s in
        let y = array_at (store_of things) r in
        array_sound (joined x y) (list_all-append (is_held things) x.items y.items ∙ and_from (all_data_held things x.items) (all_data_held things y.items) (items_held s) (items_held r))
    sum_sound _ _ = tt

    others_sound : (op : Operator) (a b : Datum) → SoundOk things (others_give (store_of things) no_names op a b)
    others_sound Add a b = sum_sound a b
    others_sound Remainder a b = format_rest_sound a b
    others_sound op a b = tests_sound op a b

    -- what an operator gives
    pub applied_sound : (op : Operator) (a b : Datum) → SoundOk things (applied (store_of things) no_names op a b)
    applied_sound op (int x) (int y) = value_sound (ints_give op x y) (ints_plain op x y)
    applied_sound op (text x) (text y) = texts_sound op x y
    applied_sound op a b = others_sound op a b

    pub subscript_held : (base i : Datum) → HeldOk things (subscript (store_of things) base i)
    subscript_held (array s) i = item_held (array_at (store_of things) s) i (items_held s)
    subscript_held (text s) i = character_held s i
    subscript_held (dictionary s) i = entry_held (dict_at (store_of things) s) i (pairs_held s)
    subscript_held _ i = tt

    pub attribute_held : (base : Datum) (name : List ℕ) → HeldOk things (attribute (store_of things) base name)
    attribute_held (dictionary s) name = entry_held (dict_at (store_of things) s) (text name) (pairs_held s)
    attribute_held _ name = tt
