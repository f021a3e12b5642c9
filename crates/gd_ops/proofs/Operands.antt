-- An operator that there is for the kinds of its operands has no bad operands.
use Rattle.std.proofs.Common.{◌≡◌, ℕ, suc, Bool, true, false, ◌||◌, List, [], ◌∷◌, length, nat_le, ◌==◌, ◌%◌, ◌++◌, not, is_some, Option, None, Some, Result, Ok, Err, refl, ap, sym, ◌∙◌, ℤ, pos, negsuc, int_rem, if◌then◌else◌}
use Rattle.std.specs.Ordering.{int_eq}
use Rattle.std.specs.Int.{w64, int_wrapping_div}
use Rattle.gd_syntax.specs.declared.operator.Operator.{Operator}
use Rattle.gd_syntax.specs.declared.operator.Operator.TheVariants.{Power, Divide, Remainder, Add, ShiftLeft, ShiftRight, Equal, NotEqual, Less, LessEqual, Greater, GreaterEqual, In, NotIn, Negate, Plus, Complement, Not}
use Rattle.gd_model.specs.declared.fault.RunFault.{RunFault}
use Rattle.gd_model.specs.declared.fault.RunFault.TheVariants.{BadOperands, BadKey, BadFormat, ZeroDivisorOrStep, TooLong, TooDeepToCompare}
use Rattle.gd_model.specs.Datum.{Datum, null, bool, int, text, array, dictionary}
use Rattle.gd_model.specs.Same.{is_key}
use Rattle.gd_model.specs.Store.{Store, Names, ArrayThing, DictThing, array_at, dict_at, value_at}
use Rattle.gd_text.specs.declared.formatting.Arg.{Arg}
use Rattle.gd_text.specs.declared.formatting.Arg.TheVariants as arg
use Rattle.gd_text.specs.Format.{formatted}
use Rattle.value_semantics.specs.declared.kind.Kind.TheVariants as k
use Rattle.value_semantics.specs.Answer.{in_form}
use Rattle.value_semantics.specs.Equality.{same}
use Rattle.value_semantics.specs.Formatting.{arguments, format_made, format_gives}
use Rattle.value_semantics.specs.Ints.{ints_give, power, shifted_left, shifted_right}
use Rattle.value_semantics.specs.Kinds as kinds
use Rattle.value_semantics.specs.Kinds.{kind_of, takes, is_unary, alike}
use Rattle.value_semantics.specs.Made as made
use Rattle.value_semantics.specs.Made.{Made, value, bool_made, limited, text_made, array_made}
use Rattle.value_semantics.specs.Operators.{applied, others_give, sum_gives, rest_gives, joined, equal, truth, is_inside, is_element, has_key, first_place, one_int}
use Rattle.value_semantics.specs.Texts.{texts_give}
use Rattle.gd_ops.proofs.Deep.{deep_only, deep_same, deep_place}

-- a meaning that does not refuse its operands
abbrev Fine : {A : Type 0} → Result A RunFault → Type 0
Fine m = m ≡ Err BadOperands → ⊥

fine_form : {A B : Type 0} → (form : A → B) (m : Result A RunFault) → Fine m → Fine (in_form form m)
fine_form form (Err g) f e = let same : g ≡ BadOperands = cc in f (ap (λ x. Err x) same)
fine_form form (Ok x) f e = cc

fine_if : {A : Type 0} → (b : Bool) (m n : Result A RunFault) → Fine m → Fine n → Fine (if b then m else n)
fine_if true m n f g = f
fine_if false m n f g = g

fine_ok : {A : Type 0} → (x : A) → Fine (let r : Result A RunFault = Ok x in r)
fine_ok x e = cc

fine_zero : {A : Type 0} → Fine (let r : Result A RunFault = Err ZeroDivisorOrStep in r)
fine_zero e = cc

fine_long : {A : Type 0} → Fine (let r : Result A RunFault = Err TooLong in r)
fine_long e = cc

-- what refuses only what is too deep does not refuse its operands
fine_deep : {A : Type 0} → (m : Result A RunFault) → deep_only m ≡ true → Fine m
fine_deep (Ok x) h e = cc
fine_deep (Err TooDeepToCompare) h e = cc
fine_deep (Err _) h e = cc

fine_equal : (store : Store) (a b : Datum) → alike (kind_of a) (kind_of b) ≡ true → Fine (equal store a b)
fine_equal store a b t e = fine_deep (same store a b) (deep_same store a b) (ap (λ yes. if yes then same store a b else Err BadOperands) (sym t) ∙ e)

fine_element : (store : Store) (x : Datum) (a : ArrayThing) → Fine (is_element store x a)
fine_element store x a = fine_form is_some (first_place (λ y. same store y x) 0 a.items) (fine_deep (first_place (λ y. same store y x) 0 a.items) (deep_place (λ y. same store y x) (λ y. deep_same store y x) 0 a.items))

fine_bad_key : Fine (let r : Result Bool RunFault = Err BadKey in r)
fine_bad_key e = cc

fine_key : (x : Datum) (d : DictThing) → Fine (has_key x d)
fine_key x d = fine_if (is_key x) (Ok (is_some (value_at d.pairs x))) (Err BadKey) (fine_ok (is_some (value_at d.pairs x))) fine_bad_key

fine_in : (store : Store) (a b : Datum) → kinds.texts (kind_of a) (kind_of b) ≡ false → kinds.inside (kind_of a) (kind_of b) ≡ true → Fine (is_inside store a b)
fine_in store a (array s) n t = fine_element store a (array_at store s)
fine_in store a (dictionary s) n t = fine_key a (dict_at store s)
fine_in store _ _ n t = cc

right_of_or : (p q : Bool) → p ≡ false → p || q ≡ true → q ≡ true
right_of_or true q f t = cc
right_of_or false q f t = t

fine_power : (x y : ℤ) → Fine (power x y)
fine_power x (pos k) e = cc
fine_power x (negsuc k) e =
    let inner : Result Datum RunFault = if int_eq x (negsuc 0) then Ok (int (if suc k % 2 == 0 then pos 1 else negsuc 0)) else Ok (int (pos 0)) in
    let outer : Result Datum RunFault = if int_eq x (pos 1) then Ok (int (pos 1)) else inner in
    fine_if (int_eq x (pos 0)) (Err ZeroDivisorOrStep) outer fine_zero
    (fine_if (int_eq x (pos 1)) (Ok (int (pos 1))) inner (fine_ok (int (pos 1)))
    (fine_if (int_eq x (negsuc 0)) (Ok (int (if suc k % 2 == 0 then pos 1 else negsuc 0))) (Ok (int (pos 0))) (fine_ok (int (if suc k % 2 == 0 then pos 1 else negsuc 0))) (fine_ok (int (pos 0))))) e

fine_left : (x y : ℤ) → Fine (shifted_left x y)
fine_left x (pos k) e = cc
fine_left x (negsuc k) e = cc

fine_right : (x y : ℤ) → Fine (shifted_right x y)
fine_right x (pos k) e = cc
fine_right x (negsuc k) e = cc

fine_ints : (op : Operator) (x y : ℤ) → takes op k.Int k.Int ≡ true → (is_unary op ≡ true → int y ≡ null) → Fine (ints_give op x y)
fine_ints Power x y t u e = fine_power x y e
fine_ints Divide x y t u e = fine_if (int_eq y (pos 0)) (Err ZeroDivisorOrStep) (Ok (int (int_wrapping_div w64 x y))) fine_zero (fine_ok (int (int_wrapping_div w64 x y))) e
fine_ints Remainder x y t u e = fine_if (int_eq y (pos 0)) (Err ZeroDivisorOrStep) (Ok (int (int_rem x y))) fine_zero (fine_ok (int (int_rem x y))) e
fine_ints ShiftLeft x y t u e = fine_left x y e
fine_ints ShiftRight x y t u e = fine_right x y e
fine_ints Negate x y t u e = let n = u refl in cc
fine_ints Plus x y t u e = let n = u refl in cc
fine_ints Complement x y t u e = let n = u refl in cc
fine_ints Not x y t u e = let n = u refl in cc
fine_ints _ x y t u e = cc

fine_text : (t : List ℕ) → Fine (text_made t)
fine_text t = fine_form (λ s. value (text s)) (limited t) (fine_if (nat_le (length t) 16777216) (Ok t) (Err TooLong) (fine_ok t) fine_long)

fine_format : (made : Option (List ℕ)) → Fine (format_made made)
fine_format None e = cc
fine_format (Some t) e = fine_text t e

fine_texts : (op : Operator) (x y : List ℕ) → takes op k.Str k.Str ≡ true → (is_unary op ≡ true → text y ≡ null) → Fine (texts_give op x y)
fine_texts Add x y t u e = fine_text (x ++ y) e
fine_texts Remainder x y t u e = fine_format (formatted x (arg.Str y ∷ [])) e
fine_texts Not x y t u e = let n = u refl in cc
fine_texts _ x y t u e = cc

fine_sum : (store : Store) (a b : Datum) → kinds.arrays (kind_of a) (kind_of b) ≡ true → Fine (sum_gives store a b)
fine_sum store (array s) (array t) h =
    let both = joined (array_at store s) (array_at store t) in
    fine_if (nat_le (length both.items) 16777216) (Ok (made.array both)) (Err TooLong) (fine_ok (made.array both)) fine_long
fine_sum store _ _ h = cc

fine_rest : (store : Store) (names : Names) (a b : Datum) → kinds.pattern (kind_of a) ≡ true → Fine (rest_gives store names a b)
fine_rest store names (text pattern) b t = fine_format (formatted pattern (arguments store names b))
fine_rest store names _ b t = cc

fine_negate : (a : Datum) → kinds.one_int (kind_of a) ≡ true → Fine (one_int Negate a)
fine_negate (int x) t e = cc
fine_negate _ t e = cc

fine_plus : (a : Datum) → kinds.one_int (kind_of a) ≡ true → Fine (one_int Plus a)
fine_plus (int x) t e = cc
fine_plus _ t e = cc

fine_complement : (a : Datum) → kinds.one_int (kind_of a) ≡ true → Fine (one_int Complement a)
fine_complement (int x) t e = cc
fine_complement _ t e = cc

neither : (p q : Bool) → p ≡ false → q ≡ false → p || q ≡ false
neither p q f g = λ i. f i || g i

-- the operators on values that are neither two ints nor two Strings
fine_others : (store : Store) (names : Names) (op : Operator) (a b : Datum) → kinds.ints (kind_of a) (kind_of b) ≡ false → kinds.texts (kind_of a) (kind_of b) ≡ false → takes op (kind_of a) (kind_of b) ≡ true → Fine (others_give store names op a b)
fine_others store names Add a b n m t e = fine_sum store a b (right_of_or _ _ (neither _ _ n m) t) e
fine_others store names Remainder a b n m t e = fine_rest store names a b (right_of_or _ _ n t) e
fine_others store names Equal a b n m t e = fine_form bool_made (equal store a b) (fine_equal store a b t) e
fine_others store names NotEqual a b n m t e = fine_form (λ yes. bool_made (not yes)) (equal store a b) (fine_equal store a b t) e
fine_others store names Not a b n m t e = fine_ok (bool_made (not (truth store a))) e
fine_others store names In a b n m t e = fine_form bool_made (is_inside store a b) (fine_in store a b m (right_of_or _ _ m t)) e
fine_others store names NotIn a b n m t e = fine_form (λ yes. bool_made (not yes)) (is_inside store a b) (fine_in store a b m (right_of_or _ _ m t)) e
fine_others store names Negate a b n m t e = fine_negate a t e
fine_others store names Plus a b n m t e = fine_plus a t e
fine_others store names Complement a b n m t e = fine_complement a t e
fine_others store names Less a b n m t e = let f = neither _ _ n m in cc
fine_others store names LessEqual a b n m t e = let f = neither _ _ n m in cc
fine_others store names Greater a b n m t e = let f = neither _ _ n m in cc
fine_others store names GreaterEqual a b n m t e = let f = neither _ _ n m in cc
fine_others store names _ a b n m t e = cc

-- an operator that there is for the kinds of its operands, null standing on the right of one that takes one operand
pub no_bad_operands : (store : Store) (names : Names) (op : Operator) (a b : Datum) → takes op (kind_of a) (kind_of b) ≡ true → (is_unary op ≡ true → b ≡ null) → applied store names op a b ≡ Err BadOperands → ⊥
no_bad_operands store names op (int x) (int y) t u = fine_form value (ints_give op x y) (fine_ints op x y t u)
no_bad_operands store names op (text x) (text y) t u = fine_texts op x y t u
no_bad_operands store names op a b t u = fine_others store names op a b refl refl t
