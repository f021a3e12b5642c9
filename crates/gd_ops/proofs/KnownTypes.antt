-- Operands whose types are known are of kinds for which there is the operator.
use Rattle.std.proofs.Common.{◌≡◌, ℕ, List, Bool, true, false, ◌&&◌, ◌||◌, not, ◌⊎◌, inl, inr, Option, None, Some, Err, refl, ap, sym, ◌∙◌, if◌then◌else◌}
use Rattle.gd_syntax.specs.declared.operator.Operator.{Operator}
use Rattle.gd_syntax.specs.declared.operator.Operator.TheVariants.{Remainder, Add, Equal, NotEqual, Less, LessEqual, Greater, GreaterEqual, In, NotIn, Negate, Plus, Complement, Not}
use Rattle.gd_model.specs.declared.fault.RunFault.TheVariants.{BadOperands}
use Rattle.gd_model.specs.declared.ty.Ty.{Ty}
use Rattle.gd_model.specs.Datum.{Datum, null}
use Rattle.gd_model.specs.Store.{Store, Names}
use Rattle.value_semantics.specs.declared.kind.Kind.{Kind}
use Rattle.value_semantics.specs.declared.kind.Kind.TheVariants as k
use Rattle.value_semantics.specs.declared.rows.Given.{Given}
use Rattle.value_semantics.specs.declared.rows.Given.TheVariants as gv
use Rattle.value_semantics.specs.Kinds.{kind_of, kind_of_type, right_kind, takes, is_unary, is_no_value, is_key, is_test, fits_kind, by_kinds, type_by_left, result_type, alike, ints, texts, arrays, pattern, inside, one_int}
use Rattle.value_semantics.specs.Operators.{applied}
use Rattle.assignability.specs.Fits.{fits}
use Rattle.gd_ops.proofs.FitKinds.{fitting_is_of_kind}
use Rattle.gd_ops.proofs.Operands.{no_bad_operands}

-- a value that fits is of the same kind, or null
same_or_null : (a b : Kind) → fits_kind a b ≡ true → (b ≡ a) ⊎ (b ≡ k.Nil)
same_or_null k.Object k.Nil e = inr refl
same_or_null k.Callable k.Nil e = inr refl
same_or_null k.Signal k.Nil e = inr refl
same_or_null k.Nil k.Nil e = inl refl
same_or_null k.Bool k.Bool e = inl refl
same_or_null k.Int k.Int e = inl refl
same_or_null k.Str k.Str e = inl refl
same_or_null k.Object k.Object e = inl refl
same_or_null k.Array k.Array e = inl refl
same_or_null k.Dict k.Dict e = inl refl
same_or_null k.Callable k.Callable e = inl refl
same_or_null k.Signal k.Signal e = inl refl
same_or_null _ _ e = cc

fits_int : (b : Kind) → fits_kind k.Int b ≡ true → b ≡ k.Int
fits_int k.Int e = refl
fits_int _ e = cc

fits_text : (b : Kind) → fits_kind k.Str b ≡ true → b ≡ k.Str
fits_text k.Str e = refl
fits_text _ e = cc

fits_array : (b : Kind) → fits_kind k.Array b ≡ true → b ≡ k.Array
fits_array k.Array e = refl
fits_array _ e = cc

fits_dict : (b : Kind) → fits_kind k.Dict b ≡ true → b ≡ k.Dict
fits_dict k.Dict e = refl
fits_dict _ e = cc

ints_fit : (a b c d : Kind) → ints a b ≡ true → fits_kind a c ≡ true → fits_kind b d ≡ true → ints c d ≡ true
ints_fit k.Int k.Int c d e f g = λ i. ints (fits_int c f i) (fits_int d g i)
ints_fit _ _ c d e f g = cc

texts_fit : (a b c d : Kind) → texts a b ≡ true → fits_kind a c ≡ true → fits_kind b d ≡ true → texts c d ≡ true
texts_fit k.Str k.Str c d e f g = λ i. texts (fits_text c f i) (fits_text d g i)
texts_fit _ _ c d e f g = cc

arrays_fit : (a b c d : Kind) → arrays a b ≡ true → fits_kind a c ≡ true → fits_kind b d ≡ true → arrays c d ≡ true
arrays_fit k.Array k.Array c d e f g = λ i. arrays (fits_array c f i) (fits_array d g i)
arrays_fit _ _ c d e f g = cc

pattern_fits : (a c : Kind) → pattern a ≡ true → fits_kind a c ≡ true → pattern c ≡ true
pattern_fits k.Str c e f = ap pattern (fits_text c f)
pattern_fits _ c e f = cc

int_fits : (a c : Kind) → one_int a ≡ true → fits_kind a c ≡ true → one_int c ≡ true
int_fits k.Int c e f = ap one_int (fits_int c f)
int_fits _ c e f = cc

alike_null : (a : Kind) → alike a k.Nil ≡ true
alike_null k.Nil = refl
alike_null k.Bool = refl
alike_null _ = refl

alike_fit : (a b c d : Kind) → alike a b ≡ true → fits_kind a c ≡ true → fits_kind b d ≡ true → alike c d ≡ true
alike_fit a b c d e f g =
    elim (same_or_null a c f) [
      | inr n ↦ ap (λ x. alike x d) n
      | inl p ↦ elim (same_or_null b d g) [
        | inr n ↦ ap (λ y. alike c y) n ∙ alike_null c
        | inl q ↦ (λ i. alike (p i) (q i)) ∙ e
      ]
    ]

key_fits : (a c : Kind) → is_key a ≡ true → fits_kind a c ≡ true → is_key c ≡ true
key_fits a c e f =
    elim (same_or_null a c f) [
      | inr n ↦ ap is_key n
      | inl p ↦ ap is_key p ∙ e
    ]

inside_fits : (a b c d : Kind) → inside a b ≡ true → fits_kind a c ≡ true → fits_kind b d ≡ true → inside c d ≡ true
inside_fits a k.Array c d e f g = ap (λ y. inside c y) (fits_array d g)
inside_fits a k.Dict c d e f g = ap (λ y. inside c y) (fits_dict d g) ∙ key_fits a c e f
inside_fits a _ c d e f g = cc

either : (p q r s : Bool) → (p ≡ true → r ≡ true) → (q ≡ true → s ≡ true) → p || q ≡ true → r || s ≡ true
either true q r s f g e = ap (λ x. x || s) (f refl)
either false q true s f g e = refl
either false q false s f g e = g e

takes_fits : (op : Operator) (a b c d : Kind) → takes op a b ≡ true → fits_kind a c ≡ true → fits_kind b d ≡ true → takes op c d ≡ true
takes_fits Remainder a b c d e f g = either (ints a b) (pattern a) (ints c d) (pattern c) (λ h. ints_fit a b c d h f g) (λ h. pattern_fits a c h f) e
takes_fits Add a b c d e f g = either (ints a b || texts a b) (arrays a b) (ints c d || texts c d) (arrays c d) (either (ints a b) (texts a b) (ints c d) (texts c d) (λ h. ints_fit a b c d h f g) (λ h. texts_fit a b c d h f g)) (λ h. arrays_fit a b c d h f g) e
takes_fits Equal a b c d e f g = alike_fit a b c d e f g
takes_fits NotEqual a b c d e f g = alike_fit a b c d e f g
takes_fits Less a b c d e f g = either (ints a b) (texts a b) (ints c d) (texts c d) (λ h. ints_fit a b c d h f g) (λ h. texts_fit a b c d h f g) e
takes_fits LessEqual a b c d e f g = either (ints a b) (texts a b) (ints c d) (texts c d) (λ h. ints_fit a b c d h f g) (λ h. texts_fit a b c d h f g) e
takes_fits Greater a b c d e f g = either (ints a b) (texts a b) (ints c d) (texts c d) (λ h. ints_fit a b c d h f g) (λ h. texts_fit a b c d h f g) e
takes_fits GreaterEqual a b c d e f g = either (ints a b) (texts a b) (ints c d) (texts c d) (λ h. ints_fit a b c d h f g) (λ h. texts_fit a b c d h f g) e
takes_fits In a b c d e f g = either (texts a b) (inside a b) (texts c d) (inside c d) (λ h. texts_fit a b c d h f g) (λ h. inside_fits a b c d h f g) e
takes_fits NotIn a b c d e f g = either (texts a b) (inside a b) (texts c d) (inside c d) (λ h. texts_fit a b c d h f g) (λ h. inside_fits a b c d h f g) e
takes_fits Negate a b c d e f g = int_fits a c e f
takes_fits Plus a b c d e f g = int_fits a c e f
takes_fits Complement a b c d e f g = int_fits a c e f
takes_fits Not a b c d e f g = refl
takes_fits _ a b c d e f g = ints_fit a b c d e f g

not_refused : (b : Bool) (m : Option Given) (g : Given) → (if b then None else m) ≡ Some g → m ≡ Some g
not_refused true m g e = cc
not_refused false m g e = e

is_taken : (b : Bool) (x g : Given) → (if b then Some x else None) ≡ Some g → b ≡ true
is_taken true x g e = refl
is_taken false x g e = cc

there_is : (op : Operator) (s t : Ty) (same : Bool) (g : Given) (a b : Kind) → result_type op s t same ≡ Some g → kind_of_type s ≡ Some a → right_kind op t ≡ Some b → takes op a b ≡ true
there_is op s t same g a b e es et =
    let known : by_kinds op (kind_of_type s) (right_kind op t) same ≡ Some g = not_refused (is_no_value s || (not (is_unary op) && is_no_value t)) (by_kinds op (kind_of_type s) (right_kind op t) same) g e in
    is_taken (takes op a b) (if is_test op then gv.Bool else type_by_left a same) g ((λ i. by_kinds op (sym es i) (sym et i) same) ∙ known)

-- the operands fit their types, and null stands on the right of an operator that takes one
module _ (bases : ℕ → List ℕ) (store : Store) where
  right_by : (one : Bool) (t : Ty) (l : Kind) (y : Datum) → (if one then Some k.Nil else kind_of_type t) ≡ Some l → (one ≡ true → y ≡ null)
      → (one ≡ false → fits bases store t y ≡ true) → fits_kind l (kind_of y) ≡ true
  right_by true t l y e n f = let same : l ≡ k.Nil = cc in λ i. fits_kind (same i) (kind_of (n refl i))
  right_by false t l y e n f = fitting_is_of_kind bases store t l y e (f refl)

  right_fits : (op : Operator) (t : Ty) (l : Kind) (y : Datum) → right_kind op t ≡ Some l → (is_unary op ≡ true → y ≡ null)
      → (is_unary op ≡ false → fits bases store t y ≡ true) → fits_kind l (kind_of y) ≡ true
  right_fits op t l y = right_by (is_unary op) t l y

  pub known_types : (names : Names) (op : Operator) (s t : Ty) (same : Bool) (g : Given) (a b : Kind) (x y : Datum) → result_type op s t same ≡ Some g
      → kind_of_type s ≡ Some a → right_kind op t ≡ Some b → fits bases store s x ≡ true → (is_unary op ≡ true → y ≡ null)
      → (is_unary op ≡ false → fits bases store t y ≡ true) → applied store names op x y ≡ Err BadOperands → ⊥
  known_types names op s t same g a b x y e es et fx null_right fy =
      let left = fitting_is_of_kind bases store s a x es fx in
      let right = right_fits op t b y et null_right fy in
      no_bad_operands store names op x y (takes_fits op a b (kind_of x) (kind_of y) (there_is op s t same g a b e es et) left right) null_right
