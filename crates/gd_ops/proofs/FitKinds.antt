-- A value that fits a type is of the kind of the type's values.
use Rattle.std.proofs.Common.{◌≡◌, ℕ, true, List, Option, None, Some, ap, sym, ◌∙◌}
use Rattle.gd_model.specs.declared.ty.Ty.{Ty}
use Rattle.gd_model.specs.declared.ty.Ty.TheOpen as open_ty
use Rattle.gd_model.specs.declared.ty.Ty.TheOpen.{Ty-F}
use Rattle.gd_model.specs.declared.ty.Ty.TheVariants as ty
use Rattle.gd_model.specs.declared.ty.Ty.TheViews.{out-Ty, roll-Ty, roll-out-Ty}
use Rattle.gd_model.specs.Datum.{Datum, null, bool, int, text, object, array, dictionary, callable, signal}
use Rattle.gd_model.specs.Store.{Store, ArrayThing, DictThing, array_behind, dict_behind, class_behind}
use Rattle.value_semantics.specs.declared.kind.Kind.{Kind}
use Rattle.value_semantics.specs.declared.kind.Kind.TheVariants as k
use Rattle.value_semantics.specs.Kinds.{kind_of, kind_of_type, fits_kind}
use Rattle.assignability.specs.Fits.{fits, null_fits, class_fits, array_fits_shape, dict_fits_shape, bool_fits, int_fits, text_fits, callable_fits, signal_fits}

-- ---- values that are no containers

null_is : (t : Ty) (x : Kind) → kind_of_type t ≡ Some x → null_fits t ≡ true → fits_kind x k.Nil ≡ true
null_is ty.Nil x e f = let same : x ≡ k.Nil = cc in ap (λ w. fits_kind w k.Nil) same
null_is (ty.Class c) x e f = let same : x ≡ k.Object = cc in ap (λ w. fits_kind w k.Nil) same
null_is ty.Callable x e f = let same : x ≡ k.Callable = cc in ap (λ w. fits_kind w k.Nil) same
null_is ty.Signal x e f = let same : x ≡ k.Signal = cc in ap (λ w. fits_kind w k.Nil) same
null_is _ x e f = cc

bool_is : (t : Ty) (x : Kind) → kind_of_type t ≡ Some x → bool_fits t ≡ true → fits_kind x k.Bool ≡ true
bool_is ty.Bool x e f = let same : x ≡ k.Bool = cc in ap (λ w. fits_kind w k.Bool) same
bool_is _ x e f = cc

int_is : (t : Ty) (x : Kind) → kind_of_type t ≡ Some x → int_fits t ≡ true → fits_kind x k.Int ≡ true
int_is ty.Int x e f = let same : x ≡ k.Int = cc in ap (λ w. fits_kind w k.Int) same
int_is _ x e f = cc

text_is : (t : Ty) (x : Kind) → kind_of_type t ≡ Some x → text_fits t ≡ true → fits_kind x k.Str ≡ true
text_is ty.Str x e f = let same : x ≡ k.Str = cc in ap (λ w. fits_kind w k.Str) same
text_is _ x e f = cc

callable_is : (t : Ty) (x : Kind) → kind_of_type t ≡ Some x → callable_fits t ≡ true → fits_kind x k.Callable ≡ true
callable_is ty.Callable x e f = let same : x ≡ k.Callable = cc in ap (λ w. fits_kind w k.Callable) same
callable_is _ x e f = cc

signal_is : (t : Ty) (x : Kind) → kind_of_type t ≡ Some x → signal_fits t ≡ true → fits_kind x k.Signal ≡ true
signal_is ty.Signal x e f = let same : x ≡ k.Signal = cc in ap (λ w. fits_kind w k.Signal) same
signal_is _ x e f = cc

object_is : (bases : ℕ → List ℕ) (t : Ty) (d : Option ℕ) (x : Kind) → kind_of_type t ≡ Some x → class_fits bases t d ≡ true → fits_kind x k.Object ≡ true
object_is bases (ty.Class c) (Some d) x e f = let same : x ≡ k.Object = cc in ap (λ w. fits_kind w k.Object) same
object_is bases _ _ x e f = cc

-- ---- containers, by the shape of the type

abbrev kind_of_layer : Ty-F Ty → Option Kind
kind_of_layer open_ty.Nil = Some k.Nil
kind_of_layer open_ty.Bool = Some k.Bool
kind_of_layer open_ty.Int = Some k.Int
kind_of_layer open_ty.Str = Some k.Str
kind_of_layer (open_ty.Class c) = Some k.Object
kind_of_layer open_ty.Array = Some k.Array
kind_of_layer (open_ty.ArrayOf t) = Some k.Array
kind_of_layer open_ty.Dict = Some k.Dict
kind_of_layer (open_ty.DictOf t u) = Some k.Dict
kind_of_layer open_ty.Callable = Some k.Callable
kind_of_layer open_ty.Signal = Some k.Signal
kind_of_layer x = None

layer_kind : (x : Ty-F Ty) → kind_of_type (roll-Ty x) ≡ kind_of_layer x
layer_kind open_ty.Variant = ap kind_of_type ty.rolls-Variant
layer_kind open_ty.Nil = ap kind_of_type ty.rolls-Nil
layer_kind open_ty.Bool = ap kind_of_type ty.rolls-Bool
layer_kind open_ty.Int = ap kind_of_type ty.rolls-Int
layer_kind open_ty.Str = ap kind_of_type ty.rolls-Str
layer_kind open_ty.Callable = ap kind_of_type ty.rolls-Callable
layer_kind open_ty.Signal = ap kind_of_type ty.rolls-Signal
layer_kind open_ty.Dict = ap kind_of_type ty.rolls-Dict
layer_kind (open_ty.DictOf t u) = ap kind_of_type (ty.rolls-DictOf t u)
layer_kind open_ty.Array = ap kind_of_type ty.rolls-Array
layer_kind (open_ty.ArrayOf t) = ap kind_of_type (ty.rolls-ArrayOf t)
layer_kind (open_ty.Class c) = ap kind_of_type (ty.rolls-Class c)
layer_kind open_ty.Void = ap kind_of_type ty.rolls-Void
layer_kind (open_ty.Meta c) = ap kind_of_type (ty.rolls-Meta c)
layer_kind open_ty.Bad = ap kind_of_type ty.rolls-Bad

kind_by_layer : (t : Ty) → kind_of_layer (out-Ty t) ≡ kind_of_type t
kind_by_layer t = sym (layer_kind (out-Ty t)) ∙ ap kind_of_type (roll-out-Ty t)

array_is : (y : Ty-F Ty) (a : Option ArrayThing) (x : Kind) → kind_of_layer y ≡ Some x → array_fits_shape y a ≡ true → fits_kind x k.Array ≡ true
array_is open_ty.Array (Some a) x e f = let same : x ≡ k.Array = cc in ap (λ w. fits_kind w k.Array) same
array_is (open_ty.ArrayOf t) (Some a) x e f = let same : x ≡ k.Array = cc in ap (λ w. fits_kind w k.Array) same
array_is _ _ x e f = cc

dict_is : (y : Ty-F Ty) (d : Option DictThing) (x : Kind) → kind_of_layer y ≡ Some x → dict_fits_shape y d ≡ true → fits_kind x k.Dict ≡ true
dict_is open_ty.Dict (Some d) x e f = let same : x ≡ k.Dict = cc in ap (λ w. fits_kind w k.Dict) same
dict_is (open_ty.DictOf t u) (Some d) x e f = let same : x ≡ k.Dict = cc in ap (λ w. fits_kind w k.Dict) same
dict_is _ _ x e f = cc

-- ---- all values

module _ (bases : ℕ → List ℕ) (store : Store) (t : Ty) (x : Kind) where
  pub fitting_is_of_kind : (a : Datum) → kind_of_type t ≡ Some x → fits bases store t a ≡ true → fits_kind x (kind_of a) ≡ true
  fitting_is_of_kind null e f = null_is t x e f
  fitting_is_of_kind (bool b) e f = bool_is t x e f
  fitting_is_of_kind (int n) e f = int_is t x e f
  fitting_is_of_kind (text s) e f = text_is t x e f
  fitting_is_of_kind (object s) e f = object_is bases t (class_behind (store s)) x e f
  fitting_is_of_kind (array s) e f = array_is (out-Ty t) (array_behind (store s)) x (kind_by_layer t ∙ e) f
  fitting_is_of_kind (dictionary s) e f = dict_is (out-Ty t) (dict_behind (store s)) x (kind_by_layer t ∙ e) f
  fitting_is_of_kind (callable c) e f = callable_is t x e f
  fitting_is_of_kind (signal s n) e f = signal_is t x e f
