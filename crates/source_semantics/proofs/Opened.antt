-- What a type says at once is what it says once it is opened.
use Rattle.std.proofs.Common.{◌≡◌, ℕ, refl, ap, sym, ◌∙◌}
use Rattle.std.specs.Prelude.{Option, None, Some}
use Rattle.gd_model.specs.Datum as d
use Rattle.gd_model.specs.Datum.{Datum}
use Rattle.gd_model.specs.Store.{ArrayThing, DictThing, array_behind, dict_behind}
use Rattle.gd_model.specs.declared.ty.Ty.{Ty, out-Ty}
use Rattle.gd_model.specs.declared.ty.Ty.TheOpen as open_ty
use Rattle.gd_model.specs.declared.ty.Ty.TheOpen.{Ty-F}
use Rattle.gd_model.specs.declared.ty.Ty.TheVariants as ty
use Rattle.gd_model.specs.declared.ty.Ty.TheViews.{out-roll-Ty}
use Rattle.assignability.specs.Fits.{array_fits, array_fits_shape, dict_fits, dict_fits_shape}
use Rattle.store_semantics.specs.Starts.{start_of, start_shape}
use Rattle.store_semantics.specs.World.{put}
use Rattle.source_semantics.specs.Types.{ElementsAgree, FitsAgree, StartsAgree, element_shape, element_type, fits_array, fits_dict, key_and_value, pair_shape, start_made}

-- ---- a type without element types, opened

opens_Variant : out-Ty ty.Variant ≡ open_ty.Variant
opens_Variant = ap out-Ty (sym ty.rolls-Variant) ∙ out-roll-Ty open_ty.Variant

opens_Nil : out-Ty ty.Nil ≡ open_ty.Nil
opens_Nil = ap out-Ty (sym ty.rolls-Nil) ∙ out-roll-Ty open_ty.Nil

opens_Bool : out-Ty ty.Bool ≡ open_ty.Bool
opens_Bool = ap out-Ty (sym ty.rolls-Bool) ∙ out-roll-Ty open_ty.Bool

opens_Int : out-Ty ty.Int ≡ open_ty.Int
opens_Int = ap out-Ty (sym ty.rolls-Int) ∙ out-roll-Ty open_ty.Int

opens_Str : out-Ty ty.Str ≡ open_ty.Str
opens_Str = ap out-Ty (sym ty.rolls-Str) ∙ out-roll-Ty open_ty.Str

opens_Callable : out-Ty ty.Callable ≡ open_ty.Callable
opens_Callable = ap out-Ty (sym ty.rolls-Callable) ∙ out-roll-Ty open_ty.Callable

opens_Signal : out-Ty ty.Signal ≡ open_ty.Signal
opens_Signal = ap out-Ty (sym ty.rolls-Signal) ∙ out-roll-Ty open_ty.Signal

opens_Dict : out-Ty ty.Dict ≡ open_ty.Dict
opens_Dict = ap out-Ty (sym ty.rolls-Dict) ∙ out-roll-Ty open_ty.Dict

opens_Array : out-Ty ty.Array ≡ open_ty.Array
opens_Array = ap out-Ty (sym ty.rolls-Array) ∙ out-roll-Ty open_ty.Array

opens_Void : out-Ty ty.Void ≡ open_ty.Void
opens_Void = ap out-Ty (sym ty.rolls-Void) ∙ out-roll-Ty open_ty.Void

opens_Bad : out-Ty ty.Bad ≡ open_ty.Bad
opens_Bad = ap out-Ty (sym ty.rolls-Bad) ∙ out-roll-Ty open_ty.Bad

opens_Class : (c : ℕ) → out-Ty (ty.Class c) ≡ open_ty.Class c
opens_Class c = ap out-Ty (sym (ty.rolls-Class c)) ∙ out-roll-Ty (open_ty.Class c)

opens_Meta : (c : ℕ) → out-Ty (ty.Meta c) ≡ open_ty.Meta c
opens_Meta c = ap out-Ty (sym (ty.rolls-Meta c)) ∙ out-roll-Ty (open_ty.Meta c)

-- ---- start values

made_agrees : (t : Ty) → start_made t ≡ start_of t
made_agrees ty.Variant = ap start_shape (sym opens_Variant)
made_agrees ty.Nil = ap start_shape (sym opens_Nil)
made_agrees ty.Bool = ap start_shape (sym opens_Bool)
made_agrees ty.Int = ap start_shape (sym opens_Int)
made_agrees ty.Str = ap start_shape (sym opens_Str)
made_agrees ty.Callable = ap start_shape (sym opens_Callable)
made_agrees ty.Signal = ap start_shape (sym opens_Signal)
made_agrees ty.Dict = ap start_shape (sym opens_Dict)
made_agrees ty.Array = ap start_shape (sym opens_Array)
made_agrees ty.Void = ap start_shape (sym opens_Void)
made_agrees ty.Bad = ap start_shape (sym opens_Bad)
made_agrees (ty.Class c) = ap start_shape (sym (opens_Class c))
made_agrees (ty.Meta c) = ap start_shape (sym (opens_Meta c))
made_agrees t = refl

pub starts_agree : StartsAgree
starts_agree w t = ap (put w) (made_agrees t)

-- ---- which values fit

array_agrees : (t : Ty) (a : Option ArrayThing) → fits_array t a ≡ array_fits t a
array_agrees ty.Variant a = ap (λ (x : Ty-F Ty). array_fits_shape x a) (sym opens_Variant)
array_agrees ty.Nil a = ap (λ (x : Ty-F Ty). array_fits_shape x a) (sym opens_Nil)
array_agrees ty.Bool a = ap (λ (x : Ty-F Ty). array_fits_shape x a) (sym opens_Bool)
array_agrees ty.Int a = ap (λ (x : Ty-F Ty). array_fits_shape x a) (sym opens_Int)
array_agrees ty.Str a = ap (λ (x : Ty-F Ty). array_fits_shape x a) (sym opens_Str)
array_agrees ty.Callable a = ap (λ (x : Ty-F Ty). array_fits_shape x a) (sym opens_Callable)
array_agrees ty.Signal a = ap (λ (x : Ty-F Ty). array_fits_shape x a) (sym opens_Signal)
array_agrees ty.Dict a = ap (λ (x : Ty-F Ty). array_fits_shape x a) (sym opens_Dict)
array_agrees ty.Array None = ap (λ (x : Ty-F Ty). array_fits_shape x None) (sym opens_Array)
array_agrees ty.Array (Some a) = ap (λ (x : Ty-F Ty). array_fits_shape x (Some a)) (sym opens_Array)
array_agrees ty.Void a = ap (λ (x : Ty-F Ty). array_fits_shape x a) (sym opens_Void)
array_agrees ty.Bad a = ap (λ (x : Ty-F Ty). array_fits_shape x a) (sym opens_Bad)
array_agrees (ty.Class c) a = ap (λ (x : Ty-F Ty). array_fits_shape x a) (sym (opens_Class c))
array_agrees (ty.Meta c) a = ap (λ (x : Ty-F Ty). array_fits_shape x a) (sym (opens_Meta c))
array_agrees t a = refl

dict_agrees : (t : Ty) (d : Option DictThing) → fits_dict t d ≡ dict_fits t d
dict_agrees ty.Variant a = ap (λ (x : Ty-F Ty). dict_fits_shape x a) (sym opens_Variant)
dict_agrees ty.Nil a = ap (λ (x : Ty-F Ty). dict_fits_shape x a) (sym opens_Nil)
dict_agrees ty.Bool a = ap (λ (x : Ty-F Ty). dict_fits_shape x a) (sym opens_Bool)
dict_agrees ty.Int a = ap (λ (x : Ty-F Ty). dict_fits_shape x a) (sym opens_Int)
dict_agrees ty.Str a = ap (λ (x : Ty-F Ty). dict_fits_shape x a) (sym opens_Str)
dict_agrees ty.Callable a = ap (λ (x : Ty-F Ty). dict_fits_shape x a) (sym opens_Callable)
dict_agrees ty.Signal a = ap (λ (x : Ty-F Ty). dict_fits_shape x a) (sym opens_Signal)
dict_agrees ty.Dict None = ap (λ (x : Ty-F Ty). dict_fits_shape x None) (sym opens_Dict)
dict_agrees ty.Dict (Some a) = ap (λ (x : Ty-F Ty). dict_fits_shape x (Some a)) (sym opens_Dict)
dict_agrees ty.Array a = ap (λ (x : Ty-F Ty). dict_fits_shape x a) (sym opens_Array)
dict_agrees ty.Void a = ap (λ (x : Ty-F Ty). dict_fits_shape x a) (sym opens_Void)
dict_agrees ty.Bad a = ap (λ (x : Ty-F Ty). dict_fits_shape x a) (sym opens_Bad)
dict_agrees (ty.Class c) a = ap (λ (x : Ty-F Ty). dict_fits_shape x a) (sym (opens_Class c))
dict_agrees (ty.Meta c) a = ap (λ (x : Ty-F Ty). dict_fits_shape x a) (sym (opens_Meta c))
dict_agrees t a = refl

pub fits_agree : FitsAgree
fits_agree bases store t (d.array s) = array_agrees t (array_behind (store s))
fits_agree bases store t (d.dictionary s) = dict_agrees t (dict_behind (store s))
fits_agree bases store t v = refl

-- ---- the types of what is in a container

element_agrees : (t : Ty) → element_type t ≡ element_shape (out-Ty t)
element_agrees ty.Variant = ap element_shape (sym opens_Variant)
element_agrees ty.Array = ap element_shape (sym opens_Array)
element_agrees t = refl

pair_agrees : (t : Ty) → key_and_value t ≡ pair_shape (out-Ty t)
pair_agrees ty.Variant = ap pair_shape (sym opens_Variant)
pair_agrees ty.Dict = ap pair_shape (sym opens_Dict)
pair_agrees t = refl

pub elements_agree : ElementsAgree
elements_agree t = (element_agrees t, pair_agrees t)
