-- The lists of texts, ints and types of a program: each that is named, once, in the order in which they are met.
use Rattle.std.specs.Prelude.{ℕ, ◌+◌, ℤ, pos, negsuc, Bool, false, not, ◌&&◌, nat_eq, List, [], ◌∷◌, ◌++◌, filter, position, unwrap_or, bytes_eq, Option, None, Some}
use Rattle.gd_members.specs.declared.MemberId.{MemberId}
use Rattle.gd_model.specs.SameType.{same_type}
use Rattle.gd_model.specs.declared.ty.Ty.{Ty, out-Ty}
use Rattle.gd_model.specs.declared.ty.Ty.TheOpen as open_ty
use Rattle.gd_model.specs.declared.ty.Ty.TheOpen.{Ty-F}
use Rattle.gd_model.specs.declared.ty.Ty.TheVariants as ty
use Rattle.syntax_trees.specs.Expressions.{Text}
use Rattle.emitted_code.specs.Steps.{Key, declared, getter, initial, setter, static_initial}

pub record Tables : Type 0 where
  pub texts : List Text
  pub ints : List ℤ
  pub types : List Ty
  -- the functions
  pub keys : List Key

-- the first of those that are the same
abbrev pub once : {A : Type 0} → (A → A → Bool) → List A → List A
once same [] = []
once same (x ∷ xs) = x ∷ filter (λ y. not (same x y)) (once same xs)

-- the number of an entry
abbrev pub number : {A : Type 0} → (A → A → Bool) → A → List A → ℕ
number same x xs = unwrap_or (position (same x) xs) 0

-- ---- when two are the same

abbrev pub same_int : ℤ → ℤ → Bool
same_int (pos m) (pos n) = nat_eq m n
same_int (negsuc m) (negsuc n) = nat_eq m n
same_int x y = false

-- a type without types of its own has a number of its own, by which it is known at once
abbrev pub plain_number : Ty → Option ℕ
plain_number ty.Variant = Some 0
plain_number ty.Bool = Some 1
plain_number ty.Int = Some 2
plain_number ty.Str = Some 3
plain_number ty.Callable = Some 4
plain_number ty.Signal = Some 5
plain_number ty.Dict = Some 6
plain_number ty.Array = Some 7
plain_number ty.Void = Some 8
plain_number (ty.Class c) = Some (9 + c)
plain_number t = None

abbrev pub same_number : Ty → Ty → Option ℕ → Option ℕ → Bool
same_number t u (Some m) (Some n) = nat_eq m n
same_number t u m n = same_type t u

abbrev pub is_same : Ty → Ty → Bool
is_same t u = same_number t u (plain_number t) (plain_number u)

abbrev pub same_member : MemberId → MemberId → Bool
same_member x y = nat_eq x.class y.class && nat_eq x.index y.index

abbrev pub same_key : Key → Key → Bool
same_key (declared x) (declared y) = same_member x y
same_key (setter x) (setter y) = same_member x y
same_key (getter x) (getter y) = same_member x y
same_key (initial k) (initial n) = nat_eq k n
same_key (static_initial k) (static_initial n) = nat_eq k n
same_key x y = false

-- ---- their numbers

abbrev pub text_number : Tables → Text → ℕ
text_number t x = number bytes_eq x t.texts

abbrev pub int_number : Tables → ℤ → ℕ
int_number t x = number same_int x t.ints

abbrev pub type_number : Tables → Ty → ℕ
type_number t x = number is_same x t.types

abbrev pub key_number : Tables → Key → ℕ
key_number t x = number same_key x t.keys

abbrev pub key_found : Tables → Key → Option ℕ
key_found t x = position (same_key x) t.keys

-- ---- a type with the types of its elements, keys and values before it

abbrev pub shape_parts : Ty-F Ty → List Ty
shape_parts (open_ty.ArrayOf e) = e ∷ []
shape_parts (open_ty.DictOf k v) = k ∷ v ∷ []
shape_parts shape = []

abbrev pub parts_by : Ty → Option ℕ → List Ty
parts_by t (Some n) = []
parts_by t None = shape_parts (out-Ty t)

abbrev pub with_parts : Ty → List Ty
with_parts t = parts_by t (plain_number t) ++ t ∷ []
