-- Which types a program may have.
use Rattle.std.specs.Prelude.{◌≡◌, ℕ, ◌+◌, Bool, true, false, ◌&&◌, nat_eq, nat_le, List, take, Option, None, Some}
use Rattle.std.specs.HashSet.{HashSet, contains}
use Rattle.std.specs.declared.hash.FoldHasher.{FoldHasher}
use Rattle.std.specs.declared.hash.BuildHasherDefault.{BuildHasherDefault}
use Rattle.std.specs.List.{list_any}
use Rattle.std.specs.Option.{option_or, option_map_or}
use Rattle.gd_model.specs.declared.ty.Ty.{Ty, out-Ty}
use Rattle.gd_model.specs.declared.ty.Ty.TheOpen as open_ty
use Rattle.gd_model.specs.declared.ty.Ty.TheOpen.{Ty-F}
use Rattle.gd_model.specs.declared.ty.Ty.TheVariants as ty
use Rattle.gd_bytecode.specs.declared.field.Field.{Field}
use Rattle.gd_bytecode.specs.declared.field.Field.TheVariants.{InType}
use Rattle.gd_bytecode.specs.declared.field.TypeField.TheVariants as field
use Rattle.gd_bytecode.specs.First.{unless, first_in}

-- the keys of a typed dictionary
abbrev pub is_key_type : Ty → Bool
is_key_type ty.Variant = true
is_key_type ty.Bool = true
is_key_type ty.Int = true
is_key_type ty.Str = true
is_key_type (ty.Class c) = true
is_key_type t = false

-- what elements, keys and values may be: no type with types of its own; each has a number of its own
abbrev pub plain_number : Ty → Option ℕ
plain_number ty.Variant = Some 0
plain_number ty.Bool = Some 1
plain_number ty.Int = Some 2
plain_number ty.Str = Some 3
plain_number ty.Callable = Some 4
plain_number ty.Signal = Some 5
plain_number ty.Dict = Some 6
plain_number ty.Array = Some 7
plain_number (ty.Class c) = Some (8 + c)
plain_number t = None

-- a type has this number
abbrev pub has_number : ℕ → Ty → Bool
has_number n t = option_map_or (λ m. nat_eq n m) (plain_number t) false

-- a type is plain, and one of these
abbrev pub is_met : List Ty → Ty → Bool
is_met earlier t = option_map_or (λ n. list_any (has_number n) earlier) (plain_number t) false

-- by what of the types inside a typed dictionary is met
abbrev pub dict_fault : (Ty → Bool) → ℕ → Ty → Ty → Option Field
dict_fault met i k v = option_or (unless (is_key_type k && met k) (InType i field.Key)) (unless (met v) (InType i field.Value))

-- by the shape of the type: a class is one of the program, and the types inside a type are met; the types of null, of a class
-- itself and of an error are no types of programs
abbrev pub shape_fault : ℕ → (Ty → Bool) → ℕ → Ty-F Ty → Option Field
shape_fault classes met i (open_ty.Class c) = unless (nat_le c classes) (InType i field.Class)
shape_fault classes met i (open_ty.ArrayOf e) = unless (met e) (InType i field.Element)
shape_fault classes met i (open_ty.DictOf k v) = dict_fault met i k v
shape_fault classes met i open_ty.Nil = Some (InType i field.Kind)
shape_fault classes met i (open_ty.Meta c) = Some (InType i field.Kind)
shape_fault classes met i open_ty.Bad = Some (InType i field.Kind)
shape_fault classes met i t = None

abbrev pub entry_fault : ℕ → (Ty → Bool) → ℕ → Ty → Option Field
entry_fault classes met i t = shape_fault classes met i (out-Ty t)

-- the first that is wrong: the types inside a type are plain, and stand before it
abbrev pub type_fault : List Ty → ℕ → Option Field
type_fault types classes = first_in (λ i t. entry_fault classes (is_met (take i types)) i t) 0 types

-- the numbers of the types met so far
abbrev pub Numbers : Type 0
Numbers = HashSet ℕ (BuildHasherDefault FoldHasher)

abbrev pub has : Numbers → Ty → Bool
has met t = option_map_or (λ n. contains nat_eq met n) (plain_number t) false

abbrev pub AreNumbersOf : Numbers → List Ty → Type 0
AreNumbersOf met earlier = (n : ℕ) → contains nat_eq met n ≡ list_any (has_number n) earlier
