-- `x[i]`, and what a `for` goes over, by the types of the parts.
use Rattle.std.specs.Prelude.{ℕ, Bool, true, false, ◌||◌, ◌&&◌, List, Option, None, Some, if◌then◌else◌, not}
use Rattle.gd_model.specs.declared.ty.Ty.{Ty, out-Ty}
use Rattle.gd_model.specs.declared.ty.Ty.TheOpen as open_ty
use Rattle.gd_model.specs.declared.ty.Ty.TheOpen.{Ty-F}
use Rattle.gd_model.specs.declared.ty.Ty.TheVariants as ty
use Rattle.gd_rules.specs.declared.rule.Rule.TheVariants as rule
use Rattle.assignability.specs.declared.assignment.Assignment.{Assignment}
use Rattle.assignability.specs.declared.assignment.Assignment.TheVariants.{Sure, Checked, Never}
use Rattle.assignability.specs.Assign as assigning
use Rattle.gd_typing.specs.declared.verdict.Finding.{Finding}
use Rattle.gd_typing.specs.declared.verdict.Verdict.{Verdict}
use Rattle.gd_typing.specs.Verdicts.{bad, broken, fine, mark_if, unsafe_variant}
use Rattle.gd_typing.specs.Operators.{is_bad, is_variant}

-- an array and a String have elements by int
abbrev pub is_index : Ty → Bool
is_index ty.Variant = true
is_index ty.Int = true
is_index t = false

-- a dictionary has them by key: null, bool, int, String and objects
abbrev pub may_be_key : Ty → Bool
may_be_key ty.Variant = true
may_be_key ty.Nil = true
may_be_key ty.Bool = true
may_be_key ty.Int = true
may_be_key ty.Str = true
may_be_key (ty.Class c) = true
may_be_key t = false

-- a value of the one type may go to a place of the other
abbrev pub answers_may : Option Assignment → Bool
answers_may (Some Sure) = true
answers_may (Some Checked) = true
answers_may answer = false

abbrev pub may_go : (ℕ → List ℕ) → Ty → Ty → Bool
may_go bases s t = answers_may (assigning.assign bases s t)

-- it goes there only after a test
abbrev pub answers_checked : Option Assignment → Bool
answers_checked (Some Checked) = true
answers_checked answer = false

abbrev pub is_checked : (ℕ → List ℕ) → Ty → Ty → Bool
is_checked bases s t = answers_checked (assigning.assign bases s t)

-- whether a base of this type, by its shape, has a subscript by that type
abbrev pub has_subscript_shape : (ℕ → List ℕ) → Ty-F Ty → Ty → Bool
has_subscript_shape bases open_ty.Variant i = true
has_subscript_shape bases open_ty.Str i = is_index i
has_subscript_shape bases open_ty.Array i = is_index i
has_subscript_shape bases (open_ty.ArrayOf e) i = is_index i
has_subscript_shape bases open_ty.Dict i = may_be_key i
has_subscript_shape bases (open_ty.DictOf k v) i = may_go bases i k
has_subscript_shape bases t i = false

abbrev pub has_subscript : (ℕ → List ℕ) → Ty → Ty → Bool
has_subscript bases t i = has_subscript_shape bases (out-Ty t) i

-- what a subscript gives, by its base alone
abbrev pub element_type_shape : Ty-F Ty → Ty
element_type_shape open_ty.Str = ty.Str
element_type_shape (open_ty.ArrayOf e) = e
element_type_shape (open_ty.DictOf k v) = v
element_type_shape t = ty.Variant

abbrev pub element_type : Ty → Ty
element_type t = element_type_shape (out-Ty t)

-- a subscript that is not there is A18; one with a Variant is marked
abbrev pub subscript : (ℕ → List ℕ) → Ty → Ty → Verdict
subscript bases t i =
    if is_bad t || is_bad i then bad
    else (if not (has_subscript bases t i) then broken rule.BadOperands
    else record { ty = element_type t; finding = mark_if (is_variant t || is_variant i) })

-- a write to an Array or a Dictionary is marked, and one to a typed dictionary whose key is tested
abbrev pub write_is_marked_shape : (ℕ → List ℕ) → Ty-F Ty → Ty → Bool
write_is_marked_shape bases open_ty.Array key = true
write_is_marked_shape bases open_ty.Dict key = true
write_is_marked_shape bases (open_ty.DictOf k v) key = is_checked bases key k
write_is_marked_shape bases t key = false

abbrev pub write_is_marked : (ℕ → List ℕ) → Ty → Ty → Bool
write_is_marked bases t key = if is_bad key then false else write_is_marked_shape bases (out-Ty t) key

-- the type of the variable of a `for`, by the shape of its subject's type: A41 where none goes over it
abbrev pub iterated_shape : Ty-F Ty → Verdict
iterated_shape open_ty.Bad = bad
iterated_shape open_ty.Int = fine ty.Int
iterated_shape open_ty.Str = fine ty.Str
iterated_shape open_ty.Array = fine ty.Variant
iterated_shape open_ty.Dict = fine ty.Variant
iterated_shape (open_ty.ArrayOf e) = fine e
iterated_shape (open_ty.DictOf k v) = fine k
iterated_shape open_ty.Variant = record { ty = ty.Variant; finding = mark_if true }
iterated_shape t = broken rule.NotIterable

abbrev pub iterated : Ty → Verdict
iterated t = iterated_shape (out-Ty t)

-- `range(..)` as a subject gives ints
abbrev pub iterated_range : Ty → Verdict
iterated_range t = if is_bad t then bad else fine ty.Int

-- an attribute of a dictionary is the subscript by the name as a String
abbrev pub dictionary_attribute : (ℕ → List ℕ) → Ty → Verdict
dictionary_attribute bases t = if has_subscript bases t ty.Str then fine (element_type t) else broken rule.BadOperands

-- an attribute of a value that is no object and no class: of Variant it is unsafe (W1), and builtins have none (A19)
abbrev pub value_attribute_shape : (ℕ → List ℕ) → Ty → Ty-F Ty → Verdict
value_attribute_shape bases t open_ty.Bad = bad
value_attribute_shape bases t open_ty.Variant = unsafe_variant rule.UnsafePropertyAccess
value_attribute_shape bases t open_ty.Dict = dictionary_attribute bases t
value_attribute_shape bases t (open_ty.DictOf k v) = dictionary_attribute bases t
value_attribute_shape bases t shape = broken rule.NoMember

abbrev pub value_attribute : (ℕ → List ℕ) → Ty → Verdict
value_attribute bases t = value_attribute_shape bases t (out-Ty t)
