-- Whether a value of the type S may be assigned to a place of the type T.
use Rattle.std.specs.Prelude.{ℕ, Bool, true, false, ◌||◌, ◌==◌, List, Option, None, Some, if◌then◌else◌}
use Rattle.std.specs.List.{list_any}
use Rattle.gd_model.specs.declared.ty.Ty.{Ty, ArrayOf', DictOf'}
use Rattle.gd_model.specs.declared.ty.Ty.TheVariants as ty
use Rattle.gd_model.specs.SameType.{same_type}
use Rattle.assignability.specs.declared.assignment.Assignment.{Assignment}
use Rattle.assignability.specs.declared.assignment.Assignment.TheVariants.{Sure, Checked, Never}

-- the class is among the bases; the bases of a class are itself, its base, that one's base, and so on
abbrev pub is_among : List ℕ → ℕ → Bool
is_among bases d = list_any (λ b. b == d) bases

-- between two classes
abbrev pub assign_class : (ℕ → List ℕ) → ℕ → ℕ → Assignment
assign_class bases c d = if is_among (bases c) d then Sure else (if is_among (bases d) c then Checked else Never)

-- null, and a class, to another type
abbrev pub from_null : Ty → Assignment
from_null (ty.Class d) = Sure
from_null t = Never

abbrev pub from_class : (ℕ → List ℕ) → ℕ → Ty → Assignment
from_class bases c (ty.Class d) = assign_class bases c d
from_class bases c t = Never

-- an array and a dictionary, with and without types of their own, to another type
abbrev pub from_array : Ty → Assignment
from_array (ArrayOf' p e) = Checked
from_array t = Never

abbrev pub from_typed_array : Ty → Assignment
from_typed_array ty.Array = Sure
from_typed_array t = Never

abbrev pub from_dict : Ty → Assignment
from_dict (DictOf' p k q v) = Checked
from_dict t = Never

abbrev pub from_typed_dict : Ty → Assignment
from_typed_dict ty.Dict = Sure
from_typed_dict t = Never

-- between two types that are not one, neither of them Bad, Variant, void or a class itself
abbrev pub assign_other : (ℕ → List ℕ) → Ty → Ty → Assignment
assign_other bases ty.Nil t = from_null t
assign_other bases (ty.Class c) t = from_class bases c t
assign_other bases ty.Array t = from_array t
assign_other bases (ArrayOf' p e) t = from_typed_array t
assign_other bases ty.Dict t = from_dict t
assign_other bases (DictOf' p k q v) t = from_typed_dict t
assign_other bases s t = Never

abbrev pub is_bad : Ty → Bool
is_bad ty.Bad = true
is_bad t = false

abbrev pub is_variant : Ty → Bool
is_variant ty.Variant = true
is_variant t = false

-- void, and a class itself: what is no value
abbrev pub is_no_value : Ty → Bool
is_no_value ty.Void = true
is_no_value (ty.Meta c) = true
is_no_value t = false

-- the answer by the first line that applies; none where S has no values
abbrev pub assign : (ℕ → List ℕ) → Ty → Ty → Option Assignment
assign bases s t =
    if is_bad s || is_bad t then Some Sure
    else (if is_no_value s then None
    else (if is_variant t then Some Sure
    else (if is_variant s then Some Checked
    else (if same_type s t then Some Sure else Some (assign_other bases s t)))))
