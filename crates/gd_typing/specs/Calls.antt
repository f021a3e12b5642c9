-- What is called, and the type of a call, by what its name was found to be.
use Rattle.std.specs.Prelude.{ℕ, ◌-◌, ◌==◌, Bool, true, false, ◌||◌, ◌&&◌, not, is_some, nat_lt, List, length, Option, None, Some, if◌then◌else◌}
use Rattle.gd_members.specs.declared.Found.{Found}
use Rattle.gd_members.specs.declared.Found.TheVariants as found
use Rattle.gd_members.specs.declared.MemberId.{MemberId}
use Rattle.gd_model.specs.declared.ty.Ty.{Ty}
use Rattle.gd_model.specs.declared.ty.Ty.TheVariants as ty
use Rattle.gd_rules.specs.declared.rule.Rule.{Rule}
use Rattle.gd_rules.specs.declared.rule.Rule.TheVariants as rule
use Rattle.value_semantics.specs.declared.builtin.Builtin.{Builtin}
use Rattle.value_semantics.specs.declared.builtin.Builtin.TheVariants as b
use Rattle.value_semantics.specs.declared.builtin_rows.Returned.{Returned}
use Rattle.value_semantics.specs.declared.builtin_rows.Returned.TheVariants as r
use Rattle.value_semantics.specs.declared.kind.Kind.{Kind}
use Rattle.value_semantics.specs.BuiltinRows.{Row, named, row_of}
use Rattle.value_semantics.specs.Kinds.{kind_of_type}
use Rattle.gd_typing.specs.declared.calls.Call.{Call}
use Rattle.gd_typing.specs.declared.calls.Callee.{Callee}
use Rattle.gd_typing.specs.declared.calls.Callee.TheVariants as callee
use Rattle.gd_typing.specs.declared.declared.Declared.{Declared}
use Rattle.gd_typing.specs.declared.member.Signature.{Signature}
use Rattle.gd_typing.specs.declared.verdict.Verdict.{Verdict}
use Rattle.gd_typing.specs.Members.{function_at, needs_instance}
use Rattle.gd_typing.specs.Verdicts.{bad, broken, fine, mark_if, unsafe_variant}

-- a call that breaks a rule, one with a Bad part, and one of which nothing is known before a run (W2)
abbrev pub refused : Option Found → Rule → Call
refused x breach = record { callee = callee.Nothing; verdict = broken breach; found = x }

abbrev pub of_bad : Call
of_bad = record { callee = callee.Nothing; verdict = bad; found = None }

abbrev pub dynamic_call : Call
dynamic_call = record { callee = callee.Dynamic; verdict = unsafe_variant rule.UnsafeMethodAccess; found = None }

-- `new` of a class
abbrev pub construction : ℕ → Option MemberId → Call
construction class init = record { callee = callee.Constructor class init; verdict = fine (ty.Class class); found = None }

-- ---- functions of classes

-- a function without a written result gives Variant
abbrev pub result_of : Option Ty → Ty
result_of (Some t) = t
result_of None = ty.Variant

-- a call of a function; of `_init` it is marked
abbrev pub function_call : MemberId → Signature → Bool → Call
function_call id f is_init = record {
  callee = callee.Function id;
  verdict = record { ty = result_of f.result; finding = mark_if is_init };
  found = Some (found.Member id);
}

abbrev pub call_by : MemberId → Option Signature → Bool → Call → Call
call_by id (Some f) is_init otherwise = function_call id f is_init
call_by id None is_init otherwise = otherwise

-- a call of what was found, if it is a function
abbrev pub call_of : Declared → Option Found → Bool → Call → Call
call_of d (Some (found.Member id)) is_init otherwise = call_by id (function_at d id) is_init otherwise
call_of d x is_init otherwise = otherwise

-- of `self`, of a value that faces a class, and by `super`
abbrev pub self_call : Declared → Option Found → Bool → Call
self_call d x is_init = call_of d x is_init (refused None rule.NoMethod)

abbrev pub object_call : Declared → Option Found → Bool → Call
object_call d x is_init = call_of d x is_init dynamic_call

abbrev pub super_call : Declared → Option Found → Call
super_call d x = call_of d x false (refused None rule.NoBaseMethod)

-- of a class itself: a member of its instances is A25
abbrev pub names_instance : Declared → Option Found → Bool
names_instance d (Some x) = needs_instance d x
names_instance d None = false

abbrev pub class_call : Declared → Option Found → Bool → Call
class_call d x is_init =
    if names_instance d x then refused x rule.InstanceMemberThroughClass else call_of d x is_init (refused None rule.NoMethod)

-- ---- builtins

abbrev pub returned_type : Returned → Ty → Ty
returned_type r.Void receiver = ty.Void
returned_type r.Variant receiver = ty.Variant
returned_type r.Bool receiver = ty.Bool
returned_type r.Int receiver = ty.Int
returned_type r.Str receiver = ty.Str
returned_type r.Array receiver = ty.Array
returned_type r.Strings receiver = ty.ArrayOf ty.Str
returned_type r.Receiver receiver = receiver

abbrev pub is_array : Ty → Bool
is_array ty.Array = true
is_array t = false

-- the calls that are marked by their method: what is called is not known, or what the receiver takes
abbrev pub is_marked : Builtin → Ty → Bool
is_marked b.CallableCall receiver = true
is_marked b.SignalEmit receiver = true
is_marked b.ArrayAppendArray receiver = true
is_marked b.DictionaryGetOrAdd receiver = true
is_marked b.DictionaryMerge receiver = true
is_marked b.ArrayAppend receiver = is_array receiver
is_marked b.ArrayPushBack receiver = is_array receiver
is_marked b.ArrayPushFront receiver = is_array receiver
is_marked b.ArrayInsert receiver = is_array receiver
is_marked b.ArrayFill receiver = is_array receiver
is_marked self receiver = false

-- a call of a builtin, by its row
abbrev pub calls : Builtin → Callee
calls self = callee.Builtin self

abbrev pub builtin_verdict : Builtin → Row → Ty → Verdict
builtin_verdict self w receiver = record { ty = returned_type w.result receiver; finding = mark_if (is_marked self receiver) }

-- the method of the receiver's kind with this name; Variant, void and classes have none, and neither have null, bool and int
abbrev pub method_of : Option Kind → List ℕ → Option Builtin
method_of (Some kind) name = named (Some kind) name
method_of None name = None

abbrev pub method_named : Ty → List ℕ → Option Builtin
method_named receiver name = method_of (kind_of_type receiver) name

-- A20 where there is none
abbrev pub method_callee : Option Builtin → Callee
method_callee (Some self) = calls self
method_callee None = callee.Nothing

abbrev pub method_verdict : Option Builtin → Ty → Verdict
method_verdict (Some self) receiver = builtin_verdict self (row_of self) receiver
method_verdict None receiver = broken rule.NoMethod

-- ---- what is no name and no attribute

-- A21, unless it is Bad
abbrev pub called_value : Ty → Call
called_value ty.Bad = of_bad
called_value t = refused None rule.NotCallable

-- ---- numbers of arguments

-- too few, or more than there are parameters
abbrev pub is_wrong_for : Option Signature → ℕ → Bool
is_wrong_for (Some f) count = nat_lt count f.required || nat_lt (length f.parameters.items) count
is_wrong_for None count = false

abbrev pub is_wrong_for_row : Row → ℕ → Bool
is_wrong_for_row w count = nat_lt count (length w.required) || (not (is_some w.rest) && nat_lt (length w.optional) (count - length w.required))

abbrev pub is_wrong_number : Declared → Callee → ℕ → Bool
is_wrong_number d (callee.Function id) count = is_wrong_for (function_at d id) count
is_wrong_number d (callee.Constructor class (Some id)) count = is_wrong_for (function_at d id) count
is_wrong_number d (callee.Constructor class None) count = nat_lt 0 count
is_wrong_number d (callee.Builtin self) count = is_wrong_for_row (row_of self) count
is_wrong_number d callee.Dynamic count = false
is_wrong_number d callee.Nothing count = false

-- ---- a call with its arguments

-- the rules of a bare name hold whatever the arguments are
abbrev pub is_of_name : Rule → Bool
is_of_name rule.UnknownName = true
is_of_name rule.StaticCodeUsesInstance = true
is_of_name rule.TypeIsNoValue = true
is_of_name other = false

abbrev pub spoiled : Option Rule → Verdict
spoiled (Some x) = if is_of_name x then broken x else bad
spoiled None = bad

-- a wrong number of arguments (A15) leaves the type
abbrev pub counted : Verdict → Bool → Verdict
counted v is_wrong = record {
  ty = v.ty;
  finding = record { rule = if is_wrong then Some rule.WrongNumberOfArguments else v.finding.rule; warning = v.finding.warning; is_marked = v.finding.is_marked };
}

abbrev pub finished : Declared → Call → ℕ → Bool → Verdict
finished d call count has_bad_argument =
    if has_bad_argument then spoiled call.verdict.finding.rule else counted call.verdict (is_wrong_number d call.callee count)
