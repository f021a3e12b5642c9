-- What names are, by what they are found to be, and `self`.
use Rattle.std.specs.Prelude.{ℕ, ◌+◌, ◌==◌, Bool, true, false, ◌||◌, nat_lt, Option, None, Some, if◌then◌else◌}
use Rattle.gd_members.specs.declared.Found.{Found}
use Rattle.gd_members.specs.declared.Found.TheVariants as found
use Rattle.gd_members.specs.declared.Item.{Item}
use Rattle.gd_members.specs.declared.MemberId.{MemberId}
use Rattle.gd_model.specs.declared.ty.Ty.{Ty}
use Rattle.gd_model.specs.declared.ty.Ty.TheVariants as ty
use Rattle.gd_rules.specs.declared.rule.Rule.TheVariants as rule
use Rattle.gd_typing.specs.declared.declared.Declared.{Declared}
use Rattle.gd_typing.specs.declared.member.Member.{Member}
use Rattle.gd_typing.specs.declared.member.Member.TheVariants as m
use Rattle.gd_typing.specs.declared.member.Typing.{Typing}
use Rattle.gd_typing.specs.declared.member.Typing.TheVariants as typing
use Rattle.gd_typing.specs.declared.names.Source.{Source}
use Rattle.gd_typing.specs.declared.names.Source.TheVariants as source
use Rattle.gd_typing.specs.declared.verdict.Verdict.{Verdict}
use Rattle.gd_typing.specs.Members.{member_at}
use Rattle.gd_typing.specs.Verdicts.{broken, fine}

-- `self` is an object of the class, and static code has none (A24)
abbrev pub me : ℕ → Bool → Verdict
me class is_static = if is_static then broken rule.StaticCodeUsesInstance else fine (ty.Class class)

-- the numbers of builtins that are types: `int`, `bool`, and those from 1,100 on
abbrev pub is_type : ℕ → Bool
is_type number = (number == 20) || (number == 21) || nat_lt 1099 number

-- by itself a type is A42, a constant, from 1,000 on, an int, and a function A29
abbrev pub builtin_name : ℕ → Verdict
builtin_name number =
    if is_type number then broken rule.TypeIsNoValue
    else (if nat_lt 999 number then fine ty.Int else broken rule.NotAValue)

-- ---- members and classes

abbrev pub item_of : MemberId → Item
item_of id = record { member = id; value = 0 }

-- the type of a variable: that of its item where it is declared by `:=`
abbrev pub by_typing : MemberId → Typing → Source
by_typing id typing.Untyped = source.Judged (fine ty.Variant)
by_typing id (typing.Written t) = source.Judged (fine t)
by_typing id typing.Inferred = source.Of (item_of id)

-- what a member is: constants are items, and the name of an enum is a Dictionary of all its values
abbrev pub by_member : MemberId → Option Member → Source
by_member id (Some (m.Variable is_static how)) = by_typing id how
by_member id (Some (m.Constant written)) = source.Of (item_of id)
by_member id (Some (m.Function f)) = source.Judged (fine ty.Callable)
by_member id (Some (m.Signal count)) = source.Judged (fine ty.Signal)
by_member id (Some (m.Enum names)) = source.Values id
by_member id member = source.Judged (fine ty.Bad)

-- what a found name is
abbrev pub source_of : Declared → Found → Source
source_of d (found.Member id) = by_member id (member_at d id)
source_of d (found.EnumValue id place) = source.Of (record { member = id; value = place + 1 })
source_of d (found.Class class) = source.Judged (fine (ty.Meta class))
source_of d (found.Builtin number) = source.Judged (builtin_name number)
source_of d found.Missing = source.Judged (broken rule.UnknownName)
