-- The type of an expression, given the types of items and where it stands; None where it is not known yet. It is known
-- only where the types of all items that it names are, and it is Bad where a part is.
use Rattle.std.specs.Prelude.{ℕ, ◌+◌, Bool, false, ◌||◌, Option, None, Some}
use Rattle.gd_members.specs.declared.Found.{Found}
use Rattle.gd_model.specs.declared.ty.Ty.{Ty}
use Rattle.gd_model.specs.declared.ty.Ty.TheVariants as ty
use Rattle.gd_syntax.specs.declared.pos.Pos.{Pos}
use Rattle.gd_typing.specs.Conversions.{cast, test}
use Rattle.gd_typing.specs.Literals.{array_literal, dictionary_literal, element_place, key_place, value_place}
use Rattle.gd_typing.specs.Names.{me}
use Rattle.gd_typing.specs.Operators.{binary, choose, is_bad, logic, unary}
use Rattle.gd_typing.specs.Subscripts.{subscript}
use Rattle.syntax_trees.specs.Expressions.{Expr, ExprKind, Exprs, Pairs, Text, TypeName, expr, expr_and, no_exprs, no_pairs, pair_and}
use Rattle.syntax_trees.specs.Expressions as e
use Rattle.source_types.specs.Calls.{Call, Callee, argument_place, call_attribute, call_global, call_super, finished, refused}
use Rattle.source_types.specs.Knowing.{known_then}
use Rattle.source_types.specs.Names.{before_dot, receiver, see_attribute, see_name, source_of, type_from}
use Rattle.source_types.specs.Scopes.{Items, Local, Scope, Seen, judged, local_in, plain}
use Rattle.source_types.specs.Written.{written}

-- where a value is needed, void and a class itself are none (A29)
abbrev pub as_value : Ty → Ty
as_value ty.Void = ty.Bad
as_value (ty.Meta c) = ty.Bad
as_value t = t

abbrev pub value_of : Option Seen → Option Ty
value_of seen = known_then seen (λ x. Some (as_value x.typed))

-- an operation on one value, on two and on three
abbrev pub on_one : Option Ty → (Ty → Seen) → Option Seen
on_one x makes = known_then x (λ s. Some (makes s))

abbrev pub on_two : Option Ty → Option Ty → (Ty → Ty → Seen) → Option Seen
on_two x y makes = known_then x (λ s. known_then y (λ t. Some (makes s t)))

abbrev pub on_three : Option Ty → Option Ty → Option Ty → (Ty → Ty → Ty → Seen) → Option Seen
on_three x y z makes = known_then x (λ s. known_then y (λ t. known_then z (λ u. Some (makes s t u))))

-- whether a part or one of the others is Bad
abbrev pub either_bad : Option Ty → Option Bool → Option Bool
either_bad x others = known_then x (λ t. known_then others (λ b. Some (is_bad t || b)))

-- the class that a path names (A01)
abbrev pub preloaded : Option ℕ → Ty
preloaded (Some class) = ty.Meta class
preloaded None = ty.Bad

-- a call of a local is none (A21), but its name means the local
abbrev pub local_call : Option Bool → Local → Option Seen
local_call has_bad l = known_then has_bad (λ b. Some (record { typed = ty.Bad; found = None; local = Some l }))

-- whether an argument is Bad, given what is called and the type of the receiver
abbrev pub Arguments : Type 0
Arguments = Callee → Option Ty → Option Bool

abbrev pub with_arguments : Call → Option Ty → Arguments → Option Seen
with_arguments call t arguments = known_then (arguments call.callee t) (λ b. Some (finished call b))

-- the type of what the name stands for is needed, also where that may not be called
abbrev pub global_call : Items → Scope → Found → Arguments → Option Seen
global_call items c x arguments =
    known_then (type_from items (source_of c.project x)) (λ _. with_arguments (call_global c x) None arguments)

abbrev pub name_call : Items → Scope → Text → Option Local → Arguments → Option Seen
name_call items c name (Some l) arguments = local_call (arguments (refused None).callee None) l
name_call items c name None arguments = global_call items c (c.project.find c.class name) arguments

abbrev pub attribute_call : Scope → Expr → Text → Arguments → Seen → Option Seen
attribute_call c x name arguments seen =
    with_arguments (call_attribute c.project (receiver c x seen) name) (Some seen.typed) arguments

unfoldable mutual
  -- what an expression is, as the value of a place with this type, if it is that of a known one
  pub judge : Items → Scope → Option Ty → Expr → Option Seen
  judge items c place (expr pos kind) = judge_kind items c pos place kind

  -- one case for each form
  pub judge_kind : Items → Scope → Pos → Option Ty → ExprKind → Option Seen
  judge_kind items c pos place e.null = Some (plain ty.Nil)
  judge_kind items c pos place (e.bool b) = Some (plain ty.Bool)
  judge_kind items c pos place (e.int n) = Some (plain ty.Int)
  judge_kind items c pos place (e.str t) = Some (plain ty.Str)
  judge_kind items c pos place (e.name name) = see_name items c name
  judge_kind items c pos place e.me = Some (judged (me c.class c.is_static))
  judge_kind items c pos place (e.array_lit xs) =
      known_then (any_bad items c (λ _. element_place place) 0 xs) (λ bad. Some (judged (array_literal place bad)))
  judge_kind items c pos place (e.dict_lit xs) =
      known_then (any_pair_bad items c (key_place place) (value_place place) xs)
      (λ bad. Some (judged (dictionary_literal place (bad || c.made.repeats_key pos))))
  judge_kind items c pos place (e.unary op x) =
      on_one (value_of (judge items c None x)) (λ s. judged (unary op s))
  judge_kind items c pos place (e.binary op x y) =
      on_two (value_of (judge items c None x)) (value_of (judge items c None y)) (λ s t. judged (binary op s t))
  judge_kind items c pos place (e.and x y) =
      on_two (value_of (judge items c None x)) (value_of (judge items c None y)) (λ s t. judged (logic s t))
  judge_kind items c pos place (e.or x y) =
      on_two (value_of (judge items c None x)) (value_of (judge items c None y)) (λ s t. judged (logic s t))
  judge_kind items c pos place (e.choose x q y) =
      on_three (value_of (judge items c None x)) (value_of (judge items c None q)) (value_of (judge items c None y))
      (λ s t u. judged (choose c.project.bases s t u))
  judge_kind items c pos place (e.cast x t) =
      on_one (value_of (judge items c None x)) (λ s. judged (cast c.project.bases s (written c.project c.class t)))
  judge_kind items c pos place (e.test x t negated) =
      on_one (value_of (judge items c None x)) (λ s. judged (test c.project.bases s (written c.project c.class t)))
  judge_kind items c pos place (e.attr x name) =
      known_then (judge items c None x) (λ seen.
      see_attribute items c.project (receiver c x (before_dot seen)) name)
  judge_kind items c pos place (e.index x i) =
      on_two (value_of (judge items c None x)) (value_of (judge items c None i))
      (λ s t. judged (subscript c.project.bases s t))
  -- what is called is a bare name, or an attribute; nothing else may be (A21)
  judge_kind items c pos place (e.call (expr at (e.name name)) xs) =
      name_call items c name (local_in name c.locals) (λ callee t. any_bad items c (argument_place c callee t) 0 xs)
  judge_kind items c pos place (e.call (expr at (e.attr x name)) xs) =
      known_then (judge items c None x) (λ seen.
      attribute_call c x name (λ callee t. any_bad items c (argument_place c callee t) 0 xs) (before_dot seen))
  judge_kind items c pos place (e.call f xs) =
      known_then (judge items c None f) (λ _.
      with_arguments (refused None) None (λ callee t. any_bad items c (argument_place c callee t) 0 xs))
  judge_kind items c pos place (e.super word name xs) =
      with_arguments (call_super c name) None (λ callee t. any_bad items c (argument_place c callee t) 0 xs)
  judge_kind items c pos place (e.preload path) = Some (plain (preloaded (c.project.preloaded c.class path)))

  -- whether one of these is Bad, each the value of the place with its index
  pub any_bad : Items → Scope → (ℕ → Option Ty) → ℕ → Exprs → Option Bool
  any_bad items c places index no_exprs = Some false
  any_bad items c places index (expr_and x xs) =
      either_bad (value_of (judge items c (places index) x)) (any_bad items c places (index + 1) xs)

  pub any_pair_bad : Items → Scope → Option Ty → Option Ty → Pairs → Option Bool
  any_pair_bad items c key value no_pairs = Some false
  any_pair_bad items c key value (pair_and x y xs) =
      either_bad (value_of (judge items c key x)) (either_bad (value_of (judge items c value y))
      (any_pair_bad items c key value xs))
