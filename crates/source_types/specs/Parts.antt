-- The expressions in an expression, each with the type of the place that it is the value of, if that is a known one.
use Rattle.std.specs.Prelude.{ℕ, ◌+◌, List, [], ◌∷◌, ◌++◌, Option, None, Some, unwrap_or}
use Rattle.gd_model.specs.declared.ty.Ty.{Ty}
use Rattle.gd_model.specs.declared.ty.Ty.TheVariants as ty
use Rattle.gd_typing.specs.Literals.{element_place, key_place, value_place}
use Rattle.syntax_trees.specs.Expressions.{Expr, ExprKind, Exprs, Pairs, Text, expr, expr_and, no_exprs, no_pairs, pair_and}
use Rattle.syntax_trees.specs.Expressions as e
use Rattle.source_types.specs.Calls.{Call, argument_place, call_attribute, call_global, call_super, refused}
use Rattle.source_types.specs.Judging.{judge}
use Rattle.source_types.specs.Names.{before_dot, receiver}
use Rattle.source_types.specs.Scopes.{Items, Local, Scope, Seen, local_in, plain}

-- an expression where it stands
pub record Standing : Type 0 where
  pub scope : Scope
  pub place : Option Ty
  pub whole : Expr

-- what it is seen to be
abbrev pub seen_at : Items → Standing → Option Seen
seen_at items s = judge items s.scope s.place s.whole

-- where the arguments of a call go
abbrev pub Places : Type 0
Places = ℕ → Option Ty

abbrev pub call_of_name : Scope → Text → Option Local → Call
call_of_name c name (Some l) = refused None
call_of_name c name None = call_global c (c.project.find c.class name)

abbrev pub places_of_name : Scope → Text → Places
places_of_name c name = argument_place c (call_of_name c name (local_in name c.locals)).callee None

abbrev pub places_of_attribute : Scope → Expr → Text → Seen → Places
places_of_attribute c x name seen =
    argument_place c (call_attribute c.project (receiver c x seen) name).callee (Some seen.typed)

abbrev pub before_it : Option Seen → Seen
before_it seen = before_dot (unwrap_or seen (plain ty.Bad))

abbrev mutual
  pub all_in : Items → Scope → Option Ty → Expr → List Standing
  all_in items c place (expr pos kind) =
      record { scope = c; place = place; whole = expr pos kind } ∷ parts_in items c place kind

  -- a name that is called is none of them, and neither is an attribute, but what stands before its dot is
  pub parts_in : Items → Scope → Option Ty → ExprKind → List Standing
  parts_in items c place (e.array_lit xs) = all_of items c (λ _. element_place place) 0 xs
  parts_in items c place (e.dict_lit xs) = pairs_of items c (key_place place) (value_place place) xs
  parts_in items c place (e.unary op x) = all_in items c None x
  parts_in items c place (e.binary op x y) = all_in items c None x ++ all_in items c None y
  parts_in items c place (e.and x y) = all_in items c None x ++ all_in items c None y
  parts_in items c place (e.or x y) = all_in items c None x ++ all_in items c None y
  parts_in items c place (e.choose x q y) = all_in items c None x ++ all_in items c None q ++ all_in items c None y
  parts_in items c place (e.cast x t) = all_in items c None x
  parts_in items c place (e.test x t negated) = all_in items c None x
  parts_in items c place (e.attr x name) = all_in items c None x
  parts_in items c place (e.index x i) = all_in items c None x ++ all_in items c None i
  parts_in items c place (e.call (expr at (e.name name)) xs) = all_of items c (places_of_name c name) 0 xs
  parts_in items c place (e.call (expr at (e.attr x name)) xs) =
      all_in items c None x
      ++ all_of items c (places_of_attribute c x name (before_it (judge items c None x))) 0 xs
  parts_in items c place (e.call f xs) = all_in items c None f ++ all_of items c (λ _. None) 0 xs
  parts_in items c place (e.super word name xs) =
      all_of items c (argument_place c (call_super c name).callee None) 0 xs
  parts_in items c place _ = []

  pub all_of : Items → Scope → Places → ℕ → Exprs → List Standing
  all_of items c places index no_exprs = []
  all_of items c places index (expr_and x xs) =
      all_in items c (places index) x ++ all_of items c places (index + 1) xs

  pub pairs_of : Items → Scope → Option Ty → Option Ty → Pairs → List Standing
  pairs_of items c key value no_pairs = []
  pairs_of items c key value (pair_and x y xs) =
      all_in items c key x ++ all_in items c value y ++ pairs_of items c key value xs

-- where there is one
abbrev pub all_if : Items → Scope → Option Ty → Option Expr → List Standing
all_if items c place None = []
all_if items c place (Some x) = all_in items c place x
