-- What constants are made of: literals, other constants, enums and classes, operators, subscripts and attributes.
use Rattle.std.specs.Prelude.{Bool, true, false, ◌&&◌, Option, None, Some, is_some}
use Rattle.gd_members.specs.declared.Found.{Found}
use Rattle.gd_members.specs.declared.Found.TheVariants as found
use Rattle.syntax_trees.specs.Declarations.{DeclKind}
use Rattle.syntax_trees.specs.Declarations as d
use Rattle.syntax_trees.specs.Expressions.{Expr, ExprKind, Exprs, Pairs, expr, expr_and, no_exprs, no_pairs, pair_and}
use Rattle.syntax_trees.specs.Expressions as e
use Rattle.value_semantics.specs.Constants as constants
use Rattle.source_types.specs.Judging.{judge}
use Rattle.source_types.specs.Knowing.{known_then}
use Rattle.source_types.specs.Projects.{Project, declared}
use Rattle.source_types.specs.Scopes.{Items, Local, Scope, Seen}

abbrev pub is_fixed_member : Option DeclKind → Bool
is_fixed_member (Some (d.constant v)) = true
is_fixed_member (Some (d.enum name values)) = true
is_fixed_member _ = false

-- whether what was found is a constant, an enum, one of its values, or a class
abbrev pub is_fixed_found : Project → Found → Bool
is_fixed_found p (found.Member id) = is_fixed_member (declared p id)
is_fixed_found p (found.EnumValue id place) = true
is_fixed_found p (found.Class class) = true
is_fixed_found p (found.Builtin number) = is_some (constants.value_of number)
is_fixed_found p found.Missing = false

-- of a name: a local constant, or what was found
abbrev pub fixed_name : Project → Option Local → Option Found → Bool
fixed_name p (Some l) x = l.is_constant
fixed_name p None (Some x) = is_fixed_found p x
fixed_name p None None = false

-- of an attribute: where nothing was found it is looked up in a dictionary
abbrev pub fixed_attribute : Project → Option Found → Bool
fixed_attribute p (Some x) = is_fixed_found p x
fixed_attribute p None = true

abbrev pub both : Option Bool → Option Bool → Option Bool
both x y = known_then x (λ a. known_then y (λ b. Some (a && b)))

unfoldable mutual
  -- whether an expression is constant
  pub is_fixed : Items → Scope → Expr → Option Bool
  is_fixed items c (expr pos kind) = fixed_kind items c (judge items c None (expr pos kind)) kind

  pub fixed_kind : Items → Scope → Option Seen → ExprKind → Option Bool
  fixed_kind items c seen (e.name name) = known_then seen (λ x. Some (fixed_name c.project x.local x.found))
  fixed_kind items c seen (e.attr x name) =
      both (is_fixed items c x) (known_then seen (λ x. Some (fixed_attribute c.project x.found)))
  fixed_kind items c seen e.me = Some false
  fixed_kind items c seen (e.call f xs) = Some false
  fixed_kind items c seen (e.super word name xs) = Some false
  fixed_kind items c seen (e.array_lit xs) = all_fixed items c xs
  fixed_kind items c seen (e.dict_lit xs) = all_pairs_fixed items c xs
  fixed_kind items c seen (e.unary op x) = is_fixed items c x
  fixed_kind items c seen (e.binary op x y) = both (is_fixed items c x) (is_fixed items c y)
  fixed_kind items c seen (e.and x y) = both (is_fixed items c x) (is_fixed items c y)
  fixed_kind items c seen (e.or x y) = both (is_fixed items c x) (is_fixed items c y)
  fixed_kind items c seen (e.choose x q y) =
      both (is_fixed items c x) (both (is_fixed items c q) (is_fixed items c y))
  fixed_kind items c seen (e.cast x t) = is_fixed items c x
  fixed_kind items c seen (e.test x t negated) = is_fixed items c x
  fixed_kind items c seen (e.index x i) = both (is_fixed items c x) (is_fixed items c i)
  fixed_kind items c seen _ = Some true

  pub all_fixed : Items → Scope → Exprs → Option Bool
  all_fixed items c no_exprs = Some true
  all_fixed items c (expr_and x xs) = both (is_fixed items c x) (all_fixed items c xs)

  pub all_pairs_fixed : Items → Scope → Pairs → Option Bool
  all_pairs_fixed items c no_pairs = Some true
  all_pairs_fixed items c (pair_and x y xs) =
      both (is_fixed items c x) (both (is_fixed items c y) (all_pairs_fixed items c xs))
