-- The expressions of statements, each where it stands, and the locals in force there: a local is in force from its
-- declaration to the end of its block, and an inner one hides an outer one of its name.
use Rattle.std.specs.Prelude.{◌==◌, Bool, true, false, List, [], ◌∷◌, ◌++◌, Option, None, Some, unwrap_or, if◌then◌else◌}
use Rattle.gd_members.specs.declared.Found.{Found}
use Rattle.gd_members.specs.declared.Found.TheVariants as found
use Rattle.gd_model.specs.declared.ty.Ty.{Ty}
use Rattle.gd_model.specs.declared.ty.Ty.TheVariants as ty
use Rattle.gd_syntax.specs.declared.operator.Operator.{Operator}
use Rattle.gd_syntax.specs.declared.pos.Pos.{Pos}
use Rattle.gd_typing.specs.Subscripts.{iterated, iterated_range}
use Rattle.syntax_trees.specs.Expressions.{Expr, ExprKind, Text, TypeName, expr}
use Rattle.syntax_trees.specs.Expressions as e
use Rattle.syntax_trees.specs.Patterns.{Entries, Pattern, PatternKind, Patterns, entry_and, key_and, no_entries, no_patterns, pattern, pattern_and}
use Rattle.syntax_trees.specs.Patterns as p
use Rattle.syntax_trees.specs.Statements.{Branches, Cases, Stmt, StmtKind, Stmts, Variable, branch_and, else_do, if_do}
use Rattle.syntax_trees.specs.Statements.{no_branches, no_else, no_stmts, stmt, stmt_and}
use Rattle.syntax_trees.specs.Statements as s
use Rattle.source_types.specs.Items.{constant_type}
use Rattle.source_types.specs.Judging.{judge, value_of}
use Rattle.source_types.specs.Parts.{Standing, all_if, all_in}
use Rattle.source_types.specs.Scopes.{Items, Local, Scope, Seen, plain}
use Rattle.source_types.specs.Written.{written_if}

-- ---- locals

abbrev pub with_local : Scope → Local → Scope
with_local c l = record c { locals = l ∷ c.locals }

-- no constant
abbrev pub local_of : Text → Pos → Ty → Local
local_of name pos t = record { name = name; pos = pos; typed = t; is_constant = false }

abbrev pub or_bad : Option Ty → Ty
or_bad t = unwrap_or t ty.Bad

abbrev pub value_at : Items → Scope → Option Ty → Expr → Ty
value_at items c place x = or_bad (value_of (judge items c place x))

abbrev pub written_at : Scope → Option TypeName → Option Ty
written_at c typed = written_if c.project c.class typed

-- the written type; by `:=` that of the value; else Variant
abbrev pub by_value : Items → Scope → Bool → Option Expr → Ty
by_value items c true (Some x) = value_at items c None x
by_value items c inferred x = ty.Variant

abbrev pub type_of : Items → Scope → Variable → Ty
type_of items c v = unwrap_or (written_at c v.typed) (by_value items c v.inferred v.value)

abbrev pub declare : Items → Scope → Variable → Scope
declare items c v = with_local c (local_of v.name v.pos (type_of items c v))

-- a constant is static code, and has the type of one of a class
abbrev pub fixed : Scope → Scope
fixed c = record c { is_static = true }

abbrev pub declare_constant : Items → Scope → Variable → Scope
declare_constant items c v = with_local c (record {
  name = v.name;
  pos = v.pos;
  typed = or_bad (constant_type items (fixed c) (c.made.goes_wrong_at v.pos) (written_at c v.typed) v.value);
  is_constant = true;
})

-- ---- patterns: a binding is in force from its place on

abbrev mutual
  pub behind_pattern : Scope → Pattern → Scope
  behind_pattern c (pattern pos kind) = behind_kind c pos kind

  pub behind_kind : Scope → Pos → PatternKind → Scope
  behind_kind c pos (p.bind name) = with_local c (local_of name pos ty.Variant)
  behind_kind c pos (p.items xs) = behind_patterns c xs
  behind_kind c pos (p.entries xs rests) = behind_entries c xs
  behind_kind c pos _ = c

  pub behind_patterns : Scope → Patterns → Scope
  behind_patterns c no_patterns = c
  behind_patterns c (pattern_and x xs) = behind_patterns (behind_pattern c x) xs

  pub behind_entries : Scope → Entries → Scope
  behind_entries c no_entries = c
  behind_entries c (key_and x xs) = behind_entries c xs
  behind_entries c (entry_and x y xs) = behind_entries (behind_pattern c y) xs

abbrev mutual
  pub in_pattern : Items → Scope → Pattern → List Standing
  in_pattern items c (pattern pos kind) = in_pattern_kind items c kind

  pub in_pattern_kind : Items → Scope → PatternKind → List Standing
  in_pattern_kind items c (p.value x) = all_in items c None x
  in_pattern_kind items c (p.items xs) = in_patterns items c xs
  in_pattern_kind items c (p.entries xs rests) = in_entries items c xs
  in_pattern_kind items c _ = []

  pub in_patterns : Items → Scope → Patterns → List Standing
  in_patterns items c no_patterns = []
  in_patterns items c (pattern_and x xs) = in_pattern items c x ++ in_patterns items (behind_pattern c x) xs

  pub in_entries : Items → Scope → Entries → List Standing
  in_entries items c no_entries = []
  in_entries items c (key_and x xs) = all_in items c None x ++ in_entries items c xs
  in_entries items c (entry_and x y xs) =
      all_in items c None x ++ in_pattern items c y ++ in_entries items (behind_pattern c y) xs

-- the patterns of a branch, in order
abbrev pub behind_all : Scope → List Pattern → Scope
behind_all c [] = c
behind_all c (x ∷ xs) = behind_all (behind_pattern c x) xs

abbrev pub in_all : Items → Scope → List Pattern → List Standing
in_all items c [] = []
in_all items c (x ∷ xs) = in_pattern items c x ++ in_all items (behind_pattern c x) xs

-- ---- loops

-- `range` has the number 5
abbrev pub is_range_found : Option Found → Bool
is_range_found (Some (found.Builtin number)) = number == 5
is_range_found x = false

-- a call of the builtin `range` by its name makes no array
abbrev pub is_range : Expr → Seen → Bool
is_range (expr pos (e.call (expr at (e.name name)) xs)) seen = is_range_found seen.found
is_range x seen = false

abbrev pub element_of : Bool → Ty → Ty
element_of is_range t = if is_range then (iterated_range t).ty else (iterated t).ty

-- the written type of the variable of a `for`, else that of what its subject goes over
abbrev pub loop_type : Items → Scope → Option TypeName → Expr → Ty
loop_type items c typed x =
    unwrap_or (written_at c typed)
    (element_of (is_range x (unwrap_or (judge items c None x) (plain ty.Bad))) (value_at items c None x))

-- ---- statements

-- a value goes to the place that its target is, but not where an operator makes another of the two
abbrev pub target_place : Items → Scope → Option Operator → Expr → Option Ty
target_place items c None x = Some (unwrap_or (judge items c None x) (plain ty.Bad)).typed
target_place items c (Some op) x = None

-- the scope behind a statement
abbrev pub behind : Items → Scope → Stmt → Scope
behind items c (stmt pos last notes (s.local v)) = declare items c v
behind items c (stmt pos last notes (s.local_const v)) = declare_constant items c v
behind items c x = c

abbrev mutual
  -- in a function that returns this type, if one is written
  pub in_statement : Items → Scope → Option Ty → Stmt → List Standing
  in_statement items c returned (stmt pos last notes kind) = in_kind items c returned kind

  pub in_kind : Items → Scope → Option Ty → StmtKind → List Standing
  in_kind items c returned (s.return x) = all_if items c returned x
  in_kind items c returned (s.plain x) = all_in items c None x
  in_kind items c returned (s.assign op at target x) =
      all_in items c None target ++ all_in items c (target_place items c op target) x
  in_kind items c returned (s.local v) = all_if items c (written_at c v.typed) v.value
  in_kind items c returned (s.local_const v) = all_if items (fixed c) (written_at c v.typed) v.value
  in_kind items c returned (s.choice cases) = in_cases items c returned cases
  in_kind items c returned (s.while x body) = all_in items c None x ++ in_block items c returned body
  in_kind items c returned (s.for name pos typed at x body) =
      all_in items c None x
      ++ in_block items (with_local c (local_of name pos (loop_type items c typed x))) returned body
  in_kind items c returned (s.match x branches) = all_in items c None x ++ in_branches items c returned branches
  in_kind items c returned (s.assert x message) = all_in items c None x ++ all_if items c None message
  in_kind items c returned _ = []

  pub in_block : Items → Scope → Option Ty → Stmts → List Standing
  in_block items c returned no_stmts = []
  in_block items c returned (stmt_and x xs) =
      in_statement items c returned x ++ in_block items (behind items c x) returned xs

  pub in_cases : Items → Scope → Option Ty → Cases → List Standing
  in_cases items c returned no_else = []
  in_cases items c returned (else_do body) = in_block items c returned body
  in_cases items c returned (if_do x body more) =
      all_in items c None x ++ in_block items c returned body ++ in_cases items c returned more

  -- the bindings of a branch are in force in its guard and its block
  pub in_branches : Items → Scope → Option Ty → Branches → List Standing
  in_branches items c returned no_branches = []
  in_branches items c returned (branch_and patterns guard body more) =
      in_all items c patterns ++ all_if items (behind_all c patterns) None guard
      ++ in_block items (behind_all c patterns) returned body ++ in_branches items c returned more
