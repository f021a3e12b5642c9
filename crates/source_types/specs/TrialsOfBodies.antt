-- Bodies tried: all expressions of small projects, with the locals in force.
use Rattle.std.specs.Prelude.{◌≡◌, false, List, [], ◌∷◌, Option, None, Some, map, codes, option_map}
use Rattle.gd_model.specs.declared.ty.Ty.{Ty}
use Rattle.gd_model.specs.declared.ty.Ty.TheVariants as ty
use Rattle.syntax_trees.specs.Declarations as d
use Rattle.syntax_trees.specs.Patterns.{pattern}
use Rattle.syntax_trees.specs.Patterns as p
use Rattle.syntax_trees.specs.Statements.{Stmt, StmtKind, branch_and, no_branches, stmt, stmts}
use Rattle.syntax_trees.specs.Statements as s
use Rattle.source_types.specs.Files.{project_of}
use Rattle.source_types.specs.Parts.{Standing}
use Rattle.source_types.specs.Projects.{Project}
use Rattle.source_types.specs.Scopes.{Seen}
use Rattle.source_types.specs.Whole.{expressions, seen_in}
use Rattle.source_types.specs.Words.{call, class, declares, here, infers, number, well, word}

abbrev pub does : StmtKind → Stmt
does kind = stmt here here [] kind

-- the types of all expressions, in order
abbrev pub all_types : Project → List (Option Ty)
all_types project =
    map (λ (s : Standing). option_map (λ (x : Seen). x.typed) (seen_in project well s)) (expressions project well)

-- ---- func f(n := 1, m = n):
-- ----     for i in range(n):
-- ----         var n := str(i)
-- ----         n
-- ----     n
-- ----     m

abbrev pub shadows : Project
shadows = project_of ((
  codes "a.gd",
  class None None (declares (d.function (record {
    name = codes "f";
    pos = here;
    is_static = false;
    params = infers (codes "n") (number 1) ∷ record (infers (codes "m") (word (codes "n"))) { inferred = false } ∷ [];
    result = None;
    body = stmts (does (s.for (codes "i") here None here (call (word (codes "range")) (word (codes "n") ∷ []))
        (stmts (does (s.local (infers (codes "n") (call (word (codes "str")) (word (codes "i") ∷ []))))
        ∷ does (s.plain (word (codes "n"))) ∷ [])))
        ∷ does (s.plain (word (codes "n"))) ∷ does (s.plain (word (codes "m"))) ∷ []);
    tokens = 0;
  })) ∷ []),
) ∷ [])

-- 1, n; range(n), n; str(i), i; n in the loop; n and m behind it
abbrev pub InnerHidesOuter : Type 0
InnerHidesOuter = all_types shadows ≡ Some ty.Int ∷ Some ty.Int ∷ Some ty.Array ∷ Some ty.Int ∷ Some ty.Str ∷ Some ty.Int
    ∷ Some ty.Str ∷ Some ty.Int ∷ Some ty.Variant ∷ []

-- ---- var v := 1:
-- ----     set(x): v = x
-- ---- func f():
-- ----     const C = 2
-- ----     match v:
-- ----         var w when w: C

abbrev pub binds : Project
binds = project_of ((
  codes "a.gd",
  class None None (declares (d.variable (record {
    variable = infers (codes "v") (number 1);
    setter = Some (d.body (Some (codes "x")) (stmts (does (s.assign None here (word (codes "v")) (word (codes "x"))) ∷ [])) here 0);
    getter = None;
  })) ∷ declares (d.function (record {
    name = codes "f";
    pos = here;
    is_static = false;
    params = [];
    result = None;
    body = stmts (does (s.local_const (record (infers (codes "C") (number 2)) { inferred = false }))
        ∷ does (s.match (word (codes "v")) (branch_and (pattern here (p.bind (codes "w")) ∷ []) (Some (word (codes "w")))
        (stmts (does (s.plain (word (codes "C"))) ∷ [])) no_branches)) ∷ []);
    tokens = 0;
  })) ∷ []),
) ∷ [])

-- 1; v, x; 2; v; w; C
abbrev pub BindsInBranch : Type 0
BindsInBranch = all_types binds ≡ Some ty.Int ∷ Some ty.Int ∷ Some ty.Int ∷ Some ty.Int ∷ Some ty.Int ∷ Some ty.Variant
    ∷ Some ty.Int ∷ []
