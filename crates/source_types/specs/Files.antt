-- The project that the trees of files make: its classes with their numbers, and what each declares.
use Rattle.std.specs.Prelude.{ℕ, ◌+◌, List, [], ◌∷◌, ◌++◌, length, map, Option, None, Some, option_map, option_and_then}
use Rattle.std.specs.Option.{option_map_or}
use Rattle.gd_members.specs.declared.Found.TheVariants as found
use Rattle.gd_syntax.specs.declared.pos.Pos.{Pos}
use Rattle.gd_names.specs.Bases.{names_in}
use Rattle.gd_names.specs.Projects.{Class, Declared, Listing, Way, member_at}
use Rattle.gd_names.specs.Projects as sort
use Rattle.syntax_trees.specs.Declarations.{ClassDecl, Decl, DeclKind, Decls, class_decl, class_name, decl, decl_and, decl_list, no_decls}
use Rattle.syntax_trees.specs.Declarations as d
use Rattle.syntax_trees.specs.Expressions.{Expr, ExprKind, Text, expr}
use Rattle.syntax_trees.specs.Expressions as e
use Rattle.syntax_trees.specs.Statements.{Variable}
use Rattle.source_types.specs.Projects.{EnumValue, Project, project_by}

-- ---- the class that a constant may hold

abbrev mutual
  -- a name or a `preload`, with names behind dots
  pub way_by : Expr → Option Way
  way_by (expr pos kind) = way_by_kind kind

  pub way_by_kind : ExprKind → Option Way
  way_by_kind (e.name name) = Some (record { path = None; names = name ∷ [] })
  way_by_kind (e.preload path) = Some (record { path = Some path; names = [] })
  way_by_kind (e.attr x name) =
      option_map (λ (w : Way). record { path = w.path; names = w.names ++ name ∷ [] }) (way_by x)
  way_by_kind _ = None

-- a constant with a written type holds no class
abbrev pub way_of : Variable → Option Way
way_of v = option_map_or (λ _. None) v.typed (option_and_then way_by v.value)

-- ---- the names that a class declares

-- the values of an enum without a name, from the one with this place on
abbrev pub values_from : ℕ → ℕ → ℕ → List EnumValue → List Declared
values_from class index place [] = []
values_from class index place (v ∷ vs) = record {
  name = v.0;
  pos = v.1;
  sort = sort.enum_value;
  found = found.EnumValue (record { class = class; index = index }) place;
} ∷ values_from class index (place + 1) vs

abbrev pub of_class : ℕ → Pos → Option Text → List Declared
of_class inner pos None = []
of_class inner pos (Some name) = record {
  name = name;
  pos = pos;
  sort = sort.class_name;
  found = found.Class inner;
} ∷ []

abbrev pub class_place : ClassDecl → Pos
class_place (class_decl name pos base members tokens) = pos

-- those of the member with this place; an inner class there has the number `inner`
abbrev pub names_of : ℕ → ℕ → ℕ → DeclKind → List Declared
names_of class index inner (d.variable v) =
    member_at v.variable.name v.variable.pos (sort.variable v.variable.is_static) class index ∷ []
names_of class index inner (d.constant v) = member_at v.name v.pos (sort.constant (way_of v)) class index ∷ []
names_of class index inner (d.function f) = member_at f.name f.pos (sort.function f.is_static) class index ∷ []
names_of class index inner (d.signal name pos params) = member_at name pos sort.signal class index ∷ []
names_of class index inner (d.enum (Some n) values) = member_at n.0 n.1 sort.enum_name class index ∷ []
names_of class index inner (d.enum None values) = values_from class index 0 values
names_of class index inner (d.class c) = of_class inner (class_place c) (class_name c)
names_of class index inner d.nothing = []

-- ---- classes

-- a class with its declarations
abbrev pub Listed : Type 0
Listed = Class × List Decl

-- the classes in a class, and the names that it declares
pub record Inside : Type 0 where
  pub classes : List Listed
  pub declared : List Declared

abbrev pub before : List Listed → List Declared → Inside → Inside
before classes names rest = record { classes = classes ++ rest.classes; declared = names ++ rest.declared }

abbrev mutual
  -- The class and all in it, an outer class before its inner ones, by the file, the number of the class around it and its
  -- own. What only the faults of names ask for is left out.
  pub classes_in : ℕ → ℕ → ℕ → ClassDecl → List Listed
  classes_in file outer number (class_decl name pos base members tokens) =
      let inside = members_in file number 0 (number + 1) members in (
        record {
          file = file;
          outer = outer;
          name = name;
          pos = pos;
          base = base;
          declared = inside.declared;
          enums = [];
          preloads = [];
        },
        decl_list members,
      ) ∷ inside.classes

  -- the members of a class from this place on, the next class having this number
  pub members_in : ℕ → ℕ → ℕ → ℕ → Decls → Inside
  members_in file class place next no_decls = record { classes = []; declared = [] }
  members_in file class place next (decl_and (decl pos last notes kind) xs) =
      let found = classes_of file class next kind in
      before found (names_of class place next kind) (members_in file class (place + 1) (next + length found) xs)

  pub classes_of : ℕ → ℕ → ℕ → DeclKind → List Listed
  classes_of file outer number (d.class c) = classes_in file outer number c
  classes_of file outer number _ = []

abbrev pub files_from : ℕ → List Listed → List (List ℕ × ClassDecl) → List Listed
files_from place found [] = found
files_from place found (file ∷ files) =
    files_from (place + 1) (found ++ classes_in place 0 (length found + 1) file.1) files

-- the files, each with the bytes of its path and its tree, by rising paths
abbrev pub project_of : List (List ℕ × ClassDecl) → Project
project_of files =
    let all = files_from 0 [] files in
    project_by (names_in (record { paths = map (λ file. file.0) files; classes = map (λ (x : Listed). x.0) all }))
    (map (λ (x : Listed). x.1) all)
