-- The classes of a project, and what each declares.
use Rattle.std.specs.Prelude.{ℕ, ◌+◌, ◌-◌, Bool, ◌&&◌, if◌then◌else◌, ◌==◌, List, [], ◌∷◌, ◌++◌, length, fold, map, Option, None, Some, option_map, option_and_then, slice_get}
use Rattle.std.specs.List.{flat_map}
use Rattle.std.specs.Option.{option_map_or}
use Prim.Native.Nat.{zero, suc}
use Rattle.gd_members.specs.declared.Found.{Found}
use Rattle.gd_members.specs.declared.Found.TheVariants as found
use Rattle.gd_syntax.specs.declared.pos.Pos.{Pos}
use Rattle.gd_syntax.specs.declared.tree.decl.BaseName.{BaseName}
use Rattle.gd_syntax.specs.declared.tree.decl.ClassDecl.{ClassDecl, out-ClassDecl, size-ClassDecl}
use Rattle.gd_syntax.specs.declared.tree.decl.DeclKind.{DeclKind}
use Rattle.gd_syntax.specs.declared.tree.decl.DeclKind.TheVariants as d
use Rattle.gd_syntax.specs.declared.tree.expr.Expr.{Expr, out-Expr, size-Expr}
use Rattle.gd_syntax.specs.declared.tree.expr.ExprKind.{out-ExprKind}
use Rattle.gd_syntax.specs.declared.tree.expr.ExprKind.TheOpen.{ExprKind-F}
use Rattle.gd_syntax.specs.declared.tree.stmt.VarDecl.{VarDecl, out-VarDecl}
use Rattle.gd_names.specs.Preloads.{preloads_of}
use Rattle.gd_names.specs.Trees.{ExprLayer, Project, Text, kind_of, members_of}

-- ---- what the analysis of names sees of a class

-- a way to a class: a path or none, and names between dots
pub record Way : Type 0 where
  pub path : Option Text
  pub names : List Text

-- what a member is, as far as look-ups ask
pub data Sort : Type 0 where
  -- a variable, a function, and whether it is static
  variable : Bool → Sort
  function : Bool → Sort
  signal : Sort
  -- a constant, with the way to the class that it may hold
  constant : Option Way → Sort
  -- an enum, or a value of an enum without a name
  enum_name : Sort
  enum_value : Sort
  class_name : Sort

-- a name that a class declares: its place, what it is, and what it is found as
pub record Declared : Type 0 where
  pub name : Text
  pub pos : Pos
  pub sort : Sort
  pub found : Found

-- a class: the place of its file among the files, the number of the class around it (0 for the class of a file), its name
-- and place, its base, the names that it declares, the values of each of its named enums, and the paths that it preloads,
-- those in its inner classes aside
pub record Class : Type 0 where
  pub file : ℕ
  pub outer : ℕ
  pub name : Option Text
  pub pos : Pos
  pub base : Option BaseName
  pub declared : List Declared
  pub enums : List (List (Text × Pos))
  pub preloads : List (Pos × Text)

-- the paths of the files, and all classes, file by file, an outer class before its inner ones and these by place. The class
-- at the front has the number 1; 0 is RefCounted
pub record Listing : Type 0 where
  pub paths : List (List ℕ)
  pub classes : List Class

-- ---- from trees

abbrev pub way_by_kind : (Expr → Option Way) → ExprLayer → Option Way
way_by_kind inner (ExprKind-F.Name name) = Some (record { path = None; names = name ∷ [] })
way_by_kind inner (ExprKind-F.Preload path) = Some (record { path = Some path; names = [] })
way_by_kind inner (ExprKind-F.Attr x name) = option_map (λ (w : Way). record { path = w.path; names = w.names ++ name ∷ [] }) (inner x)
way_by_kind inner _ = None

-- an expression that may stand for a class: a name or a `preload`, with names behind dots; as many levels are looked into
abbrev pub way_by : ℕ → Expr → Option Way
way_by zero x = None
way_by (suc levels) x = way_by_kind (way_by levels) (out-ExprKind (out-Expr x).kind)

-- a constant with a written type holds no class
abbrev pub way_of : VarDecl → Option Way
way_of v = option_map_or (λ _. None) (out-VarDecl v).typed (option_and_then (λ x. way_by (size-Expr x) x) (out-VarDecl v).value)

abbrev pub member_at : Text → Pos → Sort → ℕ → ℕ → Declared
member_at name pos sort class index = record { name = name; pos = pos; sort = sort; found = found.Member (record { class = class; index = index }) }

-- the values of an enum without a name, from the one with this place on
abbrev pub values_from : ℕ → ℕ → ℕ → List (Text × Pos × Option Expr) → List Declared
values_from class index place [] = []
values_from class index place (v ∷ vs) =
    record { name = v.0; pos = v.1; sort = enum_value; found = found.EnumValue (record { class = class; index = index }) place }
    ∷ values_from class index (place + 1) vs

abbrev pub of_enum : ℕ → ℕ → Option (Text × Pos) → List (Text × Pos × Option Expr) → List Declared
of_enum class index (Some n) values = member_at n.0 n.1 enum_name class index ∷ []
of_enum class index None values = values_from class index 0 values

-- the names of the member with this place; an inner class there has the number `inner`
abbrev pub names_of : ℕ → ℕ → ℕ → DeclKind → List Declared
names_of class index inner (d.Var v) = member_at (out-VarDecl v).name (out-VarDecl v).pos (variable (out-VarDecl v).is_static) class index ∷ []
names_of class index inner (d.Const v) = member_at (out-VarDecl v).name (out-VarDecl v).pos (constant (way_of v)) class index ∷ []
names_of class index inner (d.Func f) = member_at f.name f.pos (function f.is_static) class index ∷ []
names_of class index inner (d.Signal name pos parameters) = member_at name pos signal class index ∷ []
names_of class index inner (d.Enum name values) = of_enum class index name values
names_of class index inner (d.Class c) =
    option_map_or (λ name. record { name = name; pos = (out-ClassDecl c).pos; sort = class_name; found = found.Class inner } ∷ []) (out-ClassDecl c).name []
names_of class index inner d.Nothing = []

abbrev pub enum_in : DeclKind → List (List (Text × Pos))
enum_in (d.Enum (Some name) values) = map (λ (v : Text × Pos × Option Expr). (v.0, v.1)) values ∷ []
enum_in _ = []

abbrev pub in_kind : (ClassDecl → List Class) → DeclKind → List Class
in_kind inner (d.Class c) = inner c
in_kind inner _ = []

-- the inner classes and the names found so far, and how many members were gone through
pub record Progress : Type 0 where
  pub classes : List Class
  pub declared : List Declared
  pub place : ℕ

-- the class with this number and all classes in it; as many levels are looked into
abbrev pub classes_in : ℕ → ℕ → ℕ → ℕ → ClassDecl → List Class
classes_in zero file outer number c = []
classes_in (suc levels) file outer number c =
    let inside = fold (λ (p : Progress) member. let next = number + 1 + length p.classes in record {
      classes = p.classes ++ in_kind (classes_in levels file number next) (kind_of member);
      declared = p.declared ++ names_of number p.place next (kind_of member);
      place = p.place + 1;
    }) (record { classes = []; declared = []; place = 0 }) (members_of c) in
    record {
      file = file;
      outer = outer;
      name = (out-ClassDecl c).name;
      pos = (out-ClassDecl c).pos;
      base = (out-ClassDecl c).base;
      declared = inside.declared;
      enums = flat_map (λ member. enum_in (kind_of member)) (members_of c);
      preloads = preloads_of c;
    } ∷ inside.classes

abbrev pub files_from : ℕ → List Class → Project → List Class
files_from place found [] = found
files_from place found (file ∷ files) = files_from (place + 1) (found ++ classes_in (size-ClassDecl file.1) place 0 (length found + 1) file.1) files

abbrev pub listing_of : Project → Listing
listing_of project = record { paths = map (λ file. file.0) project; classes = files_from 0 [] project }

-- ---- classes by their numbers

abbrev pub class_numbered : List Class → ℕ → Option Class
class_numbered classes number = if number == 0 then None else slice_get classes (number - 1)

-- the number of the first class, from this number on, that passes the test
abbrev pub first_class : (Class → Bool) → ℕ → List Class → Option ℕ
first_class test number [] = None
first_class test number (c ∷ cs) = if test c then Some number else first_class test (number + 1) cs

-- the class of a file, by the file's place
abbrev pub class_of_file : List Class → ℕ → Option ℕ
class_of_file classes file = first_class (λ c. (c.outer == 0) && (c.file == file)) 1 classes

-- the classes around a class, from the inside out; as many are looked for
abbrev pub around : ℕ → List Class → ℕ → List ℕ
around zero classes number = []
around (suc levels) classes number =
    option_map_or (λ (c : Class). if c.outer == 0 then [] else c.outer ∷ around levels classes c.outer) (class_numbered classes number) []

abbrev pub outer_classes : List Class → ℕ → List ℕ
outer_classes classes number = around (length classes) classes number
