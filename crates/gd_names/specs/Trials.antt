-- The definitions tried on small projects.
use Rattle.std.specs.Prelude.{◌≡◌, ℕ, false, List, [], ◌∷◌, Option, None, Some, map, codes}
use Rattle.gd_members.specs.declared.Found.TheVariants as found
use Rattle.gd_rules.specs.declared.rule.Rule.TheVariants as rule
use Rattle.gd_syntax.specs.declared.pos.Pos.{Pos}
use Rattle.gd_syntax.specs.declared.tree.decl.BaseName.{BaseName}
use Rattle.gd_names.specs.Bases.{class_order, constant_class, find, names_in, ordered}
use Rattle.gd_names.specs.Paths.{file_named}
use Rattle.gd_names.specs.Projects.{Class, Declared, Listing, class_name, constant, member_at, variable}
use Rattle.gd_names.specs.Rules.{faults}
use Rattle.gd_names.specs.Trees.{Text}

abbrev pub at : ℕ → ℕ → ℕ → Pos
at file line column = record { file = file; line = line; column = column }

abbrev pub class_at : Pos → ℕ → Option Text → Option BaseName → List Declared → Class
class_at pos outer name base declared = record { file = pos.file; outer = outer; name = name; pos = pos; base = base; declared = declared; enums = []; preloads = [] }

-- `extends NAME` and `extends "PATH"`
abbrev pub base_name : Pos → Text → Option BaseName
base_name pos name = Some (record { pos = pos; path = None; names = name ∷ [] })

abbrev pub base_path : Pos → Text → Option BaseName
base_path pos path = Some (record { pos = pos; path = Some path; names = [] })

-- ---- two files: `class_name A`, `extends B`, `var a` and `class_name B`, `var b`, `var a`

abbrev pub derived : Listing
derived = record {
  paths = codes "a.gd" ∷ codes "b.gd" ∷ [];
  classes =
      class_at (at 0 1 12) 0 (Some (codes "A")) (base_name (at 0 2 9) (codes "B")) (member_at (codes "a") (at 0 3 5) (variable false) 1 0 ∷ [])
      ∷ class_at (at 1 1 12) 0 (Some (codes "B")) None (member_at (codes "b") (at 1 2 5) (variable false) 2 0 ∷ member_at (codes "a") (at 1 3 5) (variable false) 2 1 ∷ [])
      ∷ [];
}

-- B comes before A in the class order, since A extends it
abbrev pub BaseComesFirst : Type 0
BaseComesFirst = class_order (names_in derived) ≡ 2 ∷ 1 ∷ []

-- a name of the base, a class name, a builtin, and none
abbrev pub FindsInBase : Type 0
FindsInBase = map (find (names_in derived) 1) (codes "b" ∷ codes "B" ∷ codes "len" ∷ codes "c" ∷ [])
    ≡ found.Member (record { class = 2; index = 0 }) ∷ found.Class 2 ∷ found.Builtin 4 ∷ found.Missing ∷ []

-- the variable `a` hides that of the base
abbrev pub HidesOne : Type 0
HidesOne = faults (names_in derived) ≡ record { pos = at 0 3 5; rule = rule.HidesAnInheritedMember } ∷ []

-- ---- `class_name A`, `extends B` and `class_name B`, `extends A`

abbrev pub circle : Listing
circle = record {
  paths = codes "a.gd" ∷ codes "b.gd" ∷ [];
  classes =
      class_at (at 0 1 12) 0 (Some (codes "A")) (base_name (at 0 2 9) (codes "B")) []
      ∷ class_at (at 1 1 12) 0 (Some (codes "B")) (base_name (at 1 2 9) (codes "A")) []
      ∷ [];
}

abbrev pub BothInCircle : Type 0
BothInCircle = faults (names_in circle) ≡ record { pos = at 0 2 9; rule = rule.ExtendsCycle } ∷ record { pos = at 1 2 9; rule = rule.ExtendsCycle } ∷ []

-- both count as extending RefCounted
abbrev pub CircleIsCut : Type 0
CircleIsCut = class_order (names_in circle) ≡ 1 ∷ 2 ∷ []

-- ---- `const S = preload("s.gd")` and `class In extends S` in a file of a folder, beside `s.gd`; and a path to no file

abbrev pub through_constant : Listing
through_constant = record {
  paths = codes "x/m.gd" ∷ codes "x/s.gd" ∷ [];
  classes =
      class_at (at 0 1 1) 0 None (base_path (at 0 1 9) (codes "../none.gd"))
      (member_at (codes "S") (at 0 2 7) (constant (Some (record { path = Some (codes "s.gd"); names = [] }))) 1 0
      ∷ record { name = codes "In"; pos = at 0 3 7; sort = class_name; found = found.Class 2 } ∷ [])
      ∷ class_at (at 0 3 7) 1 (Some (codes "In")) (base_name (at 0 3 18) (codes "S")) []
      ∷ class_at (at 1 1 1) 0 None None (member_at (codes "v") (at 1 1 5) (variable false) 3 0 ∷ [])
      ∷ [];
}

-- the inner class is number 2 and extends the class of s.gd, number 3
abbrev pub ExtendsThroughConstant : Type 0
ExtendsThroughConstant = class_order (names_in through_constant) ≡ 1 ∷ 3 ∷ 2 ∷ []

-- the constant holds the class of s.gd; what is found is told by the class order
abbrev pub HoldsClass : Type 0
HoldsClass = (constant_class (names_in through_constant) 1 0 ≡ Some 3) × (ordered (names_in through_constant) (found.Class 3) ≡ found.Class 2)

-- it finds the variable of its base, and the constant and itself in the class around it
abbrev pub FindsAround : Type 0
FindsAround = map (find (names_in through_constant) 2) (codes "v" ∷ codes "S" ∷ codes "In" ∷ [])
    ≡ found.Member (record { class = 3; index = 0 }) ∷ found.Member (record { class = 1; index = 0 }) ∷ found.Class 2 ∷ []

abbrev pub OnePathNotFound : Type 0
OnePathNotFound = faults (names_in through_constant) ≡ record { pos = at 0 1 9; rule = rule.PathNotFound } ∷ []

-- ---- `class_name print`, `extends X`, `var x`, `const x` and `class In`, in which nothing stands

abbrev pub faulty : Listing
faulty = record {
  paths = codes "a.gd" ∷ [];
  classes =
      class_at (at 0 1 12) 0 (Some (codes "print")) (base_name (at 0 2 9) (codes "X"))
      (member_at (codes "x") (at 0 3 5) (variable false) 1 0 ∷ member_at (codes "x") (at 0 4 7) (constant None) 1 1
      ∷ record { name = codes "In"; pos = at 0 5 7; sort = class_name; found = found.Class 2 } ∷ [])
      ∷ class_at (at 0 5 7) 1 (Some (codes "In")) None []
      ∷ [];
}

abbrev pub ThreeFaults : Type 0
ThreeFaults = faults (names_in faulty)
    ≡ record { pos = at 0 1 12; rule = rule.ClassNameTaken } ∷ record { pos = at 0 4 7; rule = rule.DuplicateMember } ∷ record { pos = at 0 2 9; rule = rule.UnknownBase } ∷ []

-- a variable of the class around is none of the inner class, and a class name goes before a builtin
abbrev pub FindsNoInstance : Type 0
FindsNoInstance = map (find (names_in faulty) 2) (codes "x" ∷ codes "print" ∷ []) ≡ found.Missing ∷ found.Class 1 ∷ []

-- ---- paths in the file x/m.gd

abbrev pub PathsFound : Type 0
PathsFound = map (file_named through_constant.paths (codes "x/m.gd")) (codes "s.gd" ∷ codes "./s.gd" ∷ codes "../x/s.gd" ∷ codes "res://x/s.gd" ∷ codes "../../s.gd" ∷ codes "res://s.gd" ∷ [])
    ≡ Some 1 ∷ Some 1 ∷ Some 1 ∷ Some 1 ∷ None ∷ None ∷ []
