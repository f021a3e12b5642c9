-- Where the rules A01 to A06 hold: the places of each, class by class.
use Rattle.std.specs.Prelude.{ℕ, ◌+◌, Bool, true, false, not, ◌&&◌, ◌||◌, ◌==◌, if◌then◌else◌, List, [], ◌∷◌, ◌++◌, drop, map, Option, Some, is_some, is_none, bytes_eq, codes}
use Rattle.std.specs.List.{flat_map, list_any}
use Rattle.std.specs.Option.{option_map_or}
use Rattle.gd_rules.specs.declared.diag.Diag.{Diag}
use Rattle.gd_rules.specs.declared.rule.Rule.{Rule}
use Rattle.gd_rules.specs.declared.rule.Rule.TheVariants as rule
use Rattle.gd_syntax.specs.declared.pos.Pos.{Pos}
use Rattle.gd_syntax.specs.declared.tree.decl.BaseName.{BaseName}
use Rattle.gd_names.specs.Bases.{Names, class_at_path, extended, is_cyclic, is_file_named, line_of, own}
use Rattle.gd_names.specs.Builtins.{builtin_number}
use Rattle.gd_names.specs.Projects.{Class, Declared, Sort, function}
use Rattle.gd_names.specs.Trees.{Text, list_of}

-- ---- A01, path not found: the path of a `preload`, at that word, or of an `extends`, at the path

abbrev pub names_nothing : Names → ℕ → Text → Bool
names_nothing names number path = is_none (class_at_path names number path)

abbrev pub has_no_file : Names → ℕ → BaseName → Bool
has_no_file names number base = option_map_or (names_nothing names number) base.path false

abbrev pub paths_not_found : Names → ℕ → Class → List Pos
paths_not_found names number c =
    flat_map (λ (p : Pos × Text). if names_nothing names number p.1 then p.0 ∷ [] else []) c.preloads
    ++ flat_map (λ (b : BaseName). if has_no_file names number b then b.pos ∷ [] else []) (list_of c.base)

-- ---- A02, class name taken: by a builtin or by a file before, at the name

abbrev pub is_builtin : Text → Bool
is_builtin name = bytes_eq name (codes "RefCounted") || is_some (builtin_number name)

abbrev pub is_taken : List Class → Text → Bool
is_taken before name = is_builtin name || list_any (is_file_named name) before

abbrev pub class_names_taken : List Class → Class → List Pos
class_names_taken before c = if (c.outer == 0) && option_map_or (is_taken before) c.name false then c.pos ∷ [] else []

-- ---- A03, duplicate member: a name that was declared before in the class, or in its named enum, at the name

abbrev pub repeated : List Text → List (Text × Pos) → List Pos
repeated before [] = []
repeated before (x ∷ xs) = (if list_any (bytes_eq x.0) before then x.1 ∷ [] else []) ++ repeated (x.0 ∷ before) xs

abbrev pub duplicate_members : Class → List Pos
duplicate_members c = repeated [] (map (λ (x : Declared). (x.name, x.pos)) c.declared) ++ flat_map (repeated []) c.enums

-- ---- A04, hides an inherited member: a base has a member of that name, and not both are functions, at the name

abbrev pub is_function : Sort → Bool
is_function (function static) = true
is_function _ = false

abbrev pub hides : Names → List ℕ → Declared → Bool
hides names bases x = list_any (λ b. option_map_or (λ (y : Declared × Option ℕ). not (is_function x.sort && is_function y.0.sort)) (own names b x.name) false) bases

abbrev pub hiding_members : Names → ℕ → Class → List Pos
hiding_members names number c =
    flat_map (λ (x : Declared). if hides names (drop 1 (line_of names number)) x then x.pos ∷ [] else []) c.declared

-- ---- A05, unknown base: the names lead to no class, at the base; a path that names no file is A01 alone

abbrev pub unknown_bases : Names → ℕ → Class → List Pos
unknown_bases names number c =
    flat_map (λ (b : BaseName). if is_none (extended names number (Some b)) && not (has_no_file names number b) then b.pos ∷ [] else []) (list_of c.base)

-- ---- A06, extends cycle: the walk of bases does not end, at the base

abbrev pub extends_cycles : Names → ℕ → Class → List Pos
extends_cycles names number c = flat_map (λ (b : BaseName). if is_cyclic names number then b.pos ∷ [] else []) (list_of c.base)

-- ---- all of them

abbrev pub with_rule : Rule → List Pos → List Diag
with_rule r places = map (λ pos. record { pos = pos; rule = r }) places

abbrev pub faults_in : Names → List Class → ℕ → Class → List Diag
faults_in names before number c =
    with_rule rule.PathNotFound (paths_not_found names number c) ++ with_rule rule.ClassNameTaken (class_names_taken before c)
    ++ with_rule rule.DuplicateMember (duplicate_members c) ++ with_rule rule.HidesAnInheritedMember (hiding_members names number c)
    ++ with_rule rule.UnknownBase (unknown_bases names number c) ++ with_rule rule.ExtendsCycle (extends_cycles names number c)

abbrev pub faults_from : Names → List Class → ℕ → List Class → List Diag
faults_from names before number [] = []
faults_from names before number (c ∷ cs) = faults_in names before number c ++ faults_from names (before ++ c ∷ []) (number + 1) cs

-- the faults of the names of a project, in no order that matters
abbrev pub faults : Names → List Diag
faults names = faults_from names [] 1 names.classes
