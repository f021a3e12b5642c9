-- What each class extends, which class each constant holds, and what a look-up finds.
--
-- A base may be named through a constant, and the value of a constant is looked up along bases. So both are found in
-- rounds: at first every base is RefCounted and no constant holds a class, and each round looks up anew by what the round
-- before it found.
use Rattle.std.specs.Prelude.{ℕ, ◌+◌, ◌-◌, Bool, true, false, ◌||◌, ◌&&◌, if◌then◌else◌, ◌==◌, nat_lt, List, [], ◌∷◌, ◌++◌, length, fold, map, Option, None, Some, option_and_then, unwrap_or, slice_get, bytes_eq, codes, sum_by}
use Rattle.std.specs.List.{list_any, position_or_len}
use Rattle.std.specs.Option.{option_map_or}
use Prim.Native.Nat.{zero, suc}
use Rattle.gd_members.specs.declared.Found.{Found}
use Rattle.gd_members.specs.declared.Found.TheVariants as found
use Rattle.gd_syntax.specs.declared.tree.decl.BaseName.{BaseName}
use Rattle.gd_names.specs.Builtins.{builtin_number}
use Rattle.gd_names.specs.Paths.{file_named}
use Rattle.gd_names.specs.Projects.{Class, Declared, Listing, Sort, class_name, class_numbered, class_of_file, constant, enum_name, enum_value, first_class, function, listing_of, outer_classes, signal, variable}
use Rattle.gd_names.specs.Trees.{Project, Text}

-- the classes of a project, the number of each one's base, and for each the names that it declares, with the class that
-- the name stands for where it is a constant that holds one
pub record Names : Type 0 where
  pub paths : List (List ℕ)
  pub classes : List Class
  pub bases : List ℕ
  pub held : List (List (Declared × Option ℕ))

abbrev pub or_else : {A : Type 0} → Option A → Option A → Option A
or_else (Some x) other = Some x
or_else None other = other

-- ---- bases

abbrev pub named_base : Names → ℕ → ℕ
named_base names number = if number == 0 then 0 else unwrap_or (slice_get names.bases (number - 1)) 0

-- the class, its base, that one's base and so on, up to RefCounted, which is left out; at most so many
abbrev pub walk : ℕ → Names → ℕ → List ℕ
walk zero names number = []
walk (suc steps) names number = if number == 0 then [] else number ∷ walk steps names (named_base names number)

-- the walk of bases is longer than there are classes
abbrev pub is_cyclic : Names → ℕ → Bool
is_cyclic names number = nat_lt (length names.classes) (length (walk (length names.classes + 1) names number))

-- the base that every rule but those about bases goes by
abbrev pub base_of : Names → ℕ → ℕ
base_of names number = if is_cyclic names number then 0 else named_base names number

-- the class and its bases
abbrev pub line_of : Names → ℕ → List ℕ
line_of names number = if is_cyclic names number then number ∷ [] else walk (length names.classes) names number

-- ---- look-ups

-- the first declaration of a name in the class itself, with the class that it holds
abbrev pub first_held : Text → List (Declared × Option ℕ) → Option (Declared × Option ℕ)
first_held name [] = None
first_held name (x ∷ xs) = if bytes_eq x.0.name name then Some x else first_held name xs

abbrev pub own : Names → ℕ → Text → Option (Declared × Option ℕ)
own names number name = if number == 0 then None else option_and_then (first_held name) (slice_get names.held (number - 1))

abbrev pub by_found : Option ℕ → Found → Option ℕ
by_found holds (found.Class number) = Some number
by_found holds _ = holds

-- the class that a declaration stands for: an inner class, or the one that a constant holds
abbrev pub class_for : Declared × Option ℕ → Option ℕ
class_for x = by_found x.1 x.0.found

-- the nearest of these classes that declares the name
abbrev pub nearest : Names → Text → List ℕ → Option (Declared × Option ℕ)
nearest names name [] = None
nearest names name (c ∷ cs) = or_else (own names c name) (nearest names name cs)

-- a member of a class or of its bases
abbrev pub member : Names → ℕ → Text → Option (Declared × Option ℕ)
member names number name = nearest names name (line_of names number)

-- what can be named from an inner class: it needs no instance
abbrev pub needs_no_instance : Sort → Bool
needs_no_instance (variable static) = static
needs_no_instance (function static) = static
needs_no_instance signal = false
needs_no_instance (constant _) = true
needs_no_instance enum_name = true
needs_no_instance enum_value = true
needs_no_instance class_name = true

abbrev pub if_shared : Option (Declared × Option ℕ) → Option (Declared × Option ℕ)
if_shared None = None
if_shared (Some x) = if needs_no_instance x.0.sort then Some x else None

abbrev pub nearest_shared : Names → Text → List ℕ → Option (Declared × Option ℕ)
nearest_shared names name [] = None
nearest_shared names name (c ∷ cs) = or_else (if_shared (own names c name)) (nearest_shared names name cs)

-- the same in classes around, from the inside out, each with its bases
abbrev pub shared_around : Names → Text → List ℕ → Option (Declared × Option ℕ)
shared_around names name [] = None
shared_around names name (c ∷ cs) = or_else (nearest_shared names name (line_of names c)) (shared_around names name cs)

abbrev pub is_file_named : Text → Class → Bool
is_file_named name c = (c.outer == 0) && option_map_or (bytes_eq name) c.name false

-- the first class of a file with this name; RefCounted is one of the class names
abbrev pub class_named : Names → Text → Option ℕ
class_named names name = if bytes_eq name (codes "RefCounted") then Some 0 else first_class (is_file_named name) 1 names.classes

-- what a bare name in a class is, where no local has the name: the declaration, or the class or the builtin
abbrev pub declaration_of : Names → ℕ → Text → Option (Declared × Option ℕ)
declaration_of names number name = or_else (member names number name) (shared_around names name (outer_classes names.classes number))

abbrev pub found_as : Option (Declared × Option ℕ) → Option ℕ → Option ℕ → Found
found_as (Some x) class builtin = x.0.found
found_as None (Some number) builtin = found.Class number
found_as None None (Some number) = found.Builtin number
found_as None None None = found.Missing

abbrev pub find : Names → ℕ → Text → Found
find names number name = found_as (declaration_of names number name) (class_named names name) (builtin_number name)

abbrev pub class_as : Option (Declared × Option ℕ) → Option ℕ → Option ℕ
class_as (Some x) class = class_for x
class_as None class = class

-- the class that a bare name in a class stands for
abbrev pub class_by_name : Names → ℕ → Text → Option ℕ
class_by_name names number name = class_as (declaration_of names number name) (class_named names name)

-- the class of the file that a path in a class names
abbrev pub class_at_path : Names → ℕ → Text → Option ℕ
class_at_path names number path =
    option_and_then (λ (c : Class). option_and_then (λ file. option_and_then (class_of_file names.classes) (file_named names.paths file path))
    (slice_get names.paths c.file)) (class_numbered names.classes number)

-- ---- the class that a constant holds

-- names behind dots: each among the members of the class before it and of its bases
abbrev pub along : Names → Option ℕ → List Text → Option ℕ
along names at [] = at
along names None (name ∷ more) = None
along names (Some number) (name ∷ more) = along names (option_and_then class_for (member names number name)) more

abbrev pub held_by_names : Names → ℕ → List Text → Option ℕ
held_by_names names number [] = None
held_by_names names number (name ∷ more) = along names (class_by_name names number name) more

abbrev pub held_by : Names → ℕ → Option Text → List Text → Option ℕ
held_by names number (Some path) more = along names (class_at_path names number path) more
held_by names number None all = held_by_names names number all

abbrev pub class_held : Names → ℕ → Sort → Option ℕ
class_held names number (constant (Some way)) = held_by names number way.path way.names
class_held names number _ = None

-- ---- the class that an `extends` names

-- inner classes and class constants of the class itself
abbrev pub own_class : Names → ℕ → Text → Option ℕ
own_class names number name = option_and_then class_for (own names number name)

abbrev pub own_class_around : Names → Text → List ℕ → Option ℕ
own_class_around names name [] = None
own_class_around names name (c ∷ cs) = or_else (own_class names c name) (own_class_around names name cs)

abbrev pub further : Names → Option ℕ → List Text → Option ℕ
further names at [] = at
further names None (name ∷ more) = None
further names (Some number) (name ∷ more) = further names (own_class names number name) more

-- the path first, else the first name: in the classes around, then among the class names
abbrev pub by_names : Names → ℕ → List Text → Option ℕ
by_names names number [] = None
by_names names number (name ∷ more) =
    further names (or_else (own_class_around names name (outer_classes names.classes number)) (class_named names name)) more

abbrev pub by_base : Names → ℕ → Option Text → List Text → Option ℕ
by_base names number (Some path) more = further names (class_at_path names number path) more
by_base names number None all = by_names names number all

-- a class without `extends` extends RefCounted, and one whose base is not found counts as if it did
abbrev pub extended : Names → ℕ → Option BaseName → Option ℕ
extended names number None = Some 0
extended names number (Some base) = by_base names number base.path base.names

-- ---- rounds

abbrev pub bases_from : Names → ℕ → List Class → List ℕ
bases_from names number [] = []
bases_from names number (c ∷ cs) = unwrap_or (extended names number c.base) 0 ∷ bases_from names (number + 1) cs

abbrev pub held_from : Names → ℕ → List (List (Declared × Option ℕ)) → List (List (Declared × Option ℕ))
held_from names number [] = []
held_from names number (xs ∷ rest) = map (λ (x : Declared × Option ℕ). (x.0, class_held names number x.0.sort)) xs ∷ held_from names (number + 1) rest

abbrev pub round : Names → Names
round names = record {
  paths = names.paths;
  classes = names.classes;
  bases = bases_from names 1 names.classes;
  held = held_from names 1 names.held;
}

abbrev pub at_first : Listing → Names
at_first listing = record {
  paths = listing.paths;
  classes = listing.classes;
  bases = map (λ _. 0) listing.classes;
  held = map (λ (c : Class). map (λ x. (x, None)) c.declared) listing.classes;
}

abbrev pub rounds : ℕ → Names → Names
rounds zero names = names
rounds (suc n) names = rounds n (round names)

-- each class and each name may wait for another one, and no way is longer than all of them
abbrev pub names_in : Listing → Names
names_in listing = let first = at_first listing in rounds (length first.classes + sum_by length first.held + 1) first

abbrev pub names_of : Project → Names
names_of project = names_in (listing_of project)

-- ---- the class order

-- the class goes behind its base; as many bases are looked at
abbrev pub placed : ℕ → Names → List ℕ → ℕ → List ℕ
placed zero names order number = order
placed (suc steps) names order number =
    if (number == 0) || list_any (λ n. n == number) order then order else placed steps names order (base_of names number) ++ number ∷ []

abbrev pub numbers : ℕ → List Class → List ℕ
numbers number [] = []
numbers number (c ∷ cs) = number ∷ numbers (number + 1) cs

-- the classes in their order: by files and places, but each behind its base
abbrev pub class_order : Names → List ℕ
class_order names = fold (placed (length names.classes + 1) names) [] (numbers 1 names.classes)

-- the number of a class in the class order, from 1
abbrev pub order_number : Names → ℕ → ℕ
order_number names number = if number == 0 then 0 else position_or_len (λ n. n == number) (class_order names) + 1

-- what was found, with the number of its class in the class order
abbrev pub ordered : Names → Found → Found
ordered names (found.Member id) = found.Member (record { class = order_number names id.class; index = id.index })
ordered names (found.EnumValue id place) = found.EnumValue (record { class = order_number names id.class; index = id.index }) place
ordered names (found.Class number) = found.Class (order_number names number)
ordered names (found.Builtin number) = found.Builtin number
ordered names found.Missing = found.Missing

-- ---- the class that a constant holds, by its place among the members of its class

abbrev pub is_member : ℕ → Found → Bool
is_member index (found.Member id) = id.index == index
is_member index _ = false

abbrev pub held_at : ℕ → List (Declared × Option ℕ) → Option ℕ
held_at index [] = None
held_at index (x ∷ xs) = if is_member index x.0.found then x.1 else held_at index xs

abbrev pub constant_class : Names → ℕ → ℕ → Option ℕ
constant_class names number index = if number == 0 then None else option_and_then (held_at index) (slice_get names.held (number - 1))
