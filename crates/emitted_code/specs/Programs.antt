-- The program of a project.
use Rattle.std.specs.Prelude.{ℕ, zero, suc, pred, ◌+◌, ◌-◌, ◌==◌, ℤ, Bool, true, false, ◌&&◌, List, [], ◌∷◌, ◌++◌, length, map, codes, bytes_eq, Option, None, Some, option_and_then, option_map, if◌then◌else◌}
use Rattle.std.specs.List.{flat_map}
use Rattle.gd_bytecode.specs.declared.program.ClassCode.{ClassCode}
use Rattle.gd_bytecode.specs.declared.program.ConstKind.{ConstKind}
use Rattle.gd_bytecode.specs.declared.program.ConstKind.TheVariants as kind
use Rattle.gd_bytecode.specs.declared.program.ConstThing.{ConstThing}
use Rattle.gd_bytecode.specs.declared.program.Function.{Function}
use Rattle.gd_bytecode.specs.declared.program.Method.{Method}
use Rattle.gd_bytecode.specs.declared.program.Operand.{Operand}
use Rattle.gd_bytecode.specs.declared.program.Program.{Program}
use Rattle.gd_bytecode.specs.declared.program.VarCode.{VarCode}
use Rattle.gd_members.specs.declared.MemberId.{MemberId}
use Rattle.gd_model.specs.Datum.{Datum}
use Rattle.gd_model.specs.Store as thing
use Rattle.gd_model.specs.Store.{DictThing, Thing}
use Rattle.gd_model.specs.declared.ty.Ty.{Ty}
use Rattle.gd_model.specs.declared.ty.Ty.TheVariants as ty
use Rattle.syntax_trees.specs.Declarations.{Accessor, DeclKind, Property, body, named}
use Rattle.syntax_trees.specs.Declarations as d
use Rattle.syntax_trees.specs.Expressions.{Text}
use Rattle.source_semantics.specs.Project.{Class, Member, Project, first, is_function_named, members_of}
use Rattle.emitted_code.specs.Functions.{Written, id_of, written}
use Rattle.emitted_code.specs.Linking.{code_ints, code_texts, code_types, int_in, linked_from, operand_of, text_in}
use Rattle.emitted_code.specs.Sources.{Source}
use Rattle.emitted_code.specs.Steps.{Key, declared, getter, initial, setter, static_initial}
use Rattle.emitted_code.specs.Tables.{Tables, is_same, key_found, key_number, once, same_int, text_number, type_number, with_parts}

-- ---- constants

abbrev pub is_any : Ty → Bool
is_any ty.Variant = true
is_any t = false

abbrev pub is_untyped : DictThing → Bool
is_untyped d = is_any d.key_type && is_any d.value_type

abbrev pub values_in : List (Datum × Datum) → List Datum
values_in [] = []
values_in (q ∷ qs) = q.0 ∷ q.1 ∷ values_in qs

-- the values that a constant holds: elements, or keys and values in turn
abbrev pub parts : Thing → List Datum
parts (thing.array a) = a.items
parts (thing.dict m) = values_in m.pairs
parts (thing.object class values) = []

-- the type that stands beside them
abbrev pub thing_type : Thing → Ty
thing_type (thing.array a) = a.element
thing_type (thing.dict m) = if is_untyped m then ty.Variant else ty.DictOf m.key_type m.value_type
thing_type (thing.object class values) = ty.Variant

abbrev pub thing_kind : Thing → ConstKind
thing_kind (thing.dict m) = if is_untyped m then kind.Dict else kind.DictOf
thing_kind x = kind.Array

abbrev pub constant_of : Tables → Thing → ConstThing
constant_of t x =
    record { kind = thing_kind x; typed = type_number t (thing_type x); operands = map (operand_of t) (parts x) }

-- ---- classes

abbrev pub number_of_accessor : Tables → Project → ℕ → Key → Option Accessor → Option ℕ
number_of_accessor t p class key None = None
number_of_accessor t p class key (Some (body parameter block at tokens)) = key_found t key
number_of_accessor t p class key (Some (named name at)) =
    option_and_then (λ (m : Member). key_found t (declared (id_of m))) (first (is_function_named name) (members_of p class))

abbrev pub variable_code : Tables → Project → MemberId → Property → VarCode
variable_code t p id v = record {
  name = text_number t v.variable.name;
  is_static = v.variable.is_static;
  typed = type_number t (p.place_type v.variable.pos);
  setter = number_of_accessor t p id.class (setter id) v.setter;
  getter = number_of_accessor t p id.class (getter id) v.getter;
}

abbrev pub variables_in : Tables → Project → Member → List VarCode
variables_in t p m = in_kind t p m m.kind
  where
    in_kind : Tables → Project → Member → DeclKind → List VarCode
    in_kind t p m (d.variable v) = variable_code t p (id_of m) v ∷ []
    in_kind t p m kind = []

abbrev pub methods_in : Tables → Member → List Method
methods_in t m = in_kind t m m.kind
  where
    in_kind : Tables → Member → DeclKind → List Method
    in_kind t m (d.function f) = record { name = text_number t f.name; function = key_number t (declared (id_of m)) } ∷ []
    in_kind t m kind = []

abbrev pub signals_in : Tables → Member → List ℕ
signals_in t m = in_kind t m.kind
  where
    in_kind : Tables → DeclKind → List ℕ
    in_kind t (d.signal name at params) = text_number t name ∷ []
    in_kind t kind = []

abbrev pub static_init_of : Tables → List Member → Option ℕ
static_init_of t ms =
    option_and_then (λ (m : Member). key_found t (declared (id_of m))) (first (is_function_named (codes "_static_init")) ms)

abbrev pub class_code : Tables → Source → ℕ → Class → ClassCode
class_code t s number c =
    let ms : List Member = members_of s.project number in record {
      name = text_number t c.name;
      path = s.file_of number;
      base = if c.base == 0 then None else Some (pred c.base);
      variables = flat_map (variables_in t s.project) ms;
      methods = flat_map (methods_in t) ms;
      signals = flat_map (signals_in t) ms;
      initial = key_found t (initial number);
      static_initial = key_found t (static_initial number);
      static_init = static_init_of t ms;
    }

abbrev pub classes_from : Tables → Source → ℕ → List Class → List ClassCode
classes_from t s number [] = []
classes_from t s number (c ∷ cs) = class_code t s number c ∷ classes_from t s (suc number) cs

-- ---- functions

abbrev pub function_code : Tables → Source → Written → Function
function_code t s f = record {
  name = text_number t f.name;
  path = s.file_of f.class;
  class = pred f.class;
  is_static = f.is_static;
  params = f.params;
  required = f.required;
  types = map (type_number t) f.locals;
  returns = type_number t f.returns;
  code = linked_from t 0 f.code;
}

-- ---- what is met: in the constants, then in the classes, and then in the functions

abbrev pub member_texts : DeclKind → List Text
member_texts (d.variable v) = v.variable.name ∷ []
member_texts (d.function f) = f.name ∷ []
member_texts (d.signal name at params) = name ∷ []
member_texts kind = []

abbrev pub member_types : Project → DeclKind → List Ty
member_types p (d.variable v) = with_parts (p.place_type v.variable.pos)
member_types p kind = []

-- of a class the names of its members, and then its own
abbrev pub class_texts : Project → ℕ → List Class → List Text
class_texts p number [] = []
class_texts p number (c ∷ cs) =
    flat_map (λ (m : Member). member_texts m.kind) (members_of p number) ++ (c.name ∷ class_texts p (suc number) cs)

abbrev pub class_types : Project → ℕ → List Class → List Ty
class_types p number [] = []
class_types p number (c ∷ cs) =
    flat_map (λ (m : Member). member_types p m.kind) (members_of p number) ++ class_types p (suc number) cs

abbrev pub all_parts : List Thing → List Datum
all_parts things = flat_map parts things

abbrev pub met : Project → List Written → Tables
met p fs = record {
  texts = once bytes_eq (flat_map text_in (all_parts p.things) ++ (class_texts p 1 p.classes
      ++ flat_map (λ (f : Written). f.name ∷ code_texts f.code) fs));
  ints = once same_int (flat_map int_in (all_parts p.things) ++ flat_map (λ (f : Written). code_ints f.code) fs);
  types = once is_same (flat_map (λ x. with_parts (thing_type x)) p.things ++ (class_types p 1 p.classes
      ++ flat_map (λ (f : Written). with_parts f.returns ++ (flat_map with_parts f.locals ++ code_types f.code)) fs));
  keys = map (λ (f : Written). f.key) fs;
}

-- ---- the program

abbrev pub program_of : Source → List Written → Tables → Program
program_of s fs t = record {
  paths = s.paths;
  texts = t.texts;
  ints = t.ints;
  types = t.types;
  constants = map (constant_of t) s.project.things;
  classes = classes_from t s 1 s.project.classes;
  functions = map (function_code t s) fs;
  main = pred s.main;
}

abbrev pub emitted : Source → Program
emitted s = let fs : List Written = written s in program_of s fs (met s.project fs)
