-- The value of an expression. Parts are evaluated from left to right; what is computed is held until the operation that
-- uses it has ended, and its result is held before what it used is given up.
use Rattle.std.specs.Prelude.{ℕ, ℤ, Bool, true, false, not, List, [], ◌∷◌, length, slice_get, unwrap_or, Option, None, Some, option_and_then, bytes_eq, codes, if◌then◌else◌, Result, Ok, Err}
use Rattle.std.specs.List.{list_any}
use Rattle.gd_members.specs.declared.Found.{Found}
use Rattle.gd_members.specs.declared.Found.TheVariants as found
use Rattle.gd_members.specs.declared.MemberId.{MemberId}
use Rattle.gd_model.specs.Datum as d
use Rattle.gd_model.specs.Datum.{Datum, null}
use Rattle.gd_model.specs.Same.{is_key}
use Rattle.gd_model.specs.declared.fault.RunFault.{RunFault}
use Rattle.gd_model.specs.declared.fault.RunFault.TheVariants.{BadKey, NullReceiver, WrongNumberOfArguments}
use Rattle.gd_model.specs.declared.ty.Ty.{Ty}
use Rattle.gd_model.specs.declared.ty.Ty.TheVariants as ty
use Rattle.gd_syntax.specs.declared.pos.Pos.{Pos}
use Rattle.gd_syntax.specs.declared.operator.Operator.{Operator}
use Rattle.syntax_trees.specs.Declarations.{DeclKind, Function}
use Rattle.syntax_trees.specs.Declarations as decl
use Rattle.syntax_trees.specs.Expressions.{Expr, ExprKind, Exprs, Pairs, Text, TypeName, expr, expr_and, first_token, no_exprs, no_pairs, pair_and, place, type_place}
use Rattle.syntax_trees.specs.Expressions as e
use Rattle.value_semantics.specs.BuiltinRows as rows
use Rattle.value_semantics.specs.Constants as constants
use Rattle.value_semantics.specs.Made.{Made}
use Rattle.value_semantics.specs.Made as made
use Rattle.value_semantics.specs.Operators.{applied, truth}
use Rattle.value_semantics.specs.declared.builtin.Builtin.{Builtin}
use Rattle.store_semantics.specs.Tests.{cast, is_of}
use Rattle.store_semantics.specs.World.{put}
use Rattle.store_semantics.specs.Writes.{put_all}
use Rattle.source_semantics.specs.Attributes.{read_attribute, read_index, read_static, read_variable, stored, bound, unbound}
use Rattle.source_semantics.specs.Functions.{all_fit, call, foreseen, has_number}
use Rattle.source_semantics.specs.Meaning.{Code, Frame, Meaning, code_of}
use Rattle.source_semantics.specs.Methods.{call_function, call_method}
use Rattle.source_semantics.specs.Project.{Member, Project, Variable, bases, function_of, is_static, members_of, method, name_of, names}
use Rattle.source_semantics.specs.State.{Local, Run, Went, at_place, failed, gives, if_so, local, read_at, settled, store, tested, then_do, value_of, went}
use Rattle.source_semantics.specs.Types.{element_type, fits_type, key_and_value}

-- what an evaluation stands in
pub record Context : Type 0 where
  pub project : Project
  pub meaning : Meaning
  pub frame : Frame

-- the arguments of a call, under values that are held
abbrev pub Arguments : Type 0
Arguments = List Datum → Run → Went (List Datum)

-- ---- names

abbrev pub self : Frame → Datum
self frame = unwrap_or frame.receiver null

-- the serial number of the receiver
abbrev pub self_serial : Datum → ℕ
self_serial (d.object s) = s
self_serial _ = 0

abbrev pub member_at : Project → MemberId → Option Member
member_at p id = slice_get (members_of p id.class) id.index

-- a variable by its bare name: in its own accessor it is the variable itself
abbrev pub bare_variable : Context → Pos → List Datum → Run → Variable → Went Datum
bare_variable c pos hand r v =
    let s = self_serial (self c.frame) in
    if is_static v then read_static hand r v
    else if list_any (bytes_eq (name_of v)) c.frame.direct then gives hand (stored c.project r s (name_of v)) r
    else read_variable c.project c.meaning c.frame pos hand r s v

abbrev pub bare_function : Context → ℕ → Function → Datum
bare_function c class f = if f.is_static then unbound class f.name else bound (self_serial (self c.frame)) f.name

abbrev pub bare_member : Context → Pos → List Datum → Run → ℕ → DeclKind → Went Datum
bare_member c pos hand r class (decl.variable v) = bare_variable c pos hand r (record { class = class; decl = v })
bare_member c pos hand r class (decl.constant v) = went (c.project.constant v.pos) r
bare_member c pos hand r class (decl.function f) = went (bare_function c class f) r
bare_member c pos hand r class (decl.signal name at params) = went (d.signal (self_serial (self c.frame)) name) r
bare_member c pos hand r class (decl.enum (Some name) values) = went (c.project.constant name.1) r
bare_member c pos hand r class _ = went null r

abbrev pub enum_value_at : Project → Option Member → ℕ → Datum
enum_value_at p None i = null
enum_value_at p (Some m) i = in_kind p m.kind i
  where
    of_value : Project → Option (Text × Pos × Option Expr) → Datum
    of_value p None = null
    of_value p (Some v) = p.constant v.1

    in_kind : Project → DeclKind → ℕ → Datum
    in_kind p (decl.enum name values) i = of_value p (slice_get values i)
    in_kind p _ i = null

abbrev pub of_member : Context → Pos → List Datum → Run → Option Member → Went Datum
of_member c pos hand r None = went null r
of_member c pos hand r (Some m) = bare_member c pos hand r m.class m.kind

abbrev pub builtin_constant : ℕ → Datum
builtin_constant number = as_int (constants.value_of number)
  where
    as_int : Option ℤ → Datum
    as_int None = null
    as_int (Some n) = d.int n

-- a bare name that is no local
abbrev pub global : Context → Pos → List Datum → Run → Found → Went Datum
global c pos hand r (found.Member id) = of_member c pos hand r (member_at c.project id)
global c pos hand r (found.EnumValue id i) = went (enum_value_at c.project (member_at c.project id) i) r
global c pos hand r (found.Builtin number) = went (builtin_constant number) r
global c pos hand r _ = went null r

abbrev pub local_or_global : Context → Pos → List Datum → Run → Option Local → Went Datum
local_or_global c pos hand r (Some l) = went (value_of l) r
local_or_global c pos hand r None = global c pos hand r (c.project.found pos)

abbrev pub bare_name : Context → Pos → List Datum → Run → Text → Went Datum
bare_name c pos hand r name = local_or_global c pos hand r (local r.blocks name)

-- ---- attributes

-- the class that an expression stands for, where it stands for one
abbrev pub class_meant : Project → Expr → Option ℕ
class_meant p x = meant (p.typed (place x))
  where
    meant : Ty → Option ℕ
    meant (ty.Meta class) = Some class
    meant _ = None

-- what the analysis knows among the members of a class: constants, enums, enum values, and inner classes, which are no
-- values
abbrev pub constant_member : Project → Found → Option Datum
constant_member p (found.EnumValue id i) = Some (enum_value_at p (member_at p id) i)
constant_member p (found.Class class) = Some null
constant_member p (found.Member id) = of_kind p (member_at p id)
  where
    in_kind : Project → DeclKind → Option Datum
    in_kind p (decl.constant v) = Some (p.constant v.pos)
    in_kind p (decl.enum (Some name) values) = Some (p.constant name.1)
    in_kind p _ = None

    of_kind : Project → Option Member → Option Datum
    of_kind p None = None
    of_kind p (Some m) = in_kind p m.kind
constant_member p _ = None

-- an attribute of a class; what stands before it is evaluated where a class is reached through a value
abbrev pub of_class : Context → Pos → List Datum → Run → Went Datum
of_class c pos hand r = global c pos hand r (c.project.found pos)

-- an attribute of a value; where the analysis knows a constant or a class there, it is that one, but for null
abbrev pub of_value : Context → Pos → List Datum → Run → Datum → Text → Option Datum → Went Datum
of_value c pos hand r null name _ = failed NullReceiver pos None r.world
of_value c pos hand r v name (Some known) = gives hand known r
of_value c pos hand r v name None = read_attribute c.project c.meaning c.frame pos hand r v name

abbrev pub attribute_of : Context → Pos → List Datum → Text → Option ℕ → Went Datum → Went Datum
attribute_of c pos hand name (Some class) base = then_do base (λ _ r. of_class c pos hand r)
attribute_of c pos hand name None base =
    then_do base (λ v r. of_value c pos hand r v name (constant_member c.project (c.project.found pos)))

-- ---- operators

abbrev pub put_made : Pos → List Datum → Run → Result Made RunFault → Went Datum
put_made pos hand r (Err f) = failed f pos None r.world
put_made pos hand r (Ok x) = then_do (at_place pos r (put r.world x)) (gives hand)

abbrev pub operate : Context → Pos → List Datum → Run → Operator → Datum → Datum → Went Datum
operate c pos hand r op a b = put_made pos hand r (applied (store r) (names c.project) op a b)

-- ---- literals

-- what is asked of a value, at the first token of its expression
abbrev pub Asked : Type 0
Asked = Pos → Datum → Run → Went (Unit {0})

abbrev pub nothing_asked : Asked
nothing_asked at v r = went tt r

-- an element, a key or a value for a place of this type
abbrev pub fits_asked : Context → Ty → Asked
fits_asked c t at v r = tested at (fits_type (bases c.project) (store r) t v) r

-- it is asked as soon as the value is there
abbrev pub asked_of : Asked → Pos → Went Datum → Went Datum
asked_of ask at x = then_do x (λ v r. then_do (ask at v r) (λ _ r. went v r))

abbrev pub array_literal : Pos → List Datum → Ty → Went (List Datum) → Went Datum
array_literal pos hand t items =
    then_do items (λ vs r.
    then_do (at_place pos r (put r.world (made.array (record { element = t; fixed = false; items = vs }))))
    (gives hand))

abbrev pub all_keys : List (Datum × Datum) → Bool
all_keys [] = true
all_keys (q ∷ qs) = if is_key q.0 then all_keys qs else false

-- a key that is none is found when all parts are evaluated; a key that repeats has the later value, at the first place
abbrev pub dict_literal : Pos → List Datum → Ty × Ty → Went (List (Datum × Datum)) → Went Datum
dict_literal pos hand t pairs =
    then_do pairs (λ qs r.
    if all_keys qs then then_do (at_place pos r (put r.world (dict_made t qs))) (gives hand) else failed BadKey pos None
    r.world)
  where
    dict_made : Ty × Ty → List (Datum × Datum) → Made
    dict_made t qs = made.dict (record { key_type = t.0; value_type = t.1; fixed = false; pairs = put_all [] qs })

-- ---- calls

abbrev pub make_new : Context → Pos → List Datum → Run → ℕ → List Datum → Went Datum
make_new c pos hand r class arguments =
    c.meaning.make (record { class = class; arguments = arguments; depth = c.frame.depth; pos = pos }) hand r

abbrev pub construct_with : Context → Pos → List Datum → Run → ℕ → List Datum → Code → Went Datum
construct_with c pos hand r class arguments code =
    if has_number code.parameters (length arguments)
    then then_do (foreseen c.project (c.project.tests pos) arguments r) (λ _ r.
    then_do (tested pos (all_fit c.project r code.parameters arguments) r)
    (λ _ r. make_new c pos hand r class arguments))
    else failed WrongNumberOfArguments pos None r.world

abbrev pub construct_plain : Context → Pos → List Datum → Run → ℕ → List Datum → Went Datum
construct_plain c pos hand r class [] = make_new c pos hand r class []
construct_plain c pos hand r class (v ∷ vs) = failed WrongNumberOfArguments pos None r.world

abbrev pub construct_by : Context → Pos → List Datum → Run → ℕ → List Datum → Option (ℕ × Function) → Went Datum
construct_by c pos hand r class arguments None = construct_plain c pos hand r class arguments
construct_by c pos hand r class arguments (Some f) = construct_with c pos hand r class arguments (code_of c.project f)

-- `new`: the tests of the arguments against the nearest `_init`, and the making
abbrev pub construct : Context → Pos → List Datum → Run → ℕ → List Datum → Went Datum
construct c pos hand r class arguments = construct_by c pos hand r class arguments
    (method c.project class (codes "_init"))

abbrev pub call_static : Context → Pos → List Datum → Run → ℕ × Function → List Datum → Went Datum
call_static c pos hand r f arguments = call c.project c.meaning c.frame pos (c.project.tests pos)
    (code_of c.project f) None arguments hand r

-- a function by its bare name: a static one is that one, another is called through the receiver
abbrev pub call_member : Context → Pos → List Datum → Run → List Datum → Option (ℕ × Function) → Went Datum
call_member c pos hand r arguments None = went null r
call_member c pos hand r arguments (Some f) =
    if f.1.is_static then call_static c pos hand r f arguments
    else call_method c.project c.meaning c.frame pos (c.project.tests pos) hand r (self c.frame) f.1.name arguments

abbrev pub call_numbered : Context → Pos → List Datum → Run → List Datum → Option Builtin → Went Datum
call_numbered c pos hand r arguments None = went null r
call_numbered c pos hand r arguments (Some builtin) = call_function c.project pos (c.project.tests pos) hand r builtin
    arguments

abbrev pub call_bare : Context → Pos → List Datum → Run → Found → List Datum → Went Datum
call_bare c pos hand r (found.Member id) arguments = call_member c pos hand r arguments
    (option_and_then function_of (member_at c.project id))
call_bare c pos hand r (found.Builtin number) arguments = call_numbered c pos hand r arguments
    (slice_get rows.all number)
call_bare c pos hand r _ arguments = went null r

-- a call through a class: its constructor, or a static function
abbrev pub call_on_class : Context → Pos → List Datum → Run → ℕ → Text → List Datum → Went Datum
call_on_class c pos hand r class name arguments =
    if bytes_eq name (codes "new") then construct c pos hand r class arguments
    else call_bare c pos hand r (c.project.found pos) arguments

abbrev pub call_attribute : Context → Pos → List Datum → Text → Option ℕ → Went Datum → Arguments → Went Datum
call_attribute c pos hand name (Some class) base arguments =
    then_do base (λ _ r. then_do (arguments hand r) (λ vs r. call_on_class c pos hand r class name vs))
call_attribute c pos hand name None base arguments =
    then_do base (λ v r. then_do (arguments (v ∷ hand) r) (λ vs r.
    call_method c.project c.meaning c.frame pos (c.project.tests pos) hand r v name vs))

abbrev pub call_of_base : Context → Pos → List Datum → Run → List Datum → Option (ℕ × Function) → Went Datum
call_of_base c pos hand r arguments None = went null r
call_of_base c pos hand r arguments (Some f) =
    call c.project c.meaning c.frame pos (c.project.tests pos) (code_of c.project f) c.frame.receiver arguments hand r

-- `super`: the base's function, on the receiver
abbrev pub call_super : Context → Pos → List Datum → Run → Found → List Datum → Went Datum
call_super c pos hand r (found.Member id) arguments = call_of_base c pos hand r arguments
    (option_and_then function_of (member_at c.project id))
call_super c pos hand r _ arguments = went null r

-- ---- expressions

abbrev pub type_at : Project → TypeName → Ty
type_at p t = p.written (type_place t)

abbrev pub cast_at : Context → Pos → List Datum → Run → Ty → Datum → Went Datum
cast_at c pos hand r t v = then_do (read_at pos r (cast (bases c.project) (store r) t v)) (gives hand)

abbrev pub test_at : Context → List Datum → Run → Ty → Bool → Datum → Went Datum
test_at c hand r t negated v =
    let yes = is_of (bases c.project) (store r) t v in gives hand (d.bool (if negated then not yes else yes)) r

-- a condition uses up its value at once
abbrev pub condition_of : List Datum → Went Datum → Went Bool
condition_of hand x = then_do x (λ v r. went (truth (store r) v) (settled hand r))

abbrev pub as_bool : Went Bool → Went Datum
as_bool x = then_do x (λ b r. went (d.bool b) r)

unfoldable mutual
  pub evaluate : Context → List Datum → Run → Expr → Went Datum
  evaluate c hand r (expr pos kind) = expression c pos hand r kind

  -- one case for each form
  pub expression : Context → Pos → List Datum → Run → ExprKind → Went Datum
  expression c pos hand r e.null = went null r
  expression c pos hand r (e.bool b) = went (d.bool b) r
  expression c pos hand r (e.int n) = went (d.int n) r
  expression c pos hand r (e.str t) = went (d.text t) r
  expression c pos hand r (e.name name) = bare_name c pos hand r name
  expression c pos hand r e.me = went (self c.frame) r
  expression c pos hand r (e.array_lit xs) =
      let t = element_type (c.project.typed pos) in array_literal pos hand t (evaluate_all c (fits_asked c t) hand r xs)
  expression c pos hand r (e.dict_lit xs) =
      let t = key_and_value (c.project.typed pos) in
      dict_literal pos hand t (evaluate_pairs c (fits_asked c t.0) (fits_asked c t.1) hand r xs)
  expression c pos hand r (e.unary op x) = then_do (evaluate c hand r x) (λ v r. operate c pos hand r op v null)
  expression c pos hand r (e.binary op x y) =
      then_do (evaluate c hand r x) (λ a r. then_do (evaluate c (a ∷ hand) r y) (λ b r. operate c pos hand r op a b))
  -- `and` and `or` evaluate the right side only where they need it, and give a bool
  expression c pos hand r (e.and x y) =
      then_do (condition_of hand (evaluate c hand r x)) (λ yes r.
      if_so yes (λ r. as_bool (condition_of hand (evaluate c hand r y))) (λ r. went (d.bool false) r) r)
  expression c pos hand r (e.or x y) =
      then_do (condition_of hand (evaluate c hand r x)) (λ yes r.
      if_so yes (λ r. went (d.bool true) r) (λ r. as_bool (condition_of hand (evaluate c hand r y))) r)
  expression c pos hand r (e.choose x q y) =
      then_do (condition_of hand (evaluate c hand r q))
      (λ yes r. if_so yes (λ r. evaluate c hand r x) (λ r. evaluate c hand r y) r)
  expression c pos hand r (e.cast x t) = then_do (evaluate c hand r x)
      (λ v r. cast_at c pos hand r (type_at c.project t) v)
  expression c pos hand r (e.test x t negated) =
      then_do (evaluate c hand r x) (λ v r. test_at c hand r (type_at c.project t) negated v)
  expression c pos hand r (e.attr x name) = attribute_of c pos hand name (class_meant c.project x) (evaluate c hand r x)
  expression c pos hand r (e.index x i) =
      then_do (evaluate c hand r x) (λ base r. then_do (evaluate c (base ∷ hand) r i)
      (λ index r. read_index pos hand r base index))
  -- what is called is a bare name, or an attribute
  expression c pos hand r (e.call (expr at (e.name name)) xs) =
      then_do (evaluate_all c nothing_asked hand r xs) (λ vs r. call_bare c pos hand r (c.project.found at) vs)
  expression c pos hand r (e.call (expr at (e.attr x name)) xs) =
      call_attribute c at hand name (class_meant c.project x) (evaluate c hand r x)
      (λ hand r. evaluate_all c nothing_asked hand r xs)
  expression c pos hand r (e.call f xs) = went null r
  expression c pos hand r (e.super word name xs) =
      then_do (evaluate_all c nothing_asked hand r xs) (λ vs r. call_super c pos hand r (c.project.found pos) vs)
  -- a `preload` stands for a class, which is no value
  expression c pos hand r (e.preload path) = went null r

  -- expressions one after another, each value being held
  pub evaluate_all : Context → Asked → List Datum → Run → Exprs → Went (List Datum)
  evaluate_all c ask hand r no_exprs = went [] r
  evaluate_all c ask hand r (expr_and x xs) =
      then_do (asked_of ask (first_token x) (evaluate c hand r x)) (λ v r.
      then_do (evaluate_all c ask (v ∷ hand) r xs) (λ vs r. went (v ∷ vs) r))

  pub evaluate_pairs : Context → Asked → Asked → List Datum → Run → Pairs → Went (List (Datum × Datum))
  evaluate_pairs c key value hand r no_pairs = went [] r
  evaluate_pairs c key value hand r (pair_and x y xs) =
      then_do (asked_of key (first_token x) (evaluate c hand r x)) (λ k r.
      then_do (asked_of value (first_token y) (evaluate c (k ∷ hand) r y)) (λ v r.
      then_do (evaluate_pairs c key value (v ∷ k ∷ hand) r xs) (λ rest r. went ((k, v) ∷ rest) r)))

abbrev pub condition : Context → List Datum → Run → Expr → Went Bool
condition c hand r x = condition_of hand (evaluate c hand r x)
