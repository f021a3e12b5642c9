-- Expressions with more turns.
use Rattle.std.proofs.Common.{ℕ, List, [], ◌∷◌, length, refl}
use Rattle.std.specs.Prelude.{Bool, false, not, bytes_eq, codes, slice_get, Option, None, Some, Result, Ok, Err, option_and_then, if◌then◌else◌}
use Rattle.std.specs.List.{list_any}
use Rattle.gd_members.specs.declared.Found.{Found}
use Rattle.gd_members.specs.declared.Found.TheVariants as found
use Rattle.gd_model.specs.Datum as d
use Rattle.gd_model.specs.Datum.{Datum, null}
use Rattle.gd_model.specs.declared.fault.RunFault.{RunFault}
use Rattle.gd_model.specs.declared.fault.RunFault.TheVariants.{BadKey, NullReceiver, WrongNumberOfArguments}
use Rattle.gd_model.specs.declared.ty.Ty.{Ty}
use Rattle.gd_syntax.specs.declared.pos.Pos.{Pos}
use Rattle.gd_syntax.specs.declared.operator.Operator.{Operator}
use Rattle.syntax_trees.specs.Declarations.{DeclKind, Function}
use Rattle.syntax_trees.specs.Declarations as decl
use Rattle.syntax_trees.specs.Expressions.{Expr, ExprKind, Exprs, Pairs, Text, expr, expr_and, first_token, no_exprs, no_pairs, pair_and}
use Rattle.syntax_trees.specs.Expressions as e
use Rattle.value_semantics.specs.BuiltinRows as rows
use Rattle.value_semantics.specs.Made.{Made}
use Rattle.value_semantics.specs.Made as made
use Rattle.value_semantics.specs.Operators.{applied, truth}
use Rattle.value_semantics.specs.declared.builtin.Builtin.{Builtin}
use Rattle.store_semantics.specs.Tests.{cast, is_of}
use Rattle.store_semantics.specs.Writes.{put_all}
use Rattle.source_semantics.specs.Attributes.{stored}
use Rattle.source_semantics.specs.Expressions.{Arguments, Asked, all_keys, array_literal, as_bool, asked_of, attribute_of, bare_member, bare_name, bare_variable, call_attribute, call_bare, call_member, call_numbered, call_of_base, call_on_class, call_static, call_super, cast_at, class_meant, condition, condition_of, constant_member, construct, construct_by, construct_plain, construct_with, dict_literal, evaluate, evaluate_all, evaluate_pairs, expression, fits_asked, global, local_or_global, make_new, member_at, nothing_asked, of_class, of_member, of_value, operate, put_made, self, self_serial, test_at, type_at}
use Rattle.source_semantics.specs.Functions.{all_fit, has_number}
use Rattle.source_semantics.specs.Meaning.{Code, Frame, code_of}
use Rattle.source_semantics.specs.Project.{Member, Variable, bases, function_of, is_static, method, name_of, names}
use Rattle.source_semantics.specs.State.{Local, Run, Went, local, store, value_of}
use Rattle.source_semantics.specs.Types.{element_type, fits_type, key_and_value}
use Rattle.source_semantics.proofs.Grown.{Goes, goes_by, goes_failed, goes_gives, goes_if, goes_if_so, goes_read_at, goes_tested, goes_then, goes_value, goes_went, step_self, step_settled}
use Rattle.source_semantics.proofs.GrownAttributes.{goes_read_attribute, goes_read_index, goes_read_static, goes_read_variable}
use Rattle.source_semantics.proofs.GrownCalls.{goes_call, goes_call_function, goes_call_method, goes_foreseen}
use Rattle.source_semantics.proofs.GrownPair.{Pair, goes_put, left_of, right_of}

module _ (q : Pair) where
  -- ---- names

  goes_bare_variable : (frame : Frame) (pos : Pos) (hand : List Datum) (v : Variable)
      → Goes q.bound (λ r. bare_variable (left_of q frame) pos hand r v)
      (λ r. bare_variable (right_of q frame) pos hand r v)
  goes_bare_variable frame pos hand v =
      goes_if (is_static v) (goes_read_static q hand v) (goes_if (list_any (bytes_eq (name_of v)) frame.direct)
      (goes_by (λ r. stored q.project r (self_serial (self frame)) (name_of v)) (λ r t. refl) (λ x. goes_gives hand x))
      (goes_read_variable q frame pos hand (self_serial (self frame)) v))

  goes_bare_member : (frame : Frame) (pos : Pos) (hand : List Datum) (class : ℕ) (x : DeclKind)
      → Goes q.bound (λ r. bare_member (left_of q frame) pos hand r class x)
      (λ r. bare_member (right_of q frame) pos hand r class x)
  goes_bare_member frame pos hand class (decl.variable v) = goes_bare_variable frame pos hand
      (record { class = class; decl = v })
  goes_bare_member frame pos hand class (decl.constant v) = goes_value _ step_self
  goes_bare_member frame pos hand class (decl.function f) = goes_value _ step_self
  goes_bare_member frame pos hand class (decl.signal name at params) = goes_value _ step_self
  goes_bare_member frame pos hand class (decl.enum (Some name) values) = goes_value _ step_self
  goes_bare_member frame pos hand class x = goes_value null step_self

  goes_of_member : (frame : Frame) (pos : Pos) (hand : List Datum) (x : Option Member)
      → Goes q.bound (λ r. of_member (left_of q frame) pos hand r x) (λ r. of_member (right_of q frame) pos hand r x)
  goes_of_member frame pos hand None = goes_value null step_self
  goes_of_member frame pos hand (Some m) = goes_bare_member frame pos hand m.class m.kind

  goes_global : (frame : Frame) (pos : Pos) (hand : List Datum) (x : Found)
      → Goes q.bound (λ r. global (left_of q frame) pos hand r x) (λ r. global (right_of q frame) pos hand r x)
  goes_global frame pos hand (found.Member id) = goes_of_member frame pos hand (member_at q.project id)
  goes_global frame pos hand (found.EnumValue id i) = goes_value _ step_self
  goes_global frame pos hand (found.Builtin number) = goes_value _ step_self
  goes_global frame pos hand x = goes_value null step_self

  goes_local_or_global : (frame : Frame) (pos : Pos) (hand : List Datum) (x : Option Local)
      → Goes q.bound (λ r. local_or_global (left_of q frame) pos hand r x)
      (λ r. local_or_global (right_of q frame) pos hand r x)
  goes_local_or_global frame pos hand (Some l) = goes_value (value_of l) step_self
  goes_local_or_global frame pos hand None = goes_global frame pos hand (q.project.found pos)

  pub goes_bare_name : (frame : Frame) (pos : Pos) (hand : List Datum) (name : Text)
      → Goes q.bound (λ r. bare_name (left_of q frame) pos hand r name)
      (λ r. bare_name (right_of q frame) pos hand r name)
  goes_bare_name frame pos hand name = goes_by (λ r. local r.blocks name) (λ r t. refl)
      (λ x. goes_local_or_global frame pos hand x)

  -- ---- attributes

  pub goes_of_class : (frame : Frame) (pos : Pos) (hand : List Datum)
      → Goes q.bound (λ r. of_class (left_of q frame) pos hand r) (λ r. of_class (right_of q frame) pos hand r)
  goes_of_class frame pos hand = goes_global frame pos hand (q.project.found pos)

  goes_of_value : (frame : Frame) (pos : Pos) (hand : List Datum) (v : Datum) (name : Text) (x : Option Datum)
      → Goes q.bound (λ r. of_value (left_of q frame) pos hand r v name x)
      (λ r. of_value (right_of q frame) pos hand r v name x)
  goes_of_value frame pos hand null name x = goes_failed NullReceiver pos None
  goes_of_value frame pos hand v name (Some known) = goes_gives hand known
  goes_of_value frame pos hand v name None = goes_read_attribute q frame pos hand v name

  goes_attribute_of : {F G : Run → Went Datum} (frame : Frame) (pos : Pos) (hand : List Datum) (name : Text)
      (x : Option ℕ) → Goes q.bound F G
      → Goes q.bound (λ r. attribute_of (left_of q frame) pos hand name x (F r))
      (λ r. attribute_of (right_of q frame) pos hand name x (G r))
  goes_attribute_of frame pos hand name (Some class) base = goes_then base (λ _. goes_of_class frame pos hand)
  goes_attribute_of frame pos hand name None base =
      goes_then base (λ v. goes_of_value frame pos hand v name (constant_member q.project (q.project.found pos)))

  -- ---- operators

  goes_put_made : (pos : Pos) (hand : List Datum) (x : Result Made RunFault)
      → Goes q.bound (λ r. put_made pos hand r x) (λ r. put_made pos hand r x)
  goes_put_made pos hand (Err f) = goes_failed f pos None
  goes_put_made pos hand (Ok x) = goes_then (goes_put pos x) (λ v. goes_gives hand v)

  pub goes_operate : (frame : Frame) (pos : Pos) (hand : List Datum) (op : Operator) (a b : Datum)
      → Goes q.bound (λ r. operate (left_of q frame) pos hand r op a b)
      (λ r. operate (right_of q frame) pos hand r op a b)
  goes_operate frame pos hand op a b =
      goes_by (λ r. applied (store r) (names q.project) op a b) (λ r t. refl) (λ x. goes_put_made pos hand x)

  -- ---- literals

  abbrev GoesAsked : Asked → Asked → Type 0
  GoesAsked ask other = (at : Pos) (v : Datum) → Goes q.bound (ask at v) (other at v)

  pub goes_nothing_asked : GoesAsked nothing_asked nothing_asked
  goes_nothing_asked at v = goes_value tt step_self

  goes_fits_asked : (frame : Frame) (t : Ty) → GoesAsked (fits_asked (left_of q frame) t)
      (fits_asked (right_of q frame) t)
  goes_fits_asked frame t at v = goes_tested at (λ r. fits_type (bases q.project) (store r) t v) (λ r t. refl)

  goes_asked_of : {F G : Run → Went Datum} (ask other : Asked) (at : Pos) → GoesAsked ask other → Goes q.bound F G
      → Goes q.bound (λ r. asked_of ask at (F r)) (λ r. asked_of other at (G r))
  goes_asked_of ask other at a g = goes_then g (λ v. goes_then (a at v) (λ _. goes_value v step_self))

  abbrev dict_made : Ty × Ty → List (Datum × Datum) → Made
  dict_made t qs = made.dict (record { key_type = t.0; value_type = t.1; fixed = false; pairs = put_all [] qs })

  goes_array_literal : {F G : Run → Went (List Datum)} (pos : Pos) (hand : List Datum) (t : Ty) → Goes q.bound F G
      → Goes q.bound (λ r. array_literal pos hand t (F r)) (λ r. array_literal pos hand t (G r))
  goes_array_literal pos hand t g = goes_then g (λ vs.
      goes_then (goes_put pos (made.array (record { element = t; fixed = false; items = vs })))
      (λ v. goes_gives hand v))

  goes_dict_literal : {F G : Run → Went (List (Datum × Datum))} (pos : Pos) (hand : List Datum) (t : Ty × Ty)
      → Goes q.bound F G
      → Goes q.bound (λ r. dict_literal pos hand t (F r)) (λ r. dict_literal pos hand t (G r))
  goes_dict_literal pos hand t g =
      goes_then g (λ qs. goes_if (all_keys qs) (goes_then (goes_put pos (dict_made t qs)) (λ v. goes_gives hand v))
      (goes_failed BadKey pos None))

  -- ---- calls

  goes_make_new : (frame : Frame) (pos : Pos) (hand : List Datum) (class : ℕ) (arguments : List Datum)
      → Goes q.bound (λ r. make_new (left_of q frame) pos hand r class arguments)
      (λ r. make_new (right_of q frame) pos hand r class arguments)
  goes_make_new frame pos hand class arguments = q.makes _ hand

  goes_construct_with : (frame : Frame) (pos : Pos) (hand : List Datum) (class : ℕ) (arguments : List Datum)
      (code : Code)
      → Goes q.bound (λ r. construct_with (left_of q frame) pos hand r class arguments code)
      (λ r. construct_with (right_of q frame) pos hand r class arguments code)
  goes_construct_with frame pos hand class arguments code =
      goes_if (has_number code.parameters (length arguments))
      (goes_then (goes_foreseen q (q.project.tests pos) arguments) (λ _.
      goes_then (goes_tested pos (λ r. all_fit q.project r code.parameters arguments) (λ r t. refl))
      (λ _. goes_make_new frame pos hand class arguments)))
      (goes_failed WrongNumberOfArguments pos None)

  goes_construct_plain : (frame : Frame) (pos : Pos) (hand : List Datum) (class : ℕ) (arguments : List Datum)
      → Goes q.bound (λ r. construct_plain (left_of q frame) pos hand r class arguments)
      (λ r. construct_plain (right_of q frame) pos hand r class arguments)
  goes_construct_plain frame pos hand class [] = goes_make_new frame pos hand class []
  goes_construct_plain frame pos hand class (v ∷ vs) = goes_failed WrongNumberOfArguments pos None

  goes_construct_by : (frame : Frame) (pos : Pos) (hand : List Datum) (class : ℕ) (arguments : List Datum)
      (x : Option (ℕ × Function))
      → Goes q.bound (λ r. construct_by (left_of q frame) pos hand r class arguments x)
      (λ r. construct_by (right_of q frame) pos hand r class arguments x)
  goes_construct_by frame pos hand class arguments None = goes_construct_plain frame pos hand class arguments
  goes_construct_by frame pos hand class arguments (Some f) = goes_construct_with frame pos hand class arguments
      (code_of q.project f)

  pub goes_construct : (frame : Frame) (pos : Pos) (hand : List Datum) (class : ℕ) (arguments : List Datum)
      → Goes q.bound (λ r. construct (left_of q frame) pos hand r class arguments)
      (λ r. construct (right_of q frame) pos hand r class arguments)
  goes_construct frame pos hand class arguments = goes_construct_by frame pos hand class arguments
      (method q.project class (codes "_init"))

  goes_call_static : (frame : Frame) (pos : Pos) (hand : List Datum) (f : ℕ × Function) (arguments : List Datum)
      → Goes q.bound (λ r. call_static (left_of q frame) pos hand r f arguments)
      (λ r. call_static (right_of q frame) pos hand r f arguments)
  goes_call_static frame pos hand f arguments = goes_call q frame pos (q.project.tests pos) (code_of q.project f) None
      arguments hand

  goes_call_member : (frame : Frame) (pos : Pos) (hand : List Datum) (arguments : List Datum)
      (x : Option (ℕ × Function))
      → Goes q.bound (λ r. call_member (left_of q frame) pos hand r arguments x)
      (λ r. call_member (right_of q frame) pos hand r arguments x)
  goes_call_member frame pos hand arguments None = goes_value null step_self
  goes_call_member frame pos hand arguments (Some f) =
      goes_if f.1.is_static (goes_call_static frame pos hand f arguments)
      (goes_call_method q frame pos (q.project.tests pos) hand (self frame) f.1.name arguments)

  goes_call_numbered : (frame : Frame) (pos : Pos) (hand : List Datum) (arguments : List Datum) (x : Option Builtin)
      → Goes q.bound (λ r. call_numbered (left_of q frame) pos hand r arguments x)
      (λ r. call_numbered (right_of q frame) pos hand r arguments x)
  goes_call_numbered frame pos hand arguments None = goes_value null step_self
  goes_call_numbered frame pos hand arguments (Some builtin) = goes_call_function q pos (q.project.tests pos) hand
      builtin arguments

  goes_call_bare : (frame : Frame) (pos : Pos) (hand : List Datum) (x : Found) (arguments : List Datum)
      → Goes q.bound (λ r. call_bare (left_of q frame) pos hand r x arguments)
      (λ r. call_bare (right_of q frame) pos hand r x arguments)
  goes_call_bare frame pos hand (found.Member id) arguments =
      goes_call_member frame pos hand arguments (option_and_then function_of (member_at q.project id))
  goes_call_bare frame pos hand (found.Builtin number) arguments = goes_call_numbered frame pos hand arguments
      (slice_get rows.all number)
  goes_call_bare frame pos hand x arguments = goes_value null step_self

  goes_call_on_class : (frame : Frame) (pos : Pos) (hand : List Datum) (class : ℕ) (name : Text)
      (arguments : List Datum)
      → Goes q.bound (λ r. call_on_class (left_of q frame) pos hand r class name arguments)
      (λ r. call_on_class (right_of q frame) pos hand r class name arguments)
  goes_call_on_class frame pos hand class name arguments =
      goes_if (bytes_eq name (codes "new")) (goes_construct frame pos hand class arguments)
      (goes_call_bare frame pos hand (q.project.found pos) arguments)

  goes_call_attribute : {F G : Run → Went Datum} (frame : Frame) (pos : Pos) (hand : List Datum) (name : Text)
      (x : Option ℕ) (more other : Arguments)
      → Goes q.bound F G → ((held : List Datum) → Goes q.bound (more held) (other held))
      → Goes q.bound (λ r. call_attribute (left_of q frame) pos hand name x (F r) more)
      (λ r. call_attribute (right_of q frame) pos hand name x (G r) other)
  goes_call_attribute frame pos hand name (Some class) more other base arguments =
      goes_then base (λ _. goes_then (arguments hand) (λ vs. goes_call_on_class frame pos hand class name vs))
  goes_call_attribute frame pos hand name None more other base arguments =
      goes_then base (λ v. goes_then (arguments (v ∷ hand))
      (λ vs. goes_call_method q frame pos (q.project.tests pos) hand v name vs))

  goes_call_of_base : (frame : Frame) (pos : Pos) (hand : List Datum) (arguments : List Datum)
      (x : Option (ℕ × Function))
      → Goes q.bound (λ r. call_of_base (left_of q frame) pos hand r arguments x)
      (λ r. call_of_base (right_of q frame) pos hand r arguments x)
  goes_call_of_base frame pos hand arguments None = goes_value null step_self
  goes_call_of_base frame pos hand arguments (Some f) =
      goes_call q frame pos (q.project.tests pos) (code_of q.project f) frame.receiver arguments hand

  goes_call_super : (frame : Frame) (pos : Pos) (hand : List Datum) (x : Found) (arguments : List Datum)
      → Goes q.bound (λ r. call_super (left_of q frame) pos hand r x arguments)
      (λ r. call_super (right_of q frame) pos hand r x arguments)
  goes_call_super frame pos hand (found.Member id) arguments =
      goes_call_of_base frame pos hand arguments (option_and_then function_of (member_at q.project id))
  goes_call_super frame pos hand x arguments = goes_value null step_self

  -- ---- expressions

  goes_cast_at : (frame : Frame) (pos : Pos) (hand : List Datum) (t : Ty) (v : Datum)
      → Goes q.bound (λ r. cast_at (left_of q frame) pos hand r t v) (λ r. cast_at (right_of q frame) pos hand r t v)
  goes_cast_at frame pos hand t v =
      goes_then (goes_read_at pos (λ r. cast (bases q.project) (store r) t v) (λ r t. refl)) (λ v. goes_gives hand v)

  goes_test_at : (frame : Frame) (hand : List Datum) (t : Ty) (negated : Bool) (v : Datum)
      → Goes q.bound (λ r. test_at (left_of q frame) hand r t negated v)
      (λ r. test_at (right_of q frame) hand r t negated v)
  goes_test_at frame hand t negated v =
      goes_by (λ r. is_of (bases q.project) (store r) t v) (λ r t. refl)
      (λ yes. goes_gives hand (d.bool (if negated then not yes else yes)))

  pub goes_condition_of : {F G : Run → Went Datum} (hand : List Datum) → Goes q.bound F G
      → Goes q.bound (λ r. condition_of hand (F r)) (λ r. condition_of hand (G r))
  goes_condition_of hand g = goes_then g (λ v. goes_went (λ r. truth (store r) v) (λ r t. refl) (step_settled hand))

  goes_as_bool : {F G : Run → Went Bool} → Goes q.bound F G → Goes q.bound (λ r. as_bool (F r)) (λ r. as_bool (G r))
  goes_as_bool g = goes_then g (λ b. goes_value (d.bool b) step_self)

  mutual
    unfolding evaluate

    pub goes_evaluate : (frame : Frame) (hand : List Datum) (x : Expr)
        → Goes q.bound (λ r. evaluate (left_of q frame) hand r x) (λ r. evaluate (right_of q frame) hand r x)
    goes_evaluate frame hand (expr pos kind) = goes_expression frame pos hand kind

    goes_expression : (frame : Frame) (pos : Pos) (hand : List Datum) (x : ExprKind)
        → Goes q.bound (λ r. expression (left_of q frame) pos hand r x)
        (λ r. expression (right_of q frame) pos hand r x)
    goes_expression frame pos hand e.null = goes_value _ step_self
    goes_expression frame pos hand (e.bool b) = goes_value _ step_self
    goes_expression frame pos hand (e.int n) = goes_value _ step_self
    goes_expression frame pos hand (e.str t) = goes_value _ step_self
    goes_expression frame pos hand (e.name name) = goes_bare_name frame pos hand name
    goes_expression frame pos hand e.me = goes_value _ step_self
    goes_expression frame pos hand (e.array_lit xs) =
        goes_array_literal pos hand (element_type (q.project.typed pos))
        (goes_evaluate_all frame _ _ (goes_fits_asked frame (element_type (q.project.typed pos))) hand xs)
    goes_expression frame pos hand (e.dict_lit xs) =
        goes_dict_literal pos hand (key_and_value (q.project.typed pos))
        (goes_evaluate_pairs frame _ _ _ _ (goes_fits_asked frame (key_and_value (q.project.typed pos)).0)
        (goes_fits_asked frame (key_and_value (q.project.typed pos)).1) hand xs)
    goes_expression frame pos hand (e.unary op x) =
        goes_then (goes_evaluate frame hand x) (λ v. goes_operate frame pos hand op v null)
    goes_expression frame pos hand (e.binary op x y) =
        goes_then (goes_evaluate frame hand x) (λ a. goes_then (goes_evaluate frame (a ∷ hand) y)
        (λ b. goes_operate frame pos hand op a b))
    goes_expression frame pos hand (e.and x y) =
        goes_then (goes_condition_of hand (goes_evaluate frame hand x)) (λ yes.
        goes_if_so yes (goes_as_bool (goes_condition_of hand (goes_evaluate frame hand y))) (goes_value _ step_self))
    goes_expression frame pos hand (e.or x y) =
        goes_then (goes_condition_of hand (goes_evaluate frame hand x)) (λ yes.
        goes_if_so yes (goes_value _ step_self) (goes_as_bool (goes_condition_of hand (goes_evaluate frame hand y))))
    goes_expression frame pos hand (e.choose x c y) =
        goes_then (goes_condition_of hand (goes_evaluate frame hand c))
        (λ yes. goes_if_so yes (goes_evaluate frame hand x) (goes_evaluate frame hand y))
    goes_expression frame pos hand (e.cast x t) =
        goes_then (goes_evaluate frame hand x) (λ v. goes_cast_at frame pos hand (type_at q.project t) v)
    goes_expression frame pos hand (e.test x t negated) =
        goes_then (goes_evaluate frame hand x) (λ v. goes_test_at frame hand (type_at q.project t) negated v)
    goes_expression frame pos hand (e.attr x name) =
        goes_attribute_of frame pos hand name (class_meant q.project x) (goes_evaluate frame hand x)
    goes_expression frame pos hand (e.index x i) =
        goes_then (goes_evaluate frame hand x) (λ base. goes_then (goes_evaluate frame (base ∷ hand) i)
        (λ index. goes_read_index q pos hand base index))
    goes_expression frame pos hand (e.call (expr at (e.name name)) xs) =
        goes_then (goes_evaluate_all frame _ _ goes_nothing_asked hand xs)
        (λ vs. goes_call_bare frame pos hand (q.project.found at) vs)
    goes_expression frame pos hand (e.call (expr at (e.attr x name)) xs) =
        goes_call_attribute frame at hand name (class_meant q.project x) _ _ (goes_evaluate frame hand x)
        (λ held. goes_evaluate_all frame _ _ goes_nothing_asked held xs)
    goes_expression frame pos hand (e.call f xs) = goes_value null step_self
    goes_expression frame pos hand (e.super word name xs) =
        goes_then (goes_evaluate_all frame _ _ goes_nothing_asked hand xs)
        (λ vs. goes_call_super frame pos hand (q.project.found pos) vs)
    goes_expression frame pos hand (e.preload path) = goes_value _ step_self

    pub goes_evaluate_all : (frame : Frame) (ask other : Asked) → GoesAsked ask other → (hand : List Datum) (xs : Exprs)
        → Goes q.bound (λ r. evaluate_all (left_of q frame) ask hand r xs)
        (λ r. evaluate_all (right_of q frame) other hand r xs)
    goes_evaluate_all frame ask other a hand no_exprs = goes_value _ step_self
    goes_evaluate_all frame ask other a hand (expr_and x xs) =
        goes_then (goes_asked_of ask other (first_token x) a (goes_evaluate frame hand x)) (λ v.
        goes_then (goes_evaluate_all frame ask other a (v ∷ hand) xs) (λ vs. goes_value _ step_self))

    goes_evaluate_pairs : (frame : Frame) (key key' value value' : Asked) → GoesAsked key key' → GoesAsked value value'
        → (hand : List Datum) (xs : Pairs)
        → Goes q.bound (λ r. evaluate_pairs (left_of q frame) key value hand r xs)
        (λ r. evaluate_pairs (right_of q frame) key' value' hand r xs)
    goes_evaluate_pairs frame key key' value value' a b hand no_pairs = goes_value _ step_self
    goes_evaluate_pairs frame key key' value value' a b hand (pair_and x y xs) =
        goes_then (goes_asked_of key key' (first_token x) a (goes_evaluate frame hand x)) (λ k.
        goes_then (goes_asked_of value value' (first_token y) b (goes_evaluate frame (k ∷ hand) y)) (λ v.
        goes_then (goes_evaluate_pairs frame key key' value value' a b (v ∷ k ∷ hand) xs)
        (λ rest. goes_value _ step_self)))

  pub goes_condition : (frame : Frame) (hand : List Datum) (x : Expr)
      → Goes q.bound (λ r. condition (left_of q frame) hand r x) (λ r. condition (right_of q frame) hand r x)
  goes_condition frame hand x = goes_condition_of hand (goes_evaluate frame hand x)
