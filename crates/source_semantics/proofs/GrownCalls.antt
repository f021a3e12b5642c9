-- Calls, signals and builtins with more turns.
use Rattle.std.proofs.Common.{◌≡◌, ℕ, zero, suc, List, [], ◌∷◌, ◌++◌, length, refl}
use Rattle.std.specs.Prelude.{ℤ, Bool, true, false, not, Option, None, Some, Result, Ok, Err, ⊤, filter, take, if◌then◌else◌}
use Rattle.std.specs.Prelude as int
use Rattle.std.specs.Ordering.{int_eq}
use Rattle.gd_model.specs.Datum as d
use Rattle.gd_model.specs.Datum.{Callee, Datum, null}
use Rattle.gd_model.specs.Store as thing
use Rattle.gd_model.specs.declared.fault.RunFault.{RunFault}
use Rattle.gd_model.specs.declared.fault.RunFault.TheVariants.{FreedTarget, NoSuchMethod, NullReceiver, ValueOfAnotherType, WrongNumberOfArguments}
use Rattle.gd_model.specs.declared.ty.Ty.{Ty}
use Rattle.gd_syntax.specs.declared.pos.Pos.{Pos}
use Rattle.syntax_trees.specs.Declarations.{Function}
use Rattle.syntax_trees.specs.Expressions.{Text}
use Rattle.value_semantics.specs.Answer.{and_then}
use Rattle.value_semantics.specs.BuiltinRows.{Row, named, row_of}
use Rattle.value_semantics.specs.Kinds.{kind_of}
use Rattle.value_semantics.specs.Made as made
use Rattle.value_semantics.specs.Made.{Made}
use Rattle.value_semantics.specs.Parameters.{kinds_fit, number_fits, writes}
use Rattle.value_semantics.specs.declared.builtin.Builtin.{Builtin}
use Rattle.value_semantics.specs.declared.builtin.Builtin.TheVariants as b
use Rattle.store_semantics.specs.World.{Connection, Seen, World, line, see, store_of, write}
use Rattle.store_semantics.specs.Writes.{resize}
use Rattle.value_semantics.specs.Builtins.{called}
use Rattle.source_semantics.specs.Attributes.{class_of}
use Rattle.source_semantics.specs.Functions.{all_fit, call, foreseen, has_number, meets}
use Rattle.source_semantics.specs.Meaning.{Code, Frame, code_of}
use Rattle.source_semantics.specs.Methods.{Tests, answered, call_builtin_method, call_function, call_method, checked, dict_put, perform, printed_line, prints, reads_alone, resized, starts, with_array, writes_array, writes_dict}
use Rattle.source_semantics.specs.Methods as method
use Rattle.source_semantics.specs.Project.{Expected, Project}
use Rattle.source_semantics.specs.Project as project
use Rattle.source_semantics.specs.Signals.{call_callable, call_on, call_signal, call_target, connect, emit, emit_all, emit_to, emitted, is_connected, is_of, is_valid, links, may_connect, signal_method, with_connection, without}
use Rattle.source_semantics.specs.Signals as signal
use Rattle.source_semantics.specs.State.{Run, Went, store}
use Rattle.source_semantics.specs.Types.{start_made, start_value}
use Rattle.source_semantics.proofs.Grown.{Adds, Extends, Goes, Step, extends_same, extends_self, extends_then, goes_after, goes_at_place, goes_by, goes_failed, goes_gives, goes_if, goes_tested, goes_then, goes_value, step_of, step_self, step_settled, with_turns}
use Rattle.source_semantics.proofs.GrownPair.{Pair, goes_put, put_adds}

-- ---- functions that are found

module _ (q : Pair) where
  pub goes_foreseen : (tests : List (Option (Pos × Expected))) (vs : List Datum)
      → Goes q.bound (λ r. foreseen q.project tests vs r) (λ r. foreseen q.project tests vs r)
  goes_foreseen [] vs = goes_value tt step_self
  goes_foreseen (None ∷ tests) [] = goes_value tt step_self
  goes_foreseen (Some test ∷ tests) [] = goes_value tt step_self
  goes_foreseen (None ∷ tests) (v ∷ vs) = goes_foreseen tests vs
  goes_foreseen (Some test ∷ tests) (v ∷ vs) =
      goes_then (goes_tested test.0 (λ r. meets q.project r test.1 v) (each test.1)) (λ _. goes_foreseen tests vs)
    where
      each : (x : Expected) (r : Run) (t : ℕ) → meets q.project (with_turns t r) x v ≡ meets q.project r x v
      each (project.a_type y) r t = refl
      each (project.a_parameter y) r t = refl

  pub goes_call : (frame : Frame) (pos : Pos) (tests : List (Option (Pos × Expected))) (code : Code)
      (receiver : Option Datum) (arguments hand : List Datum)
      → Goes q.bound (λ r. call q.project q.left frame pos tests code receiver arguments hand r)
      (λ r. call q.project q.right frame pos tests code receiver arguments hand r)
  goes_call frame pos tests code receiver arguments hand =
      goes_if (has_number code.parameters (length arguments))
      (goes_then (goes_foreseen tests arguments) (λ _.
      goes_then (goes_tested pos (λ r. all_fit q.project r code.parameters arguments) (λ r t. refl))
      (λ _. q.enters _ hand)))
      (goes_failed _ pos None)

  -- ---- Callables

  goes_found : (frame : Frame) (pos : Pos) (receiver : Option Datum) (arguments hand : List Datum)
      (x : Option (ℕ × Function))
      → Goes q.bound (λ r. signal.call_found q.project q.left frame pos receiver arguments hand r x)
      (λ r. signal.call_found q.project q.right frame pos receiver arguments hand r x)
  goes_found frame pos receiver arguments hand (Some f) = goes_call frame pos [] (code_of q.project f) receiver
      arguments hand
  goes_found frame pos receiver arguments hand None = goes_failed _ pos None

  goes_call_on : (frame : Frame) (pos : Pos) (c : Callee) (arguments hand : List Datum) (x : Option ℕ)
      → Goes q.bound (λ r. call_on q.project q.left frame pos c arguments hand r x)
      (λ r. call_on q.project q.right frame pos c arguments hand r x)
  goes_call_on frame pos c arguments hand (Some s) =
      goes_by (λ r. project.method q.project (class_of r s) c.name) (λ r t. refl)
      (λ x. goes_found frame pos (Some (d.object s)) arguments hand x)
  goes_call_on frame pos c arguments hand None = goes_found frame pos None arguments hand
      (project.own_function q.project c.class c.name)

  goes_call_target : (frame : Frame) (pos : Pos) (c : Callee) (arguments hand : List Datum)
      → Goes q.bound (λ r. call_target q.project q.left frame pos c arguments hand r)
      (λ r. call_target q.project q.right frame pos c arguments hand r)
  goes_call_target frame pos c arguments hand = goes_call_on frame pos c arguments hand c.object

  pub goes_call_callable : (frame : Frame) (pos : Pos) (c : Callee) (arguments hand : List Datum)
      → Goes q.bound (λ r. call_callable q.project q.left frame pos c arguments hand r)
      (λ r. call_callable q.project q.right frame pos c arguments hand r)
  goes_call_callable frame pos c arguments hand =
      goes_by (λ r. is_valid r c) (λ r t. refl) (λ b. goes_if b (goes_call_target frame pos c arguments hand)
      (goes_failed FreedTarget pos None))

  -- ---- signals

  step_connected : (c : Connection) → Step (λ r. with_connection r c)
  step_connected c = record { alike = λ r t. refl; turns = λ r. refl; extends = λ r. extends_same r.world _ refl }

  goes_connect : (hand : List Datum) (s : ℕ) (name : Text) (to : Callee) (flags : ℤ)
      → Goes q.bound (λ r. connect hand r s name to flags) (λ r. connect hand r s name to flags)
  goes_connect hand s name to flags =
      goes_by (λ r. may_connect r s name to flags) (λ r t. refl) (λ b. goes_if b
      (goes_after (step_connected (record { emitter = s; signal = name; to = to; one_shot = int_eq flags (int.pos 4) }))
      (goes_gives hand (d.int (int.pos 0))))
      (goes_gives hand (d.int (int.pos 31))))

  step_without : (s : ℕ) (name : Text) (to : Callee) → Step (λ r. without r s name to)
  step_without s name to = record { alike = λ r t. refl; turns = λ r. refl; extends = λ r. extends_same r.world _ refl }

  step_emitted : (s : ℕ) (name : Text) (to : Callee) (once : Bool) → Step (λ r. if once then without r s name to else r)
  step_emitted s name to true = step_without s name to
  step_emitted s name to false = step_self

  goes_emit_to : (frame : Frame) (pos : Pos) (s : ℕ) (name : Text) (arguments hand : List Datum) (c : Connection)
      → Goes q.bound (λ r. emit_to q.project q.left frame pos s name arguments hand r c)
      (λ r. emit_to q.project q.right frame pos s name arguments hand r c)
  goes_emit_to frame pos s name arguments hand c =
      goes_by (λ r. not (is_valid r c.to)) (λ r t. refl) (λ b. goes_if b (goes_value tt step_self)
      (goes_then (goes_after (step_emitted s name c.to c.one_shot) (goes_call_target frame pos c.to arguments hand))
      (λ _. goes_value tt (step_settled hand))))

  goes_emit_all : (frame : Frame) (pos : Pos) (s : ℕ) (name : Text) (arguments hand : List Datum) (cs : List Connection)
      → Goes q.bound (λ r. emit_all q.project q.left frame pos s name arguments hand r cs)
      (λ r. emit_all q.project q.right frame pos s name arguments hand r cs)
  goes_emit_all frame pos s name arguments hand [] = goes_value tt step_self
  goes_emit_all frame pos s name arguments hand (c ∷ cs) =
      goes_then (goes_emit_to frame pos s name arguments hand c) (λ _. goes_emit_all frame pos s name arguments hand cs)

  goes_emit : (frame : Frame) (pos : Pos) (s : ℕ) (name : Text) (arguments hand : List Datum)
      → Goes q.bound (λ r. emit q.project q.left frame pos s name arguments hand r)
      (λ r. emit q.project q.right frame pos s name arguments hand r)
  goes_emit frame pos s name arguments hand =
      goes_by (λ r. links r s name) (λ r t. refl) (λ cs.
      goes_then (goes_emit_all frame pos s name arguments (arguments ++ hand) cs) (λ _. goes_gives hand null))

  goes_signal_method : (frame : Frame) (pos : Pos) (builtin : Builtin) (s : ℕ) (name : Text)
      (arguments hand : List Datum)
      → Goes q.bound (λ r. signal_method q.project q.left frame pos builtin s name arguments hand r)
      (λ r. signal_method q.project q.right frame pos builtin s name arguments hand r)
  goes_signal_method frame pos b.SignalConnect s name (d.callable c ∷ []) hand = goes_connect hand s name c (int.pos 0)
  goes_signal_method frame pos b.SignalConnect s name (d.callable c ∷ d.int flags ∷ []) hand =
      goes_connect hand s name c flags
  goes_signal_method frame pos b.SignalConnect s name (null ∷ more) hand = goes_gives hand (d.int (int.pos 31))
  goes_signal_method frame pos b.SignalDisconnect s name (d.callable c ∷ []) hand = goes_after (step_without s name c)
      (goes_gives hand null)
  goes_signal_method frame pos b.SignalDisconnect s name (null ∷ []) hand = goes_gives hand null
  goes_signal_method frame pos b.SignalIsConnected s name (d.callable c ∷ []) hand =
      goes_by (λ r. is_connected r s name c) (λ r t. refl) (λ x. goes_gives hand (d.bool x))
  goes_signal_method frame pos b.SignalIsConnected s name (null ∷ []) hand = goes_gives hand (d.bool false)
  goes_signal_method frame pos b.SignalEmit s name arguments hand = goes_emit frame pos s name arguments hand
  goes_signal_method frame pos other s name arguments hand = goes_failed _ pos None

  goes_call_signal : (frame : Frame) (pos : Pos) (builtin : Builtin) (s : ℕ) (name : Text) (arguments hand : List Datum)
      → Goes q.bound (λ r. call_signal q.project q.left frame pos builtin s name arguments hand r)
      (λ r. call_signal q.project q.right frame pos builtin s name arguments hand r)
  goes_call_signal frame pos builtin s name arguments hand =
      goes_by (λ r. signal.is_there r s) (λ r t. refl)
      (λ b. goes_if b (goes_signal_method frame pos builtin s name arguments hand)
      (goes_failed FreedTarget pos None))

  -- ---- builtins

  step_sees : (e : Seen) → Step (λ r. record r { world = see r.world e })
  step_sees e = record { alike = λ r t. refl; turns = λ r. refl; extends = λ r. record { seen = e ∷ []; adds = refl } }

  goes_printed_line : (hand : List Datum) (x : Made) → Goes q.bound (λ r. printed_line hand r x)
      (λ r. printed_line hand r x)
  goes_printed_line hand (made.value (d.text t)) = goes_after (step_sees (line t)) (goes_gives hand null)
  goes_printed_line hand x = goes_gives hand null

  goes_answered : (pos : Pos) (hand : List Datum) (builtin : Builtin) (x : Result Made RunFault)
      → Goes q.bound (λ r. answered pos hand r builtin x) (λ r. answered pos hand r builtin x)
  goes_answered pos hand builtin (Err f) = goes_failed f pos None
  goes_answered pos hand builtin (Ok x) =
      goes_if (prints builtin) (goes_printed_line hand x) (goes_then (goes_put pos x) (λ v. goes_gives hand v))

  goes_reads_alone : (pos : Pos) (hand : List Datum) (builtin : Builtin) (arguments : List Datum)
      → Goes q.bound (λ r. reads_alone q.project pos hand r builtin arguments)
      (λ r. reads_alone q.project pos hand r builtin arguments)
  goes_reads_alone pos hand builtin arguments =
      goes_by (λ r. called (store r) (project.names q.project) builtin arguments) (λ r t. refl)
      (λ x. goes_answered pos hand builtin x)

  -- ---- methods that write

  adds_then : {A B : Type 0} (w : World) (x : Result (A × World) RunFault) (f : A × World → Result (B × World) RunFault)
      → Adds w x → ((p : A × World) → Extends w p.1 → Adds w (f p)) → Adds w (and_then x f)
  adds_then w (Ok p) f e k = k p e
  adds_then w (Err g) f e k = tt

  adds_more : {A : Type 0} {v w : World} (x : Result (A × World) RunFault) → Extends v w → Adds w x → Adds v x
  adds_more (Ok p) e a = extends_then e a
  adds_more (Err f) e a = tt

  starts_add : (n : ℕ) (t : Ty) (w : World) → Adds w (starts n t w)
  starts_add zero t w = extends_self w
  starts_add (suc n) t w = adds_then w (start_value w t) _ (put_adds w (start_made t)) (λ first e.
      adds_then w (starts n t first.1) _ (adds_more (starts n t first.1) e (starts_add n t first.1)) (λ rest f. f))

  resized_adds : (a : thing.ArrayThing) (w : World) (arguments : List Datum) → Adds w (resized a w arguments)
  resized_adds a w arguments = by_size (resize a arguments)
    where
      by_size : (x : Result (ℕ × ℕ) RunFault) → Adds w (and_then x (λ n.
          and_then (starts n.1 a.element w) (λ more. Ok (record a { items = take n.0 a.items ++ more.0 }, more.1))))
      by_size (Ok n) = adds_then w (starts n.1 a.element w) _ (starts_add n.1 a.element w) (λ more f. f)
      by_size (Err f) = tt

  step_array : (s : ℕ) (a : thing.ArrayThing) → Step (λ r. with_array r s a)
  step_array s a = record { alike = λ r t. refl; turns = λ r. refl; extends = λ r. extends_same r.world _ refl }

  goes_array_put : (pos : Pos) (hand : List Datum) (s : ℕ) (x : Result (thing.ArrayThing × Datum) RunFault)
      → Goes q.bound (λ r. method.array_put pos hand r s x) (λ r. method.array_put pos hand r s x)
  goes_array_put pos hand s (Err f) = goes_failed f pos None
  goes_array_put pos hand s (Ok x) = goes_after (step_array s x.0) (goes_gives hand x.1)

  goes_writes_array : (pos : Pos) (hand : List Datum) (builtin : Builtin) (s : ℕ) (arguments : List Datum)
      → Goes q.bound (λ r. writes_array q.project pos hand r builtin s arguments)
      (λ r. writes_array q.project pos hand r builtin s arguments)
  goes_writes_array pos hand b.ArrayResize s arguments =
      goes_then (goes_at_place pos (λ w. resized (thing.array_at (store_of w) s) w arguments)
      (λ w. resized_adds (thing.array_at (store_of w) s) w arguments))
      (λ a. goes_after (step_array s a) (goes_gives hand null))
  goes_writes_array pos hand builtin s arguments = goes_by _ (λ r t. refl) (λ x. goes_array_put pos hand s x)

  goes_dict_put : (pos : Pos) (hand : List Datum) (s : ℕ) (x : Result (thing.DictThing × Datum) RunFault)
      → Goes q.bound (λ r. dict_put pos hand r s x) (λ r. dict_put pos hand r s x)
  goes_dict_put pos hand s (Err f) = goes_failed f pos None
  goes_dict_put pos hand s (Ok x) =
      goes_after (step_of (λ w bs. write w s (thing.dict x.0)) (λ w bs. bs) (λ w bs. refl)) (goes_gives hand x.1)

  goes_writes_dict : (pos : Pos) (hand : List Datum) (builtin : Builtin) (s : ℕ) (arguments : List Datum)
      → Goes q.bound (λ r. writes_dict q.project pos hand r builtin s arguments)
      (λ r. writes_dict q.project pos hand r builtin s arguments)
  goes_writes_dict pos hand builtin s arguments = goes_by _ (λ r t. refl) (λ x. goes_dict_put pos hand s x)

  -- ---- builtins as they are called

  goes_perform : (frame : Frame) (pos : Pos) (hand : List Datum) (builtin : Builtin) (receiver : Datum)
      (arguments : List Datum)
      → Goes q.bound (λ r. perform q.project q.left frame pos hand r builtin receiver arguments)
      (λ r. perform q.project q.right frame pos hand r builtin receiver arguments)
  goes_perform frame pos hand builtin (d.array s) arguments =
      goes_if (writes builtin) (goes_writes_array pos hand builtin s arguments)
      (goes_reads_alone pos hand builtin (d.array s ∷ arguments))
  goes_perform frame pos hand builtin (d.dictionary s) arguments =
      goes_if (writes builtin) (goes_writes_dict pos hand builtin s arguments)
      (goes_reads_alone pos hand builtin (d.dictionary s ∷ arguments))
  goes_perform frame pos hand b.CallableCall (d.callable c) arguments = goes_call_callable frame pos c arguments hand
  goes_perform frame pos hand b.CallableIsValid (d.callable c) arguments =
      goes_by (λ r. is_valid r c) (λ r t. refl) (λ x. goes_gives hand (d.bool x))
  goes_perform frame pos hand builtin (d.signal s name) arguments =
      goes_if (kinds_fit ((row_of builtin).required ++ (row_of builtin).optional) (row_of builtin).rest arguments)
      (goes_call_signal frame pos builtin s name arguments hand) (goes_failed ValueOfAnotherType pos None)
  goes_perform frame pos hand builtin receiver arguments = goes_reads_alone pos hand builtin (receiver ∷ arguments)

  goes_checked : {F G : Run → Went Datum} (row : Row) (pos : Pos) (tests : Tests) (arguments : List Datum)
      → Goes q.bound F G
      → Goes q.bound (λ r. checked row q.project pos tests arguments r F)
      (λ r. checked row q.project pos tests arguments r G)
  goes_checked row pos tests arguments g =
      goes_if (number_fits row.required row.optional row.rest arguments)
      (goes_then (goes_foreseen tests arguments) (λ _. g))
      (goes_failed WrongNumberOfArguments pos None)

  pub goes_call_function : (pos : Pos) (tests : Tests) (hand : List Datum) (builtin : Builtin) (arguments : List Datum)
      → Goes q.bound (λ r. call_function q.project pos tests hand r builtin arguments)
      (λ r. call_function q.project pos tests hand r builtin arguments)
  goes_call_function pos tests hand builtin arguments =
      goes_checked (row_of builtin) pos tests arguments (goes_reads_alone pos hand builtin arguments)

  goes_call_builtin_method : (frame : Frame) (pos : Pos) (tests : Tests) (hand : List Datum) (x : Option Builtin)
      (receiver : Datum) (arguments : List Datum)
      → Goes q.bound (λ r. call_builtin_method q.project q.left frame pos tests hand r x receiver arguments)
      (λ r. call_builtin_method q.project q.right frame pos tests hand r x receiver arguments)
  goes_call_builtin_method frame pos tests hand None receiver arguments = goes_failed NoSuchMethod pos None
  goes_call_builtin_method frame pos tests hand (Some builtin) receiver arguments =
      goes_checked (row_of builtin) pos tests arguments (goes_perform frame pos hand builtin receiver arguments)

  goes_call_found : (frame : Frame) (pos : Pos) (tests : Tests) (hand : List Datum) (receiver : Datum)
      (arguments : List Datum) (x : Option (ℕ × Function))
      → Goes q.bound (λ r. method.call_found q.project q.left frame pos tests hand r receiver arguments x)
      (λ r. method.call_found q.project q.right frame pos tests hand r receiver arguments x)
  goes_call_found frame pos tests hand receiver arguments None = goes_failed NoSuchMethod pos None
  goes_call_found frame pos tests hand receiver arguments (Some f) = goes_call frame pos tests (code_of q.project f)
      (Some receiver) arguments hand

  pub goes_call_method : (frame : Frame) (pos : Pos) (tests : Tests) (hand : List Datum) (receiver : Datum)
      (name : Text) (arguments : List Datum)
      → Goes q.bound (λ r. call_method q.project q.left frame pos tests hand r receiver name arguments)
      (λ r. call_method q.project q.right frame pos tests hand r receiver name arguments)
  goes_call_method frame pos tests hand null name arguments = goes_failed NullReceiver pos None
  goes_call_method frame pos tests hand (d.object s) name arguments =
      goes_by (λ r. project.method q.project (class_of r s) name) (λ r t. refl)
      (λ x. goes_call_found frame pos tests hand (d.object s) arguments x)
  goes_call_method frame pos tests hand receiver name arguments =
      goes_call_builtin_method frame pos tests hand (named (Some (kind_of receiver)) name) receiver arguments

  pub goes_call_signal_found : (frame : Frame) (pos : Pos) (receiver : Option Datum) (arguments hand : List Datum)
      (x : Option (ℕ × Function))
      → Goes q.bound (λ r. signal.call_found q.project q.left frame pos receiver arguments hand r x)
      (λ r. signal.call_found q.project q.right frame pos receiver arguments hand r x)
  goes_call_signal_found frame pos receiver arguments hand x = goes_found frame pos receiver arguments hand x
