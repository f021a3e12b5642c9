-- Calls, new objects and whole runs with more turns.
use Rattle.std.proofs.Common.{ℕ, zero, suc, ◌<◌, ◌+◌, List, [], ◌∷◌, ◌++◌, length, refl, ap, ◌∙◌, arith}
use Rattle.std.specs.Prelude.{Bool, true, false, codes, nat_le, Option, None, Some, if◌then◌else◌}
use Rattle.std.proofs.Math.Nat.{le_refl}
use Rattle.std.proofs.lemmas.List.{append_assoc}
use Rattle.gd_model.specs.Datum.{Datum, null, object}
use Rattle.gd_model.specs.Store as thing
use Rattle.gd_model.specs.declared.fault.RunFault.TheVariants.{CallsTooDeep}
use Rattle.gd_model.specs.declared.ty.Ty.{Ty}
use Rattle.gd_model.specs.declared.ty.Ty.TheVariants.{Variant}
use Rattle.gd_syntax.specs.declared.pos.Pos.{Pos}
use Rattle.syntax_trees.specs.Declarations.{Function}
use Rattle.syntax_trees.specs.Expressions.{Expr}
use Rattle.store_semantics.specs.World.{World}
use Rattle.source_semantics.specs.Attributes.{type_of}
use Rattle.source_semantics.specs.Meaning.{Entry, Frame, Making, Meaning, Parameter, default_of}
use Rattle.source_semantics.specs.Project as project
use Rattle.source_semantics.specs.Project.{Project, Variable, bases, instance_variables, name_of, own_function, static_variables}
use Rattle.source_semantics.specs.Running.{all_statics, beginning, default_by, enter_with, initial_by, initial_statics, initial_values, initialize_by, leaks, make_object, make_with, meaning, nulls, out_of_turns, outcome, prepare, receiver_held, result_of, run_body, run_main, start_all, start_statics, static_by, static_init_by, with_arguments, with_parameter}
use Rattle.source_semantics.specs.State.{Block, Run, Went, failed, locals_held, ran_out, store, then_do, went}
use Rattle.source_semantics.specs.Types.{fits_type}
use Rattle.source_semantics.specs.Growth.{GoesOn, MoreTurnsGoOn, further, the_same}
use Rattle.source_semantics.proofs.Grown.{Bound, Extends, Goes, Grown, Step, extends_self, fault, goes_after, goes_by, goes_failed, goes_if, goes_tested, goes_then, goes_value, out, step_of, step_self, step_settled, step_then, well, with_turns, world_of}
use Rattle.source_semantics.proofs.GrownAttributes.{goes_store_variable, goes_write_static, step_with_value}
use Rattle.source_semantics.proofs.GrownCalls.{goes_call_signal_found}
use Rattle.source_semantics.proofs.GrownExpressions.{goes_construct, goes_evaluate}
use Rattle.source_semantics.proofs.GrownPair.{Pair, goes_make, goes_start, left_of, right_of}
use Rattle.source_semantics.proofs.GrownStatements.{goes_execute, step_declare}
use Rattle.source_semantics.proofs.GrownTurns.{Keeps, goes_use_turn, keeps_by, keeps_use_turn, kept, less, nothing_below, pred_less}

module _ (q : Pair) where
  -- ---- entering a function

  goes_default_by : (frame : Frame) (hand : List Datum) (t : Ty) (x : Option (Pos × Expr))
      → Goes q.bound (λ r. default_by (left_of q frame) hand r t x) (λ r. default_by (right_of q frame) hand r t x)
  goes_default_by frame hand t None = goes_value null step_self
  goes_default_by frame hand t (Some x) =
      goes_then (goes_evaluate q frame hand x.1) (λ v.
      goes_then (goes_tested x.0 (λ r. fits_type (bases q.project) (store r) t v) (λ r t. refl))
      (λ _. goes_value v step_self))

  step_parameter : (x : Parameter) (v : Datum) → Step (with_parameter x v)
  step_parameter x v = step_declare (record { name = x.name; at = x.at; value = Some v })

  goes_with_arguments : (frame : Frame) (hand : List Datum) (xs : List Parameter) (vs : List Datum)
      → Goes q.bound (λ r. with_arguments (left_of q frame) hand r xs vs)
      (λ r. with_arguments (right_of q frame) hand r xs vs)
  goes_with_arguments frame hand [] vs = goes_value tt step_self
  goes_with_arguments frame hand (x ∷ xs) (v ∷ vs) = goes_after (step_parameter x v)
      (goes_with_arguments frame hand xs vs)
  goes_with_arguments frame hand (x ∷ xs) [] =
      goes_then (goes_default_by frame hand x.takes x.default) (λ v.
      goes_after (step_then (step_parameter x v) (step_settled hand)) (goes_with_arguments frame hand xs []))

  step_blocks : (bs : List Block) → Step (λ r. record r { blocks = bs })
  step_blocks bs = step_of (λ w cs. w) (λ w cs. bs) (λ w cs. refl)

  goes_run_body : (frame : Frame) (hand : List Datum) (outer : List Block) (e : Entry)
      → Goes q.bound (λ r. run_body (left_of q frame) hand outer r e) (λ r. run_body (right_of q frame) hand outer r e)
  goes_run_body frame hand outer e =
      goes_then (goes_after (step_blocks ([] ∷ []))
      (goes_with_arguments frame (receiver_held e.receiver ++ hand) e.code.parameters e.arguments)) (λ _.
      goes_then (goes_execute q frame (receiver_held e.receiver ++ hand) e.code.body) (λ control.
      goes_value (result_of control) (step_then (step_blocks outer) (step_settled (result_of control ∷ hand)))))

  -- ---- making an object

  goes_start_all : (pos : Pos) (s : ℕ) (vs : List Variable)
      → Goes q.bound (λ r. start_all q.project pos r s vs) (λ r. start_all q.project pos r s vs)
  goes_start_all pos s [] = goes_value tt step_self
  goes_start_all pos s (v ∷ vs) =
      goes_then (goes_start pos (type_of q.project v)) (λ x.
      goes_after (step_with_value q.project s (name_of v) x) (goes_start_all pos s vs))

  goes_initial_by : (depth : ℕ) (hand : List Datum) (s : ℕ) (v : Variable) (x : Option (Pos × Expr))
      → Goes q.bound (λ r. initial_by q.project q.left depth hand r s v x)
      (λ r. initial_by q.project q.right depth hand r s v x)
  goes_initial_by depth hand s v None = goes_value tt step_self
  goes_initial_by depth hand s v (Some x) =
      goes_then (goes_evaluate q (record {
        receiver = Some (object s);
        class = v.class;
        depth = depth;
        returns =
            Variant;
        direct = [];
      }) hand x.1) (λ value.
      goes_store_variable q x.0 hand s v value)

  goes_initial_values : (depth : ℕ) (hand : List Datum) (s : ℕ) (vs : List Variable)
      → Goes q.bound (λ r. initial_values q.project q.left depth hand r s vs)
      (λ r. initial_values q.project q.right depth hand r s vs)
  goes_initial_values depth hand s [] = goes_value tt step_self
  goes_initial_values depth hand s (v ∷ vs) =
      goes_then (goes_initial_by depth hand s v (default_of v.decl.variable.equals v.decl.variable.value))
      (λ _. goes_initial_values depth hand s vs)

  goes_initialize_by : (x : Making) (hand : List Datum) (s : ℕ) (f : Option (ℕ × Function))
      → Goes q.bound (λ r. initialize_by q.project q.left x hand r s f)
      (λ r. initialize_by q.project q.right x hand r s f)
  goes_initialize_by x hand s None = goes_value tt step_self
  goes_initialize_by x hand s (Some f) = goes_then (q.enters _ (object s ∷ hand))
      (λ _. goes_value tt (step_settled (object s ∷ hand)))

  goes_make_object : (x : Making) (hand : List Datum) (outer : List Block)
      → Goes q.bound (λ r. make_object q.project q.left x hand outer r)
      (λ r. make_object q.project q.right x hand outer r)
  goes_make_object x hand outer =
      goes_then (goes_make x.pos (thing.object x.class (nulls (instance_variables q.project x.class)))) (λ s.
      goes_then (goes_start_all x.pos s (instance_variables q.project x.class)) (λ _.
      goes_then (goes_initial_values (x.depth + 1) (object s ∷ x.arguments ++ hand) s
      (instance_variables q.project x.class)) (λ _.
      goes_then (goes_initialize_by x hand s (project.method q.project x.class (codes "_init"))) (λ _.
      goes_value (object s) (step_then (step_blocks outer) (step_settled (object s ∷ hand)))))))

  -- ---- a run of these meanings

  goes_start_statics : (pos : Pos) (vs : List Variable)
      → Goes q.bound (λ r. start_statics q.project pos r vs) (λ r. start_statics q.project pos r vs)
  goes_start_statics pos [] = goes_value tt step_self
  goes_start_statics pos (v ∷ vs) =
      goes_then (goes_start pos (type_of q.project v)) (λ x.
      goes_after (step_of (λ w bs. record w {
        statics = w.statics ++
            (record { class = v.class; name = name_of v; value = x }) ∷ [];
      }) (λ w bs. bs) (λ w bs. refl))
      (goes_start_statics pos vs))

  static_frame : ℕ → Frame
  static_frame class = record { receiver = None; class = class; depth = 0; returns = Variant; direct = [] }

  goes_static_by : (v : Variable) (x : Option (Pos × Expr))
      → Goes q.bound (λ r. static_by q.project q.left r v x) (λ r. static_by q.project q.right r v x)
  unfolding static_frame
  goes_static_by v None = goes_value tt step_self
  goes_static_by v (Some x) =
      goes_then (goes_evaluate q (static_frame v.class) [] x.1) (λ value. goes_write_static q x.0 [] v value)

  goes_initial_statics : (vs : List Variable)
      → Goes q.bound (λ r. initial_statics q.project q.left r vs) (λ r. initial_statics q.project q.right r vs)
  goes_initial_statics [] = goes_value tt step_self
  goes_initial_statics (v ∷ vs) =
      goes_then (goes_static_by v (default_of v.decl.variable.equals v.decl.variable.value))
      (λ _. goes_initial_statics vs)

  goes_static_init_by : (f : Option (ℕ × Function))
      → Goes q.bound (λ r. static_init_by q.project q.left r f) (λ r. static_init_by q.project q.right r f)
  goes_static_init_by None = goes_value tt step_self
  goes_static_init_by (Some f) = goes_then (q.enters _ []) (λ _. goes_value tt (step_settled []))

  goes_prepare : (left number : ℕ)
      → Goes q.bound (λ r. prepare left number q.project q.left r) (λ r. prepare left number q.project q.right r)
  goes_prepare zero number = goes_value tt step_self
  goes_prepare (suc left) number =
      goes_then (goes_then (goes_initial_statics (static_variables q.project number)) (λ _.
      goes_static_init_by (own_function q.project number (codes "_static_init")))) (λ _.
      goes_prepare left (number + 1))

  goes_run_main : (pos : Pos) (main : ℕ)
      → Goes q.bound (λ r. run_main q.project q.left pos main r) (λ r. run_main q.project q.right pos main r)
  unfolding static_frame
  goes_run_main pos main =
      goes_then (goes_construct q (static_frame main) pos [] main []) (λ x.
      goes_then (goes_call_signal_found q (static_frame main) pos (Some x) [] (x ∷ [])
      (project.method q.project main (codes "test"))) (λ _.
      goes_value tt (step_then (step_settled (x ∷ [])) (step_then (step_settled []) (step_then
      (step_of (λ w bs. record w { statics = [] }) (λ w bs. bs) (λ w bs. refl)) (step_settled []))))))

  goes_whole : (pos : Pos) (main count : ℕ) (vs : List Variable)
      → Goes q.bound
      (λ r. then_do (start_statics q.project pos r vs) (λ _ r.
      then_do (prepare count 1 q.project q.left r) (λ _ r. run_main q.project q.left pos main r)))
      (λ r. then_do (start_statics q.project pos r vs) (λ _ r.
      then_do (prepare count 1 q.project q.right r) (λ _ r. run_main q.project q.right pos main r)))
  goes_whole pos main count vs =
      goes_then (goes_start_statics pos vs) (λ _. goes_then (goes_prepare count 1) (λ _. goes_run_main pos main))

-- ---- meanings with as much fuel as there are turns

abbrev Both : Bound → Meaning → Meaning → Type 0
Both n l m = ((e : Entry) (hand : List Datum) → Goes n (l.enter e hand) (m.enter e hand)) ×
    ((x : Making) (hand : List Datum) → Goes n (l.make x hand) (m.make x hand))

abbrev pair_with : (n : Bound) → Project → (l m : Meaning) → Both n l m → Pair
pair_with n p l m b = record { bound = n; project = p; left = l; right = m; enters = b.0; makes = b.1 }

-- one that has run out of turns
abbrev spent : Meaning
spent = record { enter = λ e hand r. ran_out r.world; make = λ x hand r. ran_out r.world }

goes_out : {A : Type 0} {n : Bound} {G : Run → Went A} → Keeps G → Goes n (λ r. ran_out r.world) G
goes_out k = record { keeps = k.adds; same = λ r t w. out r.world refl (k.adds (with_turns t r)) }

abbrev BothKeep : Meaning → Type 0
BothKeep m = ((e : Entry) (hand : List Datum) → Keeps (m.enter e hand)) × ((x : Making) (hand : List Datum)
    → Keeps (m.make x hand))

abbrev beside_spent : Project → (m : Meaning) → BothKeep m → Pair
beside_spent p m k = pair_with (record { left = 0; right = 0 }) p spent m
    ((λ e hand. goes_out (k.0 e hand)), (λ x hand. goes_out (k.1 x hand)))

keeps_if : {A : Type 0} {F G : Run → Went A} (b : Bool) → Keeps F → Keeps G → Keeps (λ r. if b then F r else G r)
keeps_if true f g = f
keeps_if false f g = g

abbrev frame_of : Entry → Frame
frame_of e = record {
  receiver = e.receiver;
  class = e.code.class;
  depth = e.depth + 1;
  returns = e.code.returns;
  direct = e.code.direct;
}

keeps_body : (p : Project) (m : Meaning) (k : BothKeep m) (e : Entry) (hand : List Datum) (outer : List Block)
    → Keeps (λ r. run_body (record { project = p; meaning = m; frame = frame_of e }) hand outer r e)
keeps_body p m k e hand outer = kept (goes_run_body (beside_spent p m k) (frame_of e) hand outer e)

keeps_made : (p : Project) (m : Meaning) (k : BothKeep m) (x : Making) (hand : List Datum) (outer : List Block)
    → Keeps (λ r. make_object p m x hand outer (record r { blocks = [] }))
keeps_made p m k x hand outer =
    kept (goes_after (step_blocks (beside_spent p m k) []) (goes_make_object (beside_spent p m k) x hand outer))

-- what the caller holds, and its blocks
abbrev Caller : Type 0
Caller = List Datum × List Block

keeps_enter_with : (p : Project) (m : Meaning) → BothKeep m → (e : Entry) (hand : List Datum)
    → Keeps (enter_with p m e hand)
keeps_enter_with p m k e hand =
    keeps_by {D = Caller} (λ r. (locals_held r, r.blocks))
    (λ d. keeps_if (nat_le 1024 e.depth)
    (kept {n = record { left = 0; right = 0 }} (goes_failed CallsTooDeep e.pos None))
    (keeps_use_turn (keeps_body p m k e (hand ++ d.0) d.1)))

keeps_make_with : (p : Project) (m : Meaning) → BothKeep m → (x : Making) (hand : List Datum)
    → Keeps (make_with p m x hand)
keeps_make_with p m k x hand =
    keeps_by {D = Caller} (λ r. (locals_held r, r.blocks))
    (λ d. keeps_if (nat_le 1024 x.depth)
    (kept {n = record { left = 0; right = 0 }} (goes_failed CallsTooDeep x.pos None))
    (keeps_use_turn (keeps_made p m k x (hand ++ d.0) d.1)))

meaning_keeps : (b : ℕ) (p : Project) → BothKeep (meaning b p)
unfolding meaning
meaning_keeps zero p = (
  (λ e hand. record { adds = λ r. extends_self r.world }),
  (λ x hand. record { adds = λ r. extends_self r.world }),
)
meaning_keeps (suc b) p = (
  (λ e hand. keeps_enter_with p (meaning b p) (meaning_keeps b p) e hand),
  (λ x hand. keeps_make_with p (meaning b p) (meaning_keeps b p) x hand),
)

goes_enter_with : (n : Bound) (p : Project) (l m : Meaning) → BothKeep m
    → (0 < n.left → 0 < n.right → Both (less n) l m)
    → (e : Entry) (hand : List Datum) → Goes n (enter_with p l e hand) (enter_with p m e hand)
goes_enter_with n p l m k b e hand =
    goes_by {D = Caller} (λ r. (locals_held r, r.blocks)) (λ r t. refl)
    (λ d. goes_if (nat_le 1024 e.depth) (goes_failed CallsTooDeep e.pos None)
    (goes_use_turn (keeps_body p m k e (hand ++ d.0) d.1)
    (λ hl hr. goes_run_body (pair_with (less n) p l m (b hl hr)) (frame_of e) (hand ++ d.0) d.1 e)))

goes_make_with : (n : Bound) (p : Project) (l m : Meaning) → BothKeep m → (0 < n.left → 0 < n.right → Both (less n) l m)
    → (x : Making) (hand : List Datum) → Goes n (make_with p l x hand) (make_with p m x hand)
goes_make_with n p l m k b x hand =
    goes_by {D = Caller} (λ r. (locals_held r, r.blocks)) (λ r t. refl)
    (λ d. goes_if (nat_le 1024 x.depth) (goes_failed CallsTooDeep x.pos None)
    (goes_use_turn (keeps_made p m k x (hand ++ d.0) d.1)
    (λ hl hr. let q = pair_with (less n) p l m (b hl hr) in goes_after (step_blocks q [])
    (goes_make_object q x (hand ++ d.0) d.1))))

meanings_go_on : (a b : ℕ) (n : Bound) (p : Project) → n.left < a → n.right < b → Both n (meaning a p) (meaning b p)
unfolding meaning
meanings_go_on zero b n p ha hb = absurd (nothing_below n.left ha)
meanings_go_on (suc a) zero n p ha hb = absurd (nothing_below n.right hb)
meanings_go_on (suc a) (suc b) n p ha hb =
    let inner : 0 < n.left → 0 < n.right → Both (less n) (meaning a p) (meaning b p) =
    λ hl hr. meanings_go_on a b (less n) p (pred_less n.left a hl ha) (pred_less n.right b hr hb) in (
      (λ e hand. goes_enter_with n p (meaning a p) (meaning b p) (meaning_keeps b p) inner e hand),
      (λ x hand. goes_make_with n p (meaning a p) (meaning b p) (meaning_keeps b p) inner x hand),
    )

-- ---- a run

seen_further : (w : World) (b : Went (Unit {0})) → Extends w (world_of b) → GoesOn (w.events, out_of_turns) (outcome b)
seen_further w (went x r) e = further (e.seen ++ leaks r.world) refl
    (ap (λ xs. xs ++ leaks r.world) e.adds ∙ append_assoc w.events e.seen (leaks r.world))
seen_further w (failed f pos message v) e = further e.seen refl e.adds
seen_further w (ran_out v) e = further e.seen refl e.adds

outcome_goes_on : (n : Bound) (a b : Went (Unit {0})) → Grown n a b → GoesOn (outcome a) (outcome b)
outcome_goes_on n a b (well x r t w ea eb) = the_same (rw (ea, eb) refl)
outcome_goes_on n a b (fault f pos message w ea eb) = the_same (rw (ea, eb) refl)
outcome_goes_on n a b (out w ea e) = rw ea (seen_further w b e)

less_than_next : (n : ℕ) → n < n + 1
less_than_next n = omega arith

pub more_turns_go_on : MoreTurnsGoOn
more_turns_go_on p main pos turns more h =
    let n : Bound = record { left = turns; right = more } in
    let q = pair_with n p (meaning (turns + 1) p) (meaning (more + 1) p)
    (meanings_go_on (turns + 1) (more + 1) n p (less_than_next turns) (less_than_next more)) in
    outcome_goes_on n _ _ ((goes_whole q pos main (length p.classes) (all_statics (length p.classes) 1 p)).same
    (beginning p turns) more
    (record { fewer = h; left = le_refl turns; right = le_refl more }))
