-- Entering functions, making objects, and whole runs.
use Rattle.std.specs.Prelude.{ℕ, zero, suc, ◌+◌, nat_le, List, [], ◌∷◌, ◌++◌, length, map, Option, None, Some, codes, if◌then◌else◌}
use Rattle.std.specs.List.{flat_map}
use Rattle.gd_model.specs.Datum.{Datum, null, object, array, dictionary}
use Rattle.gd_model.specs.Store as thing
use Rattle.gd_model.specs.Store.{Thing}
use Rattle.gd_model.specs.declared.fault.RunFault.{RunFault}
use Rattle.gd_model.specs.declared.fault.RunFault.TheVariants.{CallsTooDeep}
use Rattle.gd_model.specs.declared.ty.Ty.{Ty}
use Rattle.gd_model.specs.declared.ty.Ty.TheVariants.{Variant}
use Rattle.gd_syntax.specs.declared.pos.Pos.{Pos}
use Rattle.syntax_trees.specs.Declarations.{Function}
use Rattle.syntax_trees.specs.Expressions.{Expr, Text}
use Rattle.store_semantics.specs.World.{Seen, Static, World, leaked, make, with_thing}
use Rattle.source_semantics.specs.Attributes.{store_variable, type_of, with_value, write_static}
use Rattle.source_semantics.specs.Control.{Control, return}
use Rattle.source_semantics.specs.Expressions.{Context, construct, evaluate}
use Rattle.source_semantics.specs.Meaning.{Entry, Making, Meaning, Parameter, code_of, default_of}
use Rattle.source_semantics.specs.Project.{Project, Variable, bases, instance_variables, method, name_of, own_function, static_variables}
use Rattle.source_semantics.specs.Signals.{call_found}
use Rattle.source_semantics.specs.State.{Block, Run, Went, at_place, declare, failed, locals_held, ran_out, settled, store, tested, then_do, went}
use Rattle.source_semantics.specs.Statements.{execute, use_turn}
use Rattle.source_semantics.specs.Types.{fits_type, start_value}

-- ---- entering a function

-- a call enters only where fewer than 1,024 calls stand, and uses one turn
abbrev pub entered : Pos → ℕ → Run → (Run → Went Datum) → Went Datum
entered pos depth r more = if nat_le 1024 depth then failed CallsTooDeep pos None r.world else use_turn r more r.turns

abbrev pub in_frame : Project → Meaning → Option Datum → ℕ → ℕ → Ty → List Text → Context
in_frame p m receiver class depth returns direct =
    record {
      project = p;
      meaning = m;
      frame = record {
        receiver = receiver;
        class = class;
        depth = depth;
        returns =
            returns;
        direct = direct;
      };
    }

abbrev pub with_parameter : Parameter → Datum → Run → Run
with_parameter q v r = declare (record { name = q.name; at = q.at; value = Some v }) r

abbrev pub default_by : Context → List Datum → Run → Ty → Option (Pos × Expr) → Went Datum
default_by c hand r t None = went null r
default_by c hand r t (Some x) =
    then_do (evaluate c hand r x.1) (λ v r. then_do (tested x.0 (fits_type (bases c.project) (store r) t v) r)
    (λ _ r. went v r))

-- a parameter without an argument has its default value, which is evaluated in the function and tested at its `=`
abbrev pub default_value : Context → List Datum → Run → Parameter → Went Datum
default_value c hand r q = default_by c hand r q.takes q.default

abbrev pub with_arguments : Context → List Datum → Run → List Parameter → List Datum → Went (Unit {0})
with_arguments c hand r [] vs = went tt r
with_arguments c hand r (q ∷ qs) (v ∷ vs) = with_arguments c hand (with_parameter q v r) qs vs
with_arguments c hand r (q ∷ qs) [] = then_do (default_value c hand r q)
    (λ v r. with_arguments c hand (settled hand (with_parameter q v r)) qs [])

abbrev pub receiver_held : Option Datum → List Datum
receiver_held None = []
receiver_held (Some v) = v ∷ []

abbrev pub result_of : Control → Datum
result_of (return v) = v
result_of control = null

-- The function has no locals of its caller, whose values are held meanwhile. At its end the result is held first; then
-- receiver, parameters, locals and subjects are given up together.
abbrev pub run_body : Context → List Datum → List Block → Run → Entry → Went Datum
run_body c hand outer r e =
    let held = receiver_held e.receiver ++ hand in
    then_do (with_arguments c held (record r { blocks = [] ∷ [] }) e.code.parameters e.arguments) (λ _ r.
    then_do (execute c held r e.code.body) (λ control r.
    went (result_of control) (settled (result_of control ∷ hand) (record r { blocks = outer }))))

abbrev pub enter_with : Project → Meaning → Entry → List Datum → Run → Went Datum
enter_with p m e hand r =
    entered e.pos e.depth r (λ now.
    run_body (in_frame p m e.receiver e.code.class (e.depth + 1) e.code.returns e.code.direct)
    (hand ++ locals_held r) r.blocks now e)

-- ---- making an object

-- every variable has the start value of its type, one after another
abbrev pub start_all : Project → Pos → Run → ℕ → List Variable → Went (Unit {0})
start_all p pos r s [] = went tt r
start_all p pos r s (v ∷ vs) =
    then_do (at_place pos r (start_value r.world (type_of p v)))
    (λ x r. start_all p pos (with_value p r s (name_of v) x) s vs)

abbrev pub initial_by : Project → Meaning → ℕ → List Datum → Run → ℕ → Variable → Option (Pos × Expr) → Went (Unit {0})
initial_by p m depth hand r s v None = went tt r
initial_by p m depth hand r s v (Some x) =
    then_do (evaluate (in_frame p m (Some (object s)) v.class depth Variant []) hand r x.1) (λ value r.
    store_variable p x.0 hand r s v value)

-- then the initial values are evaluated and put in, in the same order and without setters; each is tested at its `=`
abbrev pub initial_value : Project → Meaning → ℕ → List Datum → Run → ℕ → Variable → Went (Unit {0})
initial_value p m depth hand r s v = initial_by p m depth hand r s v
    (default_of v.decl.variable.equals v.decl.variable.value)

abbrev pub initial_values : Project → Meaning → ℕ → List Datum → Run → ℕ → List Variable → Went (Unit {0})
initial_values p m depth hand r s [] = went tt r
initial_values p m depth hand r s (v ∷ vs) =
    then_do (initial_value p m depth hand r s v) (λ _ r. initial_values p m depth hand r s vs)

abbrev pub init_entry : Project → Making → ℕ → ℕ × Function → Entry
init_entry p x s f =
    record { code = code_of p f; receiver = Some (object s); arguments = x.arguments; depth = x.depth + 1; pos = x.pos }

abbrev pub initialize_by : Project → Meaning → Making → List Datum → Run → ℕ → Option (ℕ × Function) → Went (Unit {0})
initialize_by p m x hand r s None = went tt r
initialize_by p m x hand r s (Some f) =
    then_do (m.enter (init_entry p x s f) (object s ∷ hand) r) (λ _ r. went tt (settled (object s ∷ hand) r))

-- the nearest `_init` is a further call; it takes the arguments, and its result is given up
abbrev pub initialize : Project → Meaning → Making → List Datum → Run → ℕ → Went (Unit {0})
initialize p m x hand r s = initialize_by p m x hand r s (method p x.class (codes "_init"))

abbrev pub nulls : List Variable → List Datum
nulls vs = map (λ _. null) vs

abbrev pub make_object : Project → Meaning → Making → List Datum → List Block → Run → Went Datum
make_object p m x hand outer r =
    let variables = instance_variables p x.class in
    then_do (at_place x.pos r (make r.world (thing.object x.class (nulls variables)))) (λ s r.
    let held = object s ∷ x.arguments ++ hand in
    then_do (start_all p x.pos r s variables) (λ _ r.
    then_do (initial_values p m (x.depth + 1) held r s variables) (λ _ r.
    then_do (initialize p m x hand r s)
    (λ _ r. went (object s) (settled (object s ∷ hand) (record r { blocks = outer }))))))

abbrev pub make_with : Project → Meaning → Making → List Datum → Run → Went Datum
make_with p m x hand r = entered x.pos x.depth r (λ now. make_object p m x (hand ++ locals_held r) r.blocks
    (record now { blocks = [] }))

-- What entering and making mean where at most so many of them go on one inside another or one after another. As each
-- uses a turn, the turns of a run are enough.
unfoldable pub meaning : ℕ → Project → Meaning
meaning zero p = record { enter = λ e hand r. ran_out r.world; make = λ x hand r. ran_out r.world }
meaning (suc turns) p = record {
  enter = λ e hand r. enter_with p (meaning turns p) e hand r;
  make = λ x hand r. make_with p (meaning turns p) x hand r;
}

-- ---- a run

-- how a run ended
pub data Ended : Type 0 where
  done : Ended
  fault : RunFault → Pos → Option Text → Ended
  out_of_turns : Ended

abbrev pub no_class : ℕ → Meaning → Project → Context
no_class class m p = in_frame p m None class 0 Variant []

-- the constants are made in their order
abbrev pub with_things : World → List Thing → World
with_things w [] = w
with_things w (t ∷ ts) = with_things (with_thing w t) ts

abbrev pub held_thing : ℕ → Thing → List Datum
held_thing s (thing.object class values) = object s ∷ []
held_thing s (thing.array a) = array s ∷ []
held_thing s (thing.dict m) = dictionary s ∷ []

abbrev pub held_from : ℕ → List Thing → List Datum
held_from s [] = []
held_from s (t ∷ ts) = held_thing s t ++ held_from (s + 1) ts

-- nothing but the constants, which are held to the end
abbrev pub beginning : Project → ℕ → Run
beginning p turns =
    let empty : World = record { things = []; made = 0; statics = []; constants = []; connections = []; events = [] } in
    let made : World = with_things empty p.things in
    record { world = record made { constants = held_from 1 p.things }; blocks = []; turns = turns }

abbrev pub all_statics : ℕ → ℕ → Project → List Variable
all_statics zero number p = []
all_statics (suc left) number p = static_variables p number ++ all_statics left (number + 1) p

abbrev pub with_static : Variable → Datum → Run → Run
with_static v x r = record r { world = record r.world { statics = r.world.statics ++ static_of v x ∷ [] } }
  where
    static_of : Variable → Datum → Static
    static_of v x = record { class = v.class; name = name_of v; value = x }

-- all static variables get their start values, in class order
abbrev pub start_statics : Project → Pos → Run → List Variable → Went (Unit {0})
start_statics p pos r [] = went tt r
start_statics p pos r (v ∷ vs) =
    then_do (at_place pos r (start_value r.world (type_of p v))) (λ x r. start_statics p pos (with_static v x r) vs)

abbrev pub static_by : Project → Meaning → Run → Variable → Option (Pos × Expr) → Went (Unit {0})
static_by p m r v None = went tt r
static_by p m r v (Some x) =
    then_do (evaluate (no_class v.class m p) [] r x.1) (λ value r. write_static p x.0 [] r v value)

abbrev pub initial_static : Project → Meaning → Run → Variable → Went (Unit {0})
initial_static p m r v = static_by p m r v (default_of v.decl.variable.equals v.decl.variable.value)

abbrev pub initial_statics : Project → Meaning → Run → List Variable → Went (Unit {0})
initial_statics p m r [] = went tt r
initial_statics p m r (v ∷ vs) = then_do (initial_static p m r v) (λ _ r. initial_statics p m r vs)

abbrev pub static_entry : Project → ℕ × Function → Entry
static_entry p f = record { code = code_of p f; receiver = None; arguments = []; depth = 0; pos = f.1.pos }

abbrev pub static_init_by : Project → Meaning → Run → Option (ℕ × Function) → Went (Unit {0})
static_init_by p m r None = went tt r
static_init_by p m r (Some f) = then_do (m.enter (static_entry p f) [] r) (λ _ r. went tt (settled [] r))

-- a class's own `_static_init`
abbrev pub static_init : Project → Meaning → Run → ℕ → Went (Unit {0})
static_init p m r number = static_init_by p m r (own_function p number (codes "_static_init"))

-- for each class its static variables get their initial values, and then its `_static_init` is called
abbrev pub prepare_class : Project → Meaning → Run → ℕ → Went (Unit {0})
prepare_class p m r number =
    then_do (initial_statics p m r (static_variables p number)) (λ _ r. static_init p m r number)

abbrev pub prepare : ℕ → ℕ → Project → Meaning → Run → Went (Unit {0})
prepare zero number p m r = went tt r
prepare (suc left) number p m r = then_do (prepare_class p m r number) (λ _ r. prepare left (number + 1) p m r)

-- the main instance, its `test`, whose result is given up, and then the instance, and then all statics together
abbrev pub run_main : Project → Meaning → Pos → ℕ → Run → Went (Unit {0})
run_main p m pos main r =
    let c = no_class main m p in
    then_do (construct c pos [] r main []) (λ x r.
    then_do (call_found p m c.frame pos (Some x) [] (x ∷ []) r (method p main (codes "test"))) (λ _ r.
    let alone = settled [] (settled (x ∷ []) r) in
    went tt (settled [] (record alone { world = record alone.world { statics = [] } }))))

abbrev pub leaked_of : ℕ × Thing → List Seen
leaked_of (s, thing.object class values) = leaked s class ∷ []
leaked_of p = []

-- the objects that are still there, by rising serial number
abbrev pub leaks : World → List Seen
leaks w = flat_map leaked_of w.things

abbrev pub outcome : Went (Unit {0}) → List Seen × Ended
outcome (went x r) = (r.world.events ++ leaks r.world, done)
outcome (failed f pos message w) = (w.events, fault f pos message)
outcome (ran_out w) = (w.events, out_of_turns)

-- What a run of the main class with so many turns is: its events, and how it ends. Operations that no text asks for
-- have the place 1:1 of the main file.
abbrev pub run : Project → ℕ → Pos → ℕ → List Seen × Ended
run p main pos turns =
    let m = meaning (turns + 1) p in let count = length p.classes in
    outcome (then_do (start_statics p pos (beginning p turns) (all_statics count 1 p)) (λ _ r.
    then_do (prepare count 1 p m r) (λ _ r. run_main p m pos main r)))
