-- Callables and signals: calling, connecting, emitting.
use Rattle.std.specs.Prelude as int
use Rattle.std.specs.Prelude.{ℕ, ℤ, Bool, true, false, not, ◌&&◌, ◌||◌, nat_eq, is_some, List, [], ◌∷◌, ◌++◌, filter, Option, None, Some, bytes_eq, codes, if◌then◌else◌}
use Rattle.std.specs.List.{list_any}
use Rattle.std.specs.Ordering.{int_eq}
use Rattle.gd_model.specs.Datum as d
use Rattle.gd_model.specs.Datum.{Callee, Datum, null}
use Rattle.gd_model.specs.Same.{same_target}
use Rattle.gd_model.specs.declared.fault.RunFault.TheVariants.{FreedTarget, NoSuchMethod, ValueOfAnotherType}
use Rattle.gd_syntax.specs.declared.pos.Pos.{Pos}
use Rattle.syntax_trees.specs.Declarations.{Function}
use Rattle.syntax_trees.specs.Expressions.{Text}
use Rattle.value_semantics.specs.declared.builtin.Builtin.{Builtin}
use Rattle.value_semantics.specs.declared.builtin.Builtin.TheVariants as b
use Rattle.store_semantics.specs.World.{Connection}
use Rattle.source_semantics.specs.Attributes.{class_of}
use Rattle.source_semantics.specs.Functions.{call}
use Rattle.source_semantics.specs.Meaning.{Frame, Meaning, code_of}
use Rattle.source_semantics.specs.Project.{Project, method, own_function}
use Rattle.source_semantics.specs.State.{Run, Went, failed, gives, settled, store, then_do, went}

-- whether the object with a serial number is still there
abbrev pub is_there : Run → ℕ → Bool
is_there r s = is_some (store r s)

-- whether what a Callable calls is still there: a static function always is
abbrev pub is_valid : Run → Callee → Bool
is_valid r c = behind c.object
  where
    behind : Option ℕ → Bool
    behind None = true
    behind (Some s) = is_there r s

abbrev pub call_found : Project → Meaning → Frame → Pos → Option Datum → List Datum → List Datum → Run
    → Option (ℕ × Function) → Went Datum
call_found p m frame pos receiver arguments hand r (Some f) = call p m frame pos [] (code_of p f) receiver arguments
    hand r
call_found p m frame pos receiver arguments hand r None = failed NoSuchMethod pos None r.world

abbrev pub call_on : Project → Meaning → Frame → Pos → Callee → List Datum → List Datum → Run → Option ℕ → Went Datum
call_on p m frame pos c arguments hand r (Some s) =
    call_found p m frame pos (Some (d.object s)) arguments hand r (method p (class_of r s) c.name)
call_on p m frame pos c arguments hand r None = call_found p m frame pos None arguments hand r
    (own_function p c.class c.name)

-- what a Callable calls: a method of its object, by name from the object's own class, or a static function
abbrev pub call_target : Project → Meaning → Frame → Pos → Callee → List Datum → List Datum → Run → Went Datum
call_target p m frame pos c arguments hand r = call_on p m frame pos c arguments hand r c.object

-- a call of a Callable: of a freed object it is a fault before every other check
abbrev pub call_callable : Project → Meaning → Frame → Pos → Callee → List Datum → List Datum → Run → Went Datum
call_callable p m frame pos c arguments hand r =
    if is_valid r c then call_target p m frame pos c arguments hand r else failed FreedTarget pos None r.world

-- ---- connections

abbrev pub is_of : ℕ → Text → Connection → Bool
is_of s name c = nat_eq c.emitter s && bytes_eq c.signal name

abbrev pub links : Run → ℕ → Text → List Connection
links r s name = filter (is_of s name) r.world.connections

abbrev pub is_connected : Run → ℕ → Text → Callee → Bool
is_connected r s name to = list_any (λ (c : Connection). same_target c.to to) (links r s name)

abbrev pub without : Run → ℕ → Text → Callee → Run
without r s name to = record r {
  world = record r.world {
    connections = filter (λ (c : Connection). not (is_of s name c && same_target c.to to)) r.world.connections;
  };
}

abbrev pub with_connection : Run → Connection → Run
with_connection r c = record r { world = record r.world { connections = r.world.connections ++ c ∷ [] } }

abbrev pub may_connect : Run → ℕ → Text → Callee → ℤ → Bool
may_connect r s name to flags = (int_eq flags (int.pos 0) || int_eq flags (int.pos 4)) && not (is_connected r s name to)

-- `connect` answers 0 where it connects, at the end of the list, and else 31, changing nothing
abbrev pub connect : List Datum → Run → ℕ → Text → Callee → ℤ → Went Datum
connect hand r s name to flags =
    if may_connect r s name to flags
    then gives hand (d.int (int.pos 0))
    (with_connection r (record { emitter = s; signal = name; to = to; one_shot = int_eq flags (int.pos 4) }))
    else gives hand (d.int (int.pos 31)) r

-- ---- emission: the list as it was when it began, in order

abbrev pub emitted : Run → ℕ → Text → Connection → Run
emitted r s name c = if c.one_shot then without r s name c.to else r

-- one target: a freed one is skipped; a connection for one emission is taken away before its call; the result is given
-- up
abbrev pub emit_to : Project → Meaning → Frame → Pos → ℕ → Text → List Datum → List Datum → Run → Connection
    → Went (Unit {0})
emit_to p m frame pos s name arguments hand r c =
    if not (is_valid r c.to) then went tt r
    else then_do (call_target p m frame pos c.to arguments hand (emitted r s name c)) (λ _ r. went tt (settled hand r))

abbrev pub emit_all : Project → Meaning → Frame → Pos → ℕ → Text → List Datum → List Datum → Run → List Connection
    → Went (Unit {0})
emit_all p m frame pos s name arguments hand r [] = went tt r
emit_all p m frame pos s name arguments hand r (c ∷ cs) =
    then_do (emit_to p m frame pos s name arguments hand r c) (λ _ r. emit_all p m frame pos s name arguments hand r cs)

-- the emission holds its arguments to its end
abbrev pub emit : Project → Meaning → Frame → Pos → ℕ → Text → List Datum → List Datum → Run → Went Datum
emit p m frame pos s name arguments hand r =
    then_do (emit_all p m frame pos s name arguments (arguments ++ hand) r (links r s name)) (λ _ r. gives hand null r)

-- the methods of a signal whose object is there; null is connected to nothing
abbrev pub signal_method : Project → Meaning → Frame → Pos → Builtin → ℕ → Text → List Datum → List Datum → Run
    → Went Datum
signal_method p m frame pos b.SignalConnect s name (d.callable c ∷ []) hand r = connect hand r s name c (int.pos 0)
signal_method p m frame pos b.SignalConnect s name (d.callable c ∷ d.int flags ∷ []) hand r =
    connect hand r s name c flags
signal_method p m frame pos b.SignalConnect s name (null ∷ more) hand r = gives hand (d.int (int.pos 31)) r
signal_method p m frame pos b.SignalDisconnect s name (d.callable c ∷ []) hand r = gives hand null (without r s name c)
signal_method p m frame pos b.SignalDisconnect s name (null ∷ []) hand r = gives hand null r
signal_method p m frame pos b.SignalIsConnected s name (d.callable c ∷ []) hand r = gives hand
    (d.bool (is_connected r s name c)) r
signal_method p m frame pos b.SignalIsConnected s name (null ∷ []) hand r = gives hand (d.bool false) r
signal_method p m frame pos b.SignalEmit s name arguments hand r = emit p m frame pos s name arguments hand r
signal_method p m frame pos other s name arguments hand r = failed ValueOfAnotherType pos None r.world

-- on a freed object it is a fault
abbrev pub call_signal : Project → Meaning → Frame → Pos → Builtin → ℕ → Text → List Datum → List Datum → Run
    → Went Datum
call_signal p m frame pos method s name arguments hand r =
    if is_there r s then signal_method p m frame pos method s name arguments hand r else failed FreedTarget pos None
    r.world
