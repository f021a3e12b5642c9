-- The machine tried on small programs.
use Rattle.std.specs.Prelude.{◌≡◌, ℕ, zero, suc, false, List, [], ◌∷◌, codes, pos, Option, None, Some}
use Rattle.gd_model.specs.declared.fault.RunFault.TheVariants.{AssertionFailed}
use Rattle.gd_model.specs.declared.outcome.Outcome.{Outcome}
use Rattle.gd_model.specs.declared.outcome.Outcome.TheVariants.{Done, Fault, OutOfTurns}
use Rattle.gd_model.specs.declared.ty.Ty.TheVariants.{Variant}
use Rattle.store_semantics.specs.World.{Seen, line, freed}
use Rattle.gd_bytecode.specs.declared.opcode.Opcode.{Opcode}
use Rattle.gd_bytecode.specs.declared.opcode.Opcode.TheVariants as op
use Rattle.gd_bytecode.specs.declared.program.ClassCode.{ClassCode}
use Rattle.gd_bytecode.specs.declared.program.Function.{Function}
use Rattle.gd_bytecode.specs.declared.program.Instr.{Instr}
use Rattle.gd_bytecode.specs.declared.program.Program.{Program}
use Rattle.gd_bytecode.specs.Running.{Answer, quiet, sees, has_ended, machine_step, initial}
use Rattle.gd_bytecode.specs.State.{State}

-- what is seen, and how the run ends, within so many steps
abbrev pub with_seen : Seen → Option (List Seen × Outcome) → Option (List Seen × Outcome)
with_seen e None = None
with_seen e (Some q) = Some (e ∷ q.0, q.1)

abbrev pub by_answer : Answer → Option (List Seen × Outcome) → Option (List Seen × Outcome)
by_answer quiet rest = rest
by_answer (sees e) rest = with_seen e rest
by_answer (has_ended o) rest = Some ([], o)

abbrev pub within : ℕ → Program → State → Option (List Seen × Outcome)
within zero p st = None
within (suc n) p st = let q : State × Answer = machine_step p st in by_answer q.1 (within n p q.0)

abbrev pub at : ℕ → Opcode → ℕ → ℕ → Instr
at row o a b = record { op = o; a = a; b = b; line = row; column = 2 }

-- a method of the only class
abbrev pub method : ℕ → List Instr → Function
method name code = record { name = name; path = 0; class = 0; is_static = false; params = 0; required = 0; types = 0 ∷ []; returns = 0; code = code }

abbrev pub only_class : ClassCode
only_class = record {
  name = 1;
  path = 0;
  base = None;
  variables = [];
  methods = record { name = 0; function = 0 } ∷ record { name = 2; function = 1 } ∷ [];
  signals = [];
  initial = None;
  static_initial = None;
  static_init = None;
}

-- a program of one class A, whose methods `test` and `f` have this code
abbrev pub program : List Instr → List Instr → Program
program test f = record {
  paths = codes "main.gd" ∷ [];
  texts = codes "test" ∷ codes "A" ∷ codes "f" ∷ [];
  ints = pos 42 ∷ [];
  types = Variant ∷ [];
  constants = [];
  classes = only_class ∷ [];
  functions = method 0 test ∷ method 2 f ∷ [];
  main = 0;
}

abbrev pub ends : List Instr
ends = at 3 op.Push 0 0 ∷ at 3 op.Return 0 0 ∷ []

-- it prints A, and the main instance goes at the end
abbrev pub prints : Program
prints = program (at 2 op.Push 4 1 ∷ at 2 op.Builtin 1 0 ∷ at 2 op.Drop 1 0 ∷ ends) ends

abbrev pub PrintsText : Type 0
PrintsText = within 20 prints (initial prints 5) ≡ Some (line (codes "A") ∷ freed 1 1 ∷ [], Done)

-- an object that a local held goes as its function returns, before what follows in the caller
abbrev pub makes : Program
makes = program
    (at 2 op.Me 0 0 ∷ at 2 op.Call 0 2 ∷ at 2 op.Builtin 1 0 ∷ at 2 op.Drop 1 0 ∷ ends)
    (at 5 op.New 0 0 ∷ at 5 op.Set 0 0 ∷ at 6 op.Push 4 1 ∷ at 6 op.Return 0 0 ∷ [])

abbrev pub FreesLocal : Type 0
FreesLocal = within 40 makes (initial makes 9) ≡ Some (freed 2 0 ∷ line (codes "A") ∷ freed 1 1 ∷ [], Done)

-- without a turn for `f` the run ends
abbrev pub NeedsTurns : Type 0
NeedsTurns = within 40 makes (initial makes 2) ≡ Some ([], OutOfTurns)

-- an assertion stands at its place, with its message
abbrev pub asserts : Program
asserts = program (at 2 op.Push 4 1 ∷ at 2 op.Fail 1 0 ∷ []) ends

abbrev pub Fails : Type 0
Fails = within 20 asserts (initial asserts 5) ≡ Some ([], Fault AssertionFailed (record { file = 0; line = 2; column = 2 }) (Some (codes "A")))
