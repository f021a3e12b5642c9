-- Where jumps may lead.
use Rattle.std.specs.Prelude.{ℕ, suc, Bool, true, false, not, ◌&&◌, nat_le, List, [], ◌∷◌, slice_get, Option, None, Some, if◌then◌else◌}
use Rattle.gd_bytecode.specs.declared.opcode.Opcode.{Opcode}
use Rattle.gd_bytecode.specs.declared.opcode.Opcode.TheVariants as op
use Rattle.gd_bytecode.specs.declared.program.Instr.{Instr}

-- the operation may go on at `b`
abbrev pub may_jump : Opcode → Bool
may_jump op.Jump = true
may_jump op.JumpIf = true
may_jump op.JumpIfNot = true
may_jump op.Next = true
may_jump op.Default = true
may_jump o = false

-- and at the next instruction
abbrev pub may_go_on : Opcode → Bool
may_go_on op.Jump = false
may_go_on op.Return = false
may_go_on op.Fail = false
may_go_on o = true

abbrev pub is_turn : Opcode → Bool
is_turn op.Turn = true
is_turn o = false

-- from instruction k to `b`: it is outside the code, or not forward and no Turn
abbrev pub is_wrong_target : ℕ → ℕ → Option Instr → Bool
is_wrong_target k b None = true
is_wrong_target k b (Some there) = nat_le b k && not (is_turn there.op)

abbrev pub is_wrong_jump : List Instr → ℕ → Instr → Bool
is_wrong_jump code k i = may_jump i.op && is_wrong_target k i.b (slice_get code i.b)

abbrev pub first_wrong : List Instr → ℕ → List Instr → Option ℕ
first_wrong code k [] = None
first_wrong code k (i ∷ rest) = if is_wrong_jump code k i then Some k else first_wrong code (suc k) rest

abbrev pub jump_fault : List Instr → Option ℕ
jump_fault code = first_wrong code 0 code
