-- What an instruction takes from the stack and leaves on it.
use Rattle.std.specs.Prelude.{ℕ, ◌+◌, ◌*◌, nat_lt, if◌then◌else◌}
use Rattle.gd_bytecode.specs.declared.effect.StackEffect.{StackEffect}
use Rattle.gd_bytecode.specs.declared.effect.StackEffect.TheVariants.{Values, Iterate, Next, Copy, Drop}
use Rattle.gd_bytecode.specs.declared.opcode.Opcode.{Opcode}
use Rattle.gd_bytecode.specs.declared.opcode.Opcode.TheVariants as op
use Rattle.gd_bytecode.specs.declared.program.Instr.{Instr}

-- the operators before one operand come last
abbrev pub operands : ℕ → ℕ
operands operator = if nat_lt operator 19 then 2 else 1

-- the values that an operation takes, also those that it leaves where they are
abbrev pub fixed_taken : Opcode → ℕ
fixed_taken op.SetAttr = 2
fixed_taken op.Index = 2
fixed_taken op.KeyOf = 2
fixed_taken op.Same = 2
fixed_taken op.Set = 1
fixed_taken op.SetOwn = 1
fixed_taken op.SetStatic = 1
fixed_taken op.JumpIf = 1
fixed_taken op.JumpIfNot = 1
fixed_taken op.Truth = 1
fixed_taken op.Attr = 1
fixed_taken op.Is = 1
fixed_taken op.As = 1
fixed_taken op.Return = 1
fixed_taken op.SizeArr = 1
fixed_taken op.SizeDict = 1
fixed_taken op.Elem = 1
fixed_taken op.Test = 1
fixed_taken o = 0

abbrev pub taken : Opcode → ℕ → ℕ
taken op.Array a = a
taken op.Direct a = a
taken op.New a = a
taken op.Builtin a = a
taken op.Fail a = a
taken op.Call a = a + 1
taken op.Dict a = 2 * a
taken op.DictOf a = 2 * a
taken op.Op a = operands a
taken op.SetIndex a = 3
taken o a = fixed_taken o

-- the values that it leaves
abbrev pub left : Opcode → ℕ
left op.KeyOf = 3
left op.SizeArr = 2
left op.SizeDict = 2
left op.Elem = 2
left op.Set = 0
left op.Clear = 0
left op.Jump = 0
left op.JumpIf = 0
left op.JumpIfNot = 0
left op.Turn = 0
left op.SetAttr = 0
left op.SetIndex = 0
left op.SetOwn = 0
left op.SetStatic = 0
left op.Default = 0
left op.Return = 0
left op.Fail = 0
left o = 1

abbrev pub effect_of : Opcode → ℕ → StackEffect
effect_of op.Dup a = Copy a
effect_of op.Drop a = Drop a
effect_of op.Iter a = Iterate 1
effect_of op.Range a = Iterate a
effect_of op.Next a = Next
effect_of o a = Values (taken o a) (left o)

abbrev pub effect : Instr → StackEffect
effect i = effect_of i.op i.a
