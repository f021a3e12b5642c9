-- What holds of an instruction whatever leads to it.
use Rattle.std.specs.Prelude.{ℕ, suc, Bool, true, false, not, ◌&&◌, ◌||◌, nat_le, length, slice_get}
use Rattle.std.specs.Option.{option_map_or}
use Rattle.gd_bytecode.specs.declared.opcode.Opcode.{Opcode}
use Rattle.gd_bytecode.specs.declared.opcode.Opcode.TheVariants as op
use Rattle.gd_bytecode.specs.declared.program.Function.{Function}
use Rattle.gd_bytecode.specs.declared.program.Instr.{Instr}
use Rattle.gd_bytecode.specs.declared.program.Program.{Program}
use Rattle.gd_bytecode.specs.Jumps.{may_go_on}

-- the instruction uses the receiver: by itself, by a variable, or for a function that is not static
abbrev pub op_uses : Program → Opcode → ℕ → Bool
op_uses p op.Me b = true
op_uses p op.Own b = true
op_uses p op.SetOwn b = true
op_uses p op.Direct b = option_map_or (λ (f : Function). not f.is_static) (slice_get p.functions b) false
op_uses p o b = false

abbrev pub uses_receiver : Program → Instr → Bool
uses_receiver p i = op_uses p i.op i.b

-- a static function has none, and behind the last instruction nothing stands
abbrev pub is_right_alone : Program → Function → ℕ → Instr → Bool
is_right_alone p f k i = (not f.is_static || not (uses_receiver p i)) && not (nat_le (length f.code) (suc k) && may_go_on i.op)
