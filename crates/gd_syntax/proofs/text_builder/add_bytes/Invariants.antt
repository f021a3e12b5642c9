use Rattle.std.proofs.Common.{◌≡◌, ◌+◌, ◌≤◌, ◌++◌, length, take}
use Rattle.gd_syntax.proofs.text_builder.add_bytes.Given as goal

abbrev pub invariant-loop-b : goal.invariant-loop-b
invariant-loop-b l = (l.chars.items ≡ l.initial.chars.items ++ take l.b-index l.bytes) × (length l.initial.chars.items + length l.bytes ≤ l.chars.capacity)
