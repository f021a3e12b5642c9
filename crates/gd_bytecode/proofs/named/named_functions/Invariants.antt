use Rattle.std.proofs.Common.{◌≡◌, ◌||◌, ℕ, false, drop, get_or, length}
use Rattle.gd_bytecode.specs.FunctionFields.{is_named, is_named_in}
use Rattle.gd_bytecode.proofs.named.named_functions.Given as goal

abbrev pub invariant-loop-i : goal.invariant-loop-i
invariant-loop-i l = record {
  count : length l.named.items ≡ length l.program.functions;
  marked : (n : ℕ) → is_named l.program n ≡ (get_or l.named.items n false || is_named_in l.program n l.i (drop l.i l.classes));
}
