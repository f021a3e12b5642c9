use Rattle.std.proofs.Common.{◌≡◌, ◌||◌, ℕ, false, get_or, length, take}
use Rattle.std.specs.List.{list_any}
use Rattle.gd_bytecode.specs.FunctionFields.{names_so}
use Rattle.gd_bytecode.proofs.named.mark_class.Given as goal

abbrev pub invariant-loop-method : goal.invariant-loop-method
invariant-loop-method l = record {
  count : length l.named.items ≡ length l.program.functions;
  marked : (n : ℕ) → get_or l.named.items n false
      ≡ (list_any (names_so l.program n l.i) (take l.method-index l.methods) || get_or l.fn.named.items n false);
}
