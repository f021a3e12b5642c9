use Rattle.std.proofs.Common.{◌≡◌, drop}
use Rattle.std.specs.Str.{bytes_eq}
use Rattle.value_semantics.proofs.written.is_written.Given as goal

-- the characters that are left are equal exactly where all are
abbrev pub invariant-loop-i : goal.invariant-loop-i
invariant-loop-i l = bytes_eq (drop l.i l.name) (drop l.i l.chars) ≡ bytes_eq l.name l.chars
