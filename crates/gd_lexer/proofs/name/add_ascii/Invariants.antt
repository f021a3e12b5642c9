use Rattle.std.proofs.Common.{◌≡◌, ◌+◌, ◌≤◌, ◌++◌, length, take}
use Rattle.std.specs.Prelude.{vec_len, vec_capacity}
use Rattle.gd_lexer.proofs.name.add_ascii.Given as goal

abbrev pub invariant-loop-byte : goal.invariant-loop-byte
invariant-loop-byte l = record {
  added : l.chars.items ≡ l.initial.chars.items ++ take l.byte-index l.word;
  room : vec_len l.chars + length l.word ≤ vec_capacity l.chars + l.byte-index;
}
